-- Texts of one set or line more.
use Rattle.std.proofs.Common.{◌≡◌, ℕ, List, [], ◌∷◌, ◌++◌}
use Rattle.std.proofs.lemmas.List.Concat.{flat_map-append}
use Rattle.mon_catalogue.specs.{declared.data_set.DataSet.{DataSet}, Sets.{Sets}, Text.{catalogue_text, catalogue_lines, set_lines, text_of}}

pub text_of_append : (ls ms : List (List ℕ)) → text_of (ls ++ ms) ≡ text_of ls ++ text_of ms
text_of_append ls ms = flat_map-append (λ (line : List ℕ). line ++ 10 ∷ []) ls ms

pub catalogue_text_cons : (set : List ℕ × DataSet) (sets : Sets) → catalogue_text (set ∷ sets) ≡ text_of (set_lines set) ++ catalogue_text sets
catalogue_text_cons set sets = text_of_append (set_lines set) (catalogue_lines sets)
