-- One data set more is written.
use Rattle.std.proofs.Common.{◌≡◌, ℕ, ◌+◌, ◌≤◌, List, [], ◌∷◌, ◌++◌, length, map, drop, Some, slice_get, sym, ap, ◌∙◌, append_assoc}
use Rattle.std.proofs.lemmas.List.{drop_all}
use Rattle.mon_catalogue.specs.{declared.data_set.DataSet.{DataSet}, Sets.{Sets}}
use Rattle.ledger_index.specs.Index.{entry_text}
use Rattle.ledger_sets.proofs.Walking.{at_place}
use Rattle.ledger_checkpoint.specs.{Checkpoints.{piece_of, entry_at, entries_from}, Writing.{entry_texts}}

module _ (sets : Sets) (place : ℕ) (named : List ℕ × DataSet) (stood : Some named ≡ slice_get sets place) where
  abbrev rest : Sets
  rest = drop (place + 1) sets

  pub entries_on : (was is : ℕ) → is ≡ was + length (piece_of named) → (old new : List (List ℕ)) → new ≡ old ++ entry_text (entry_at was named) ∷ []
      → new ++ entry_texts (entries_from is rest) ≡ old ++ entry_texts (entries_from was (drop place sets))
  entries_on was is longer old new e =
      ap (λ (l : List (List ℕ)). l ++ entry_texts (entries_from is rest)) e
      ∙ append_assoc old (entry_text (entry_at was named) ∷ []) (entry_texts (entries_from is rest))
      ∙ ap (λ (n : ℕ). old ++ entry_text (entry_at was named) ∷ entry_texts (entries_from n rest)) longer
      ∙ ap (λ (l : Sets). old ++ entry_texts (entries_from was l)) (sym (at_place place sets named stood))

  pub pieces_on : (old new : List (List ℕ)) → new ≡ old ++ piece_of named ∷ [] → new ++ map piece_of rest ≡ old ++ map piece_of (drop place sets)
  pieces_on old new e =
      ap (λ (l : List (List ℕ)). l ++ map piece_of rest) e
      ∙ append_assoc old (piece_of named ∷ []) (map piece_of rest)
      ∙ ap (λ (l : Sets). old ++ map piece_of l) (sym (at_place place sets named stood))

-- none is left
pub no_pieces : (sets : Sets) (place : ℕ) → length sets ≤ place → map piece_of (drop place sets) ≡ []
no_pieces sets place end = ap (map piece_of) (drop_all place sets end)

pub no_entries : (sets : Sets) (place n : ℕ) → length sets ≤ place → entry_texts (entries_from n (drop place sets)) ≡ []
no_entries sets place n end = ap (λ (l : Sets). entry_texts (entries_from n l)) (drop_all place sets end)
