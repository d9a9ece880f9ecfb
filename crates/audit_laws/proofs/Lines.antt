-- Lines one after the other, and what they tell.
use Rattle.std.proofs.Common.{◌≡◌, ℕ, List, [], ◌∷◌, ◌++◌, refl, sym, ap, ◌∙◌, append_assoc, append-nil}
use Rattle.std.specs.{Prelude.{map}, List.{slice_split}}
use Rattle.mon_text.specs.Characters.{is_blank}
use Rattle.audit_laws.{specs.Telling.{Told}, specs.Reading.{told_in, audit_tells}, proofs.Words.{IsLineOf, line_found}}

-- a text is lines that tell these, whatever follows
abbrev pub Tells : List ℕ → List Told → Type 0
Tells text told = (rest : List ℕ) → audit_tells (text ++ rest) ≡ told ++ audit_tells rest

pub no_lines : Tells [] []
no_lines rest = refl

pub one_line : (line : List ℕ) (ws : List (List ℕ)) (told : Told) → IsLineOf line ws → told_in ws ≡ told → Tells line (told ∷ [])
one_line line ws told is tells rest =
    let found = line_found line rest ws is in
    ap (map (λ (text : List ℕ). told_in (slice_split is_blank text))) found.1
    ∙ ap (λ (words : List (List ℕ)). told_in words ∷ audit_tells rest) found.2 ∙ ap (λ (t : Told). t ∷ audit_tells rest) tells

pub then_lines : (a b : List ℕ) (xs ys : List Told) → Tells a xs → Tells b ys → Tells (a ++ b) (xs ++ ys)
then_lines a b xs ys ta tb rest =
    ap audit_tells (append_assoc a b rest) ∙ ta (b ++ rest) ∙ ap (λ (l : List Told). xs ++ l) (tb rest) ∙ sym (append_assoc xs ys (audit_tells rest))

pub whole : (text : List ℕ) (told : List Told) → Tells text told → audit_tells text ≡ told
whole text told t = ap audit_tells (sym (append-nil text)) ∙ t [] ∙ append-nil told
