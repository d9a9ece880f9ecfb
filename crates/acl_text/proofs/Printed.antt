-- The printed form as the first entry, and a comma before each other.
use Rattle.std.proofs.Common.{◌≡◌, ◌∙◌, ap, ℕ, ◌≤◌, List, [], ◌∷◌, ◌++◌, map, length, ◌-◌, take, drop, get_or, arith, append-nil}
use Rattle.std.{specs.Prelude.{flat_map}, specs.List.{join_with_byte}, proofs.lemmas.List.{take_all}}
use Rattle.mon_acl.specs.declared.entries.Entry.{Entry}
use Rattle.acl_text.specs.Printing.{entry_text, next_text, short_form}

in_a_row : (f : Entry → List ℕ) (e : Entry) (es : List Entry) → f e ++ flat_map (λ d. 44 ∷ f d) es ≡ join_with_byte 44 (map f (e ∷ es))
in_a_row f e [] = append-nil (f e)
in_a_row f e (d ∷ es) = ap (λ (t : List ℕ). f e ++ (44 ∷ t)) (in_a_row f d es)

pub whole_form : (xs self : List Entry) (x : Entry) → xs ≡ self → 1 ≤ length xs → x ≡ get_or xs 0 x
    → entry_text x ++ flat_map next_text (take (length xs - 1) (drop 1 xs)) ≡ short_form self
whole_form [] self x same l is = absurd (omega arith)
whole_form (y ∷ ys) self x same l is =
    ap (λ (t : List Entry). entry_text x ++ flat_map next_text t) (take_all (length (y ∷ ys) - 1) ys (omega arith))
    ∙ ap (λ (e : Entry). entry_text e ++ flat_map next_text ys) is ∙ in_a_row entry_text y ys ∙ ap (λ (es : List Entry). short_form es) same
