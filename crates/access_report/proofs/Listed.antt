-- What is told of a list, of one element more.
use Rattle.std.proofs.Common.{◌≡◌, ℕ, ◌+◌, ◌<◌, List, [], ◌∷◌, ◌++◌, length, take, Some, None, slice_get, sym, ap, ◌∙◌, inl, inr, arith}
use Rattle.std.specs.List.{flat_map}
use Rattle.std.proofs.lemmas.{List.{take_more, flat_map_more}, Option.{slice_get_within, get_or_from_slice_get, slice_get_cases}}

-- the element at the index was told
pub one_more : {A : Type 0} (told : A → List ℕ) (start before after : List ℕ) (xs : List A) (index : ℕ) (x : A) → slice_get xs index ≡ Some x
    → before ≡ start ++ flat_map told (take index xs) → after ≡ before ++ told x → after ≡ start ++ flat_map told (take (index + 1) xs)
one_more told start before after xs index x there so_far put =
    put ∙ ap (λ text. text ++ told x) so_far ∙ flat_map_more told start (take index xs) x
    ∙ ap (λ ys. start ++ flat_map told ys)
    (sym (take_more xs index x (slice_get_within xs index x there) ∙ ap (λ y. take index xs ++ y ∷ []) (get_or_from_slice_get xs index x x there)))

-- there is an element at each index within the list
pub not_past : {A : Type 0} (xs : List A) (index : ℕ) → index < length xs → slice_get xs index ≡ None → ⊥
not_past xs index inside none =
    elim (slice_get_cases xs index).1 [
      | inl w ↦ let both : None ≡ Some w.0 = sym none ∙ w.2 in cc
      | inr w ↦ absurd (omega arith)
    ]
