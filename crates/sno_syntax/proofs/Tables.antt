-- Labels in a table whose keys are texts.
use Rattle.std.proofs.Common.{◌≡◌, ℕ, Bool, true, false, List, [], ◌∷◌, Some, slice_get, map, if◌then◌else◌, zero, suc, refl, sym, ap, ◌∙◌}
use Rattle.std.specs.{Prelude.{Vec, bytes_eq, option_map}, Map.{lookup}, Cmp.Lexicographic.{bytes_decides}}
use Rattle.indexmap.specs.IndexMap.{insert_entry}
use Rattle.sno_syntax.specs.Labels.{LabelList}

module _ {Z : Type 0} where
  abbrev pub shown : List (Vec ℕ Z × ℕ) → LabelList
  shown es = map (λ e. (e.0.items, e.1)) es

  pub lookup_shown : (p : List ℕ → Bool) (es : List (Vec ℕ Z × ℕ)) → lookup p (shown es) ≡ lookup (λ v. p v.items) es
  lookup_shown p [] = refl
  lookup_shown p (e ∷ es) = ap (λ o. if p e.0.items then Some e.1 else o) (lookup_shown p es)

  pub insert_shown : (es : List (Vec ℕ Z × ℕ)) (key : Vec ℕ Z) (at : ℕ)
      → shown (insert_entry (λ a b. bytes_eq a.items b.items) es key at) ≡ insert_entry bytes_eq (shown es) key.items at
  insert_shown [] key at = refl
  insert_shown (e ∷ es) key at = by (bytes_eq key.items e.0.items) (insert_shown es key at)
    where
      by : (b : Bool) → shown (insert_entry (λ a b. bytes_eq a.items b.items) es key at) ≡ insert_entry bytes_eq (shown es) key.items at
          → shown (if b then (e.0, at) ∷ es else e ∷ insert_entry (λ a b. bytes_eq a.items b.items) es key at)
          ≡ (if b then (e.0.items, at) ∷ shown es else (e.0.items, e.1) ∷ insert_entry bytes_eq (shown es) key.items at)
      by true same = refl
      by false same = ap (λ l. (e.0.items, e.1) ∷ l) same

  pub entry_shown : (es : List (Vec ℕ Z × ℕ)) (i : ℕ) → slice_get (shown es) i ≡ option_map (λ e. (e.0.items, e.1)) (slice_get es i)
  entry_shown [] i = refl
  entry_shown (e ∷ es) zero = refl
  entry_shown (e ∷ es) (suc i) = entry_shown es i

  -- what a label has that is equal to a key
  pub found_shown : (es : List (Vec ℕ Z × ℕ)) (key : Vec ℕ Z) (label : List ℕ) (at : ℕ)
      → lookup (λ v. bytes_eq key.items v.items) es ≡ Some at → bytes_eq key.items label ≡ true → Some at ≡ lookup (bytes_eq label) (shown es)
  found_shown es key label at there same =
      let one : key.items ≡ label = (bytes_decides key.items label).0 same in
      sym (lookup_shown (bytes_eq label) es ∙ ap (λ text. lookup (λ v. bytes_eq text v.items) es) (sym one) ∙ there)

pub ruleset tables = (lookup_shown, insert_shown, entry_shown, found_shown)
