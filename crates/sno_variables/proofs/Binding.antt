-- Names and their values, one after the other.
use Rattle.std.proofs.Common.{◌≡◌, ℕ, zero, suc, ◌-◌, ◌<◌, ◌≤◌, List, [], ◌∷◌, ◌++◌, length, get_or, drop, drop-cons, refl, sym, ap, ◌∙◌, arith}
use Rattle.std.{proofs.Math.Seq.{drop-length}, specs.Prelude.{unwrap_or, slice_get}}
use Rattle.sno_value.specs.{declared.value.Value.{Value}, Values.{null}}
use Rattle.sno_variables.specs.Bindings.{Bindings, paired}

paired_nulls : (names : List (List ℕ)) (i : ℕ) (d : List ℕ) → i < length names
    → paired (drop i names) [] ≡ (get_or names i d, null) ∷ paired (drop (suc i) names) []
paired_nulls names i d h = ap (λ ns. paired ns []) (drop-cons names i d h)

-- the first name with the first value, and the others with the others
pub paired_at : (names : List (List ℕ)) (values : List Value) (i : ℕ) (d : List ℕ) → i < length names
    → paired (drop i names) (drop i values) ≡ (get_or names i d, unwrap_or (slice_get values i) null) ∷ paired (drop (suc i) names) (drop (suc i) values)
paired_at [] values i d h = absurd (omega arith)
paired_at (name ∷ names) [] zero d h = refl
paired_at (name ∷ names) [] (suc i) d h = paired_nulls names i d (omega arith)
paired_at (name ∷ names) (v ∷ vs) zero d h = refl
paired_at (name ∷ names) (v ∷ vs) (suc i) d h = paired_at names vs i d (omega arith)

-- the pair before those that were bound
pub paired_before : (names : List (List ℕ)) (values : List Value) (left : ℕ) (more : Bindings) (d : List ℕ) → 0 < left → left ≤ length names
    → (get_or names (left - 1) d, unwrap_or (slice_get values (left - 1)) null) ∷ (paired (drop left names) (drop left values) ++ more)
    ≡ paired (drop (left - 1) names) (drop (left - 1) values) ++ more
paired_before names values left more d some within =
    let next : suc (left - 1) ≡ left = omega arith in
    let split = paired_at names values (left - 1) d (omega arith)
    ∙ ap (λ n. (get_or names (left - 1) d, unwrap_or (slice_get values (left - 1)) null) ∷ paired (drop n names) (drop n values)) next in
    sym (ap (λ ps. ps ++ more) split)

pub none_paired : (names : List (List ℕ)) (values : List Value) (more : Bindings) → more ≡ paired (drop (length names) names) (drop (length names) values) ++ more
none_paired names values more = sym (ap (λ ns. paired ns (drop (length names) values) ++ more) (drop-length names))
