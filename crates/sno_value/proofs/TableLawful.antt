-- The laws of tables.
use Rattle.std.proofs.Common.{◌≡◌, Bool, true, false, cond, List, [], ◌∷◌, Option, Some, None, refl, sym, ap, ◌∙◌, nat_eq, true≢false}
use Rattle.std.specs.{Prelude.{unwrap_or, if◌then◌else◌}, Map.{lookup}, Ordering.{int_eq}, Cmp.Lexicographic.{pointwise}}
use Rattle.indexmap.specs.IndexMap.{insert_entry}
use Rattle.sno_value.specs.declared.{value.Value.{Value}, value.Value.TheVariants.{Text, Integer, Pattern, Unevaluated, Table}, key.Key.{Key}}
use Rattle.sno_value.specs.{Primitives.{are_identical}, declared.key.Place.{Place}, Keys.{key_of, same_key, same_place}, Tables.{Tables, item_of, put}}
use Rattle.sno_value.specs.{TableLaws.{SameWhereIdentical, SetIsFound, OthersStay}, inner.Same.{place_decides, same_place_equiv}}
use Rattle.sno_value.specs.declared.key.Key.TheVariants as key

abbrev Items : Type 0
Items = List (Place × Value)

found : (p : Place) (v : Value) (es : Items) → lookup (same_place p) (insert_entry same_place es p v) ≡ Some v
found p v [] = ap (λ (b : Bool). let o : Option Value = cond b (Some v) None in o) (same_place_equiv.refl p)
found p v (e ∷ es) = by (same_place p e.0) refl (found p v es)
  where
    by : (b : Bool) → same_place p e.0 ≡ b → lookup (same_place p) (insert_entry same_place es p v) ≡ Some v
        → lookup (same_place p) (if b then (e.0, v) ∷ es else e ∷ insert_entry same_place es p v) ≡ Some v
    by true h rest = ap (λ (c : Bool). cond c (Some v) (lookup (same_place p) es)) h
    by false h rest = ap (λ (c : Bool). cond c (Some e.1) (lookup (same_place p) (insert_entry same_place es p v))) h ∙ rest

pub set_is_found : SetIsFound
set_is_found p v ts = ap (λ (o : Option Value). unwrap_or o (Text [])) (found p v ts.items)

others : (p q : Place) (v : Value) (es : Items) → same_place q p ≡ false → lookup (same_place q) (insert_entry same_place es p v) ≡ lookup (same_place q) es
others p q v [] h = ap (λ (b : Bool). let o : Option Value = cond b (Some v) None in o) h
others p q v (e ∷ es) h = by (same_place p e.0) refl (others p q v es h)
  where
    by : (b : Bool) → same_place p e.0 ≡ b → lookup (same_place q) (insert_entry same_place es p v) ≡ lookup (same_place q) es
        → lookup (same_place q) (if b then (e.0, v) ∷ es else e ∷ insert_entry same_place es p v) ≡ lookup (same_place q) (e ∷ es)
    by true g rest =
        let no : same_place q e.0 ≡ false = ap (λ (r : Place). same_place q r) (sym ((place_decides p e.0).0 g)) ∙ h in
        ap (λ (c : Bool). cond c (Some v) (lookup (same_place q) es)) no ∙ sym (ap (λ (c : Bool). cond c (Some e.1) (lookup (same_place q) es)) no)
    by false g rest = ap (λ (o : Option Value). cond (same_place q e.0) (Some e.1) o) rest

pub others_stay : OthersStay
others_stay p q v ts h = ap (λ (o : Option Value). unwrap_or o (Text [])) (others p q v ts.items h)

pub same_where_identical : SameWhereIdentical
same_where_identical (Text s) (Text t) k l g h = let a : key.Text s ≡ k = cc in let b : key.Text t ≡ l = cc in rw (sym a, sym b) refl
same_where_identical (Text s) (Integer n) k l g h = let a : key.Text s ≡ k = cc in let b : key.Integer n ≡ l = cc in rw (sym a, sym b) refl
same_where_identical (Text s) (Table n) k l g h = let a : key.Text s ≡ k = cc in let b : key.Table n ≡ l = cc in rw (sym a, sym b) refl
same_where_identical (Integer m) (Text t) k l g h = let a : key.Integer m ≡ k = cc in let b : key.Text t ≡ l = cc in rw (sym a, sym b) refl
same_where_identical (Integer m) (Integer n) k l g h = let a : key.Integer m ≡ k = cc in let b : key.Integer n ≡ l = cc in rw (sym a, sym b) refl
same_where_identical (Integer m) (Table n) k l g h = let a : key.Integer m ≡ k = cc in let b : key.Table n ≡ l = cc in rw (sym a, sym b) refl
same_where_identical (Table m) (Text t) k l g h = let a : key.Table m ≡ k = cc in let b : key.Text t ≡ l = cc in rw (sym a, sym b) refl
same_where_identical (Table m) (Integer n) k l g h = let a : key.Table m ≡ k = cc in let b : key.Integer n ≡ l = cc in rw (sym a, sym b) refl
same_where_identical (Table m) (Table n) k l g h = let a : key.Table m ≡ k = cc in let b : key.Table n ≡ l = cc in rw (sym a, sym b) refl
same_where_identical (Pattern p) b k l g h = absurd cc
same_where_identical (Unevaluated n) b k l g h = absurd cc
same_where_identical (Text s) (Pattern p) k l g h = absurd cc
same_where_identical (Text s) (Unevaluated n) k l g h = absurd cc
same_where_identical (Integer m) (Pattern p) k l g h = absurd cc
same_where_identical (Integer m) (Unevaluated n) k l g h = absurd cc
same_where_identical (Table m) (Pattern p) k l g h = absurd cc
same_where_identical (Table m) (Unevaluated n) k l g h = absurd cc
