-- The loop over the tokens, one step and the ends.
use Rattle.std.{proofs.Common.{arith, ◌≡◌, ℕ, zero, suc, ◌+◌, ◌-◌, ◌<◌, length, List, [], ◌∷◌, drop, get_or, refl, sym, ap, ◌∙◌, add-one, drop-cons}, specs.Prelude.{Bool, Option, Some, None}}
use Rattle.std.proofs.lemmas.Bool.Decides.{nat_tests}
use Rattle.sno_lexer.specs.declared.token.Token.{Token}
use Rattle.sno_expression.{specs.Expressions.{Expression}, specs.inner.Reading.{State, read, result}, specs.inner.Told.{Next, End, stepped, reading}}
use Rattle.sno_expression.specs.inner.Telling.{most, lack_at, fits_at, Told, Tells, with_lack, told}

pub more : (ts : List Token) (i : ℕ) (t : Token) → i < length ts → t ≡ get_or ts i t → drop i ts ≡ t ∷ drop (i + 1) ts
more ts i t lt e = rw add-one (drop-cons ts i t lt ∙ ap (λ (u : Token). u ∷ drop (suc i) ts) (sym e))

next_step : (o : Option State) (r : Option Expression) (b : Bool) (v : State) → Next v ≡ stepped o r b → o ≡ Some v
next_step None r b v e = cc
next_step (Some s) r b v e = cc

end_step : (o : Option State) (r t : Option Expression) (b w : Bool) → End t w ≡ stepped o r b → (o ≡ None) × (t ≡ r) × (w ≡ b)
end_step None r t b w e = (refl, cc, cc)
end_step (Some s) r t b w e = cc

-- places further left
pub most_most : (a b c : ℕ) → most (most a b) c ≡ most a (most b c)
most_most a b c = grind (arith, nat_tests)

pub none_most : (a : ℕ) → most 0 a ≡ a
none_most a = grind (arith, nat_tests)

pub most_none : (a : ℕ) → most a 0 ≡ a
most_none a = grind (arith, nat_tests)

pub with_none : (x : Told) → with_lack 0 x ≡ x
with_none (Tells t rest n b) = rw (none_most n)

pub with_both : (a b : ℕ) (x : Told) → with_lack a (with_lack b x) ≡ with_lack (most a b) x
with_both a b (Tells t rest n c) = rw (most_most a b n)

-- a token is read
pub on_next : (alone : Bool) (s v : State) (t : Token) (ts m : List Token) (l n : ℕ) (a : Told) → ts ≡ t ∷ m → Next v ≡ reading alone s t
    → n ≡ most l (lack_at s t (length ts)) → a ≡ with_lack l (told alone s ts) → a ≡ with_lack n (told alone v m)
on_next alone s v t ts m l n a d e c h =
    rw (h, d, next_step (read alone s t) (result s) (fits_at alone s t.kind) v e, with_both l (lack_at s t (length (t ∷ m))) (told alone v m), c, d)

-- a token is not taken
pub on_end : (alone : Bool) (s : State) (u : Option Expression) (t : Token) (ts m : List Token) (l : ℕ) (b : Bool) (a : Told) → ts ≡ t ∷ m
    → End u b ≡ reading alone s t → a ≡ with_lack l (told alone s ts) → Tells u ts l b ≡ a
on_end alone s u t ts m l b a d e h =
    let q = end_step (read alone s t) (result s) u (fits_at alone s t.kind) b e in rw (h, d, q.0, most_none l, q.1, q.2)

-- what is left from a place on
pub left_from : (ts m : List Token) (i : ℕ) (t : Token) → drop i ts ≡ t ∷ m → length ts - i ≡ length (drop i ts)
left_from ts m zero t e = omega arith
left_from [] m (suc i) t e = cc
left_from (u ∷ ts) m (suc i) t e = let h = left_from ts m i t e in omega (arith, h)
