-- What is asked before a verdict, and why a line is not refused.
use Rattle.std.proofs.Common.{◌≡◌, ℕ, Bool, true, false, if◌then◌else◌, List, [], ◌∷◌, ◌++◌, Option, Some, None, refl, ap, bytes_eq}
use Rattle.std.{specs.Prelude.{option_map}, specs.Option.{option_or}, proofs.lemmas.Slice.Eq.{bytes_eq-Decides}}
use Rattle.deck_lines.specs.declared.deck_error.DeckError.{DeckError}
use Rattle.deck_syntax.specs.Decks.{Asked}
use Rattle.preflight.specs.{declared.why.Why.{Why}, declared.why.Why.TheVariants.{Line, Foreign}, Examined.{Verdict, Admits, Refuses}}
use Rattle.preflight.specs.inner.Reading.{and_then, all_then, foreign}

pub both_then : (xs ys : List Asked) (v : Verdict) → all_then xs (all_then ys v) ≡ all_then (xs ++ ys) v
both_then [] ys v = refl
both_then (x ∷ xs) ys v = ap (and_then x) (both_then xs ys v)

pub all_admitted : (xs rest : List Asked) → all_then xs (Admits rest) ≡ Admits (xs ++ rest)
all_admitted [] rest = refl
all_admitted (x ∷ xs) rest = ap (and_then x) (all_admitted xs rest)

pub all_refused : (xs : List Asked) (n : ℕ) (why : Why) → all_then xs (Refuses n why) ≡ Refuses n why
all_refused [] n why = refl
all_refused (x ∷ xs) n why = ap (and_then x) (all_refused xs n why)

-- neither for what it is nor for whose it is
pub none_both : (r : Option DeckError) (w : Option Why) → option_or (option_map Line r) w ≡ None → (r ≡ None) × (w ≡ None)
none_both None w is = (refl, is)
none_both (Some code) w is = cc

-- whose an account is that is not foreign
pub is_own : (own account : List ℕ) → foreign own account ≡ None → account ≡ own
is_own own account mine = by (bytes_eq account own) refl mine
  where
    nothing : (why : Why) → Some why ≡ None → account ≡ own
    nothing why is = cc

    by : (b : Bool) → bytes_eq account own ≡ b → (if b then None else Some Foreign) ≡ None → account ≡ own
    by true e mine = (bytes_eq-Decides account own).0 e
    by false e mine = nothing Foreign mine

pub not_foreign : (own account : List ℕ) → account ≡ own → foreign own account ≡ None
not_foreign own account is = ap (λ (b : Bool). (let w : Option Why = if b then None else Some Foreign in w)) ((bytes_eq-Decides account own).1 is)
