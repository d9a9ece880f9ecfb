-- As many statements have begun as a job's state tells.
use Rattle.std.proofs.Common.{◌≡◌, ℕ, ◌+◌, ◌<◌, Bool, true, false, List, [], ◌∷◌, Option, Some, None, refl, ap, sym, subst, arith, nat_lt, ◌&&◌}
use Rattle.std.{specs.Prelude.{if◌then◌else◌}, proofs.lemmas.Bool.Decides.{nat_tests}}
use Rattle.interaction.specs.{Interactions.{Returns, Asks, ◌>>=◌}, Endings.{EndsIn}, declared.answer.Answer.{Answer}, declared.answer.Answer.TheVariants.{Done}}
use Rattle.interaction.specs.{Asking.{Asking}, Counting.{Moment, Beginning, Requesting, Counted, Passed, lifted, statements_in, IsTrace}}
use Rattle.interaction.proofs.Counting.{with_statement}
use Rattle.sno_semantics.{specs.Keeping.{Entered, Enters}, proofs.Growing.{Grows}}
use Rattle.sno_store.specs.{declared.store.Store.{Store as State}, States.{may_begin, with_statement as with_statement_begun}}
use Rattle.sno_cards.specs.declared.limits.Limits.{Limits}
use Rattle.sno_state.specs.{Using.{used, assigned}, Matching.{matched}, Calling.{begun}, Primitives.{primitive}, State.{keeping}}
use Rattle.sno_state.proofs.Counting.{Inside, used_stays, assigned_stays, keyword_stays, item_stays, matched_stays, entered_stays, left_stays, primitive_stays}

-- so many statements have begun: each that begins is one more, within the limit; and what it ends with tells how many
abbrev pub Tallied : {A : Type 0} → ℕ → (A → ℕ) → ℕ → Counted A → Type 0
Tallied limit count n (Returns a) = count a ≡ n
Tallied limit count n (Asks Beginning f) = (n < limit) × Tallied limit count (n + 1) (f Done)
Tallied limit count n (Asks (Requesting q) f) = (r : Answer) → Tallied limit count n (f r)

module _ (limit : ℕ) where
  pub tallied_then : {A B : Type 0} (count : A → ℕ) (counts : B → ℕ) (n : ℕ) (t : Counted A) (k : A → Counted B)
      → Tallied limit count n t → ((a : A) → Tallied limit counts (count a) (k a)) → Tallied limit counts n (t >>= k)
  tallied_then count counts n (Returns a) k h g = subst (λ (m : ℕ). Tallied limit counts m (k a)) h (g a)
  tallied_then count counts n (Asks Beginning f) k h g = (h.0, tallied_then count counts (n + 1) (f Done) k h.1 g)
  tallied_then count counts n (Asks (Requesting q) f) k h g = λ r. tallied_then count counts n (f r) k (h r) g

  tallied_lifted : {A : Type 0} (count : A → ℕ) (n : ℕ) (t : Asking A) → EndsIn (λ (a : A). count a ≡ n) t → Tallied limit count n (lifted t)
  tallied_lifted count n (Returns a) h = h
  tallied_lifted count n (Asks q f) h = λ r. tallied_lifted count n (f r) (h r)

  -- what it ends with tells how many have begun
  pub tallied_told : {A : Type 0} (count : A → ℕ) (n : ℕ) (t : Counted A) (x : List Passed) (a : A) → Tallied limit count n t → IsTrace t x a → count a ≡ n + statements_in x
  tallied_told count n (Returns b) [] a h g = let is : count a ≡ count b = ap count g in omega (arith, is, h)
  tallied_told count n (Returns b) (m ∷ x) a h g = absurd g
  tallied_told count n (Asks q f) [] a h g = absurd g
  tallied_told count n (Asks Beginning f) (m ∷ x) a h g =
      let rest : count a ≡ n + 1 + statements_in x = tallied_told count (n + 1) (f Done) x a h.1 (subst (λ (r : Answer). IsTrace (f r) x a) g.1 g.2) in
      subst (λ (z : Moment). count a ≡ n + with_statement z (statements_in x)) (sym g.0) (omega (arith, rest))
  tallied_told count n (Asks (Requesting q) f) (m ∷ x) a h g =
      subst (λ (z : Moment). count a ≡ n + with_statement z (statements_in x)) (sym g.0) (tallied_told count n (f m.reply) x a (h m.reply) g.2)

-- A STATE

abbrev One : ℕ → State → Option State → Type 0
One limit s None = Unit {0}
One limit s (Some after) = (s.keywords.begun < limit) × (after.keywords.begun ≡ s.keywords.begun + 1)

both_true : (a b : Bool) → (a && b) ≡ true → b ≡ true
both_true true b h = h
both_true false b h = cc

one_begun : (limit number : ℕ) (s : State) → One limit s (begun limit number s)
one_begun limit number s = by (may_begin limit s) refl
  where
    by : (b : Bool) → may_begin limit s ≡ b → One limit s (if b then Some (with_statement_begun number s) else None)
    by true h =
        let below : nat_lt s.keywords.begun limit ≡ true = both_true (nat_lt s.keywords.begun s.keywords.statement_limit) (nat_lt s.keywords.begun limit) h in
        (grind (arith, nat_tests), refl)
    by false h = tt

abbrev pub StateTallied : ℕ → (A : Type 0) → ℕ → Counted (A × State) → Type 0
StateTallied limit A n t = Tallied limit (λ (r : A × State). r.1.keywords.begun) n t

pub state_done : (limit : ℕ) (A : Type 0) (r : A × State) → StateTallied limit A r.1.keywords.begun (Returns r)
state_done limit A r = refl

pub state_then : (limit : ℕ) (A C : Type 0) (n : ℕ) (t : Counted (A × State)) (k : A × State → Counted (C × State)) → StateTallied limit A n t
    → ((r : A × State) → StateTallied limit C r.1.keywords.begun (k r)) → StateTallied limit C n (t >>= k)
state_then limit A C n t k h g = tallied_then limit (λ (r : A × State). r.1.keywords.begun) (λ (r : C × State). r.1.keywords.begun) n t k h g

abbrev pub begun_in : State → ℕ
begun_in s = s.keywords.begun

pub state_grows : (limits : Limits) → Grows begun_in (StateTallied limits.statements) (state_done limits.statements) (state_then limits.statements) (keeping limits)
state_grows limits = record {
  used = λ name s. tallied_lifted limits.statements _ s.keywords.begun (used name s) (used_stays s.keywords.begun name s refl);
  assigned = λ name v s. tallied_lifted limits.statements _ s.keywords.begun (assigned name v s) (assigned_stays s.keywords.begun name v s refl);
  keyword_set = λ name v s. keyword_stays s.keywords.begun name v s refl;
  item_set = λ t k v s. item_stays s.keywords.begun t k v s refl;
  matched = λ text p s. tallied_lifted limits.statements _ s.keywords.begun (matched limits.steps text p s) (matched_stays s.keywords.begun limits.steps text p s refl);
  noted = λ A number s after t is h.
      let one : One limits.statements s (Some after) = subst (λ (o : Option State). One limits.statements s o) is (one_begun limits.statements number s) in
      (one.0, subst (λ (n : ℕ). StateTallied limits.statements A n t) one.1 h);
  entered = λ f vs entry s inside is. (let h : Inside s.keywords.begun (Enters entry inside) = subst (λ (e : Entered State). Inside s.keywords.begun e) is (entered_stays s.keywords.begun f vs s refl) in h);
  left = λ s. left_stays s.keywords.begun s refl;
  primitive = λ f vs s. tallied_lifted limits.statements _ s.keywords.begun (primitive f vs s) (primitive_stays s.keywords.begun f vs s refl);
}
