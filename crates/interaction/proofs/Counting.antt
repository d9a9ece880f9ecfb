-- Interactions with the statements that begin in them, and without.
use Rattle.std.proofs.Common.{◌≡◌, ℕ, ◌+◌, List, [], ◌∷◌, Result, Ok, Err, refl, ap, sym, ◌∙◌, subst, inl, inr, arith}
use Rattle.std.specs.Result.{IsErr}
use Rattle.interaction.specs.{Interactions.{Interaction, Returns, Asks, ◌>>=◌}, Exchanges.{AnswersAll}, Endings.{EndsIn}, declared.request.Request.{Request}}
use Rattle.interaction.specs.{declared.answer.Answer.{Answer}, declared.answer.Answer.TheVariants.{Done}, Asking.{Asking, Exchange}}
use Rattle.interaction.proofs.Binds.{funext}
use Rattle.interaction.specs.Asking as asking
use Rattle.interaction.specs.Counting.{Moment, Beginning, Requesting, Counted, Passed, lifted, plain, requests_in, statements_in, IsTrace, IsTracePrefix, counting, RunsTo, StopsIn, Executes}

abbrev pub with_request : Moment → Answer → List Exchange → List Exchange
with_request moment answer x = elim moment [ Beginning ↦ x | Requesting request ↦ record { asked = request; reply = answer } ∷ x ]

abbrev pub with_statement : Moment → ℕ → ℕ
with_statement moment n = elim moment [ Beginning ↦ n + 1 | Requesting request ↦ n ]

-- LIFTED

module _ {S A : Type 0} (answers : S → Request → Answer → S → Type 0) where
  pub lifted_held : (t : Asking A) (s : S) (n : ℕ) (a : A) (s' : S) → asking.RunsTo answers t s a s' → RunsTo answers (lifted t) (s, n) a (s', n)
  lifted_held (Returns a') s n a s' h = (h.0, ap (λ (x : S). let p : S × ℕ = (x, n) in p) h.1)
  lifted_held (Asks q f) s n a s' h = (h.0, (h.1, n), (h.2, refl), h.3, lifted_held (f h.0) h.1 n a s' h.4)

  pub lifted_cut : (t : Asking A) (s : S) (n : ℕ) (s' : S) → asking.StopsIn answers t s s' → StopsIn answers (lifted t) (s, n) (s', n)
  lifted_cut (Returns a') s n s' h = ap (λ (x : S). let p : S × ℕ = (x, n) in p) h
  lifted_cut (Asks q f) s n s' (inl h) = inl (ap (λ (x : S). let p : S × ℕ = (x, n) in p) h)
  lifted_cut (Asks q f) s n s' (inr (inl h)) = absurd h
  lifted_cut (Asks q f) s n s' (inr (inr h)) = inr (inr (h.0, (h.1, n), (h.2, refl), h.3, lifted_cut (f h.0) h.1 n s' h.4))

  -- no statement begins in it, so that as many have begun as before
  pub lifted_runs : {R E : Type 0} (t : Asking A) (s : S) (n : ℕ) (r : Result R E) (after : R → A) (s' : S) (m : ℕ)
      → asking.Executes answers t s r after s' → m ≡ n → Executes answers (lifted t) (s, n) r after (s', m)
  lifted_runs t s n (Ok x) after s' m h same =
      subst (λ (k : ℕ). RunsTo answers (lifted t) (s, n) (after x) (s', k)) (sym same) (lifted_held t s n (after x) s' h)
  lifted_runs t s n (Err e) after s' m h same =
      subst (λ (k : ℕ). StopsIn answers (lifted t) (s, n) (s', k)) (sym same) (lifted_cut t s n s' h)

pub lifted_ends : {A : Type 0} (P : A → Type 0) (t : Asking A) → EndsIn P t → EndsIn P (lifted t)
lifted_ends P (Returns a) h = h
lifted_ends P (Asks q f) h = λ r. lifted_ends P (f r) (h r)

-- A call that lacked memory was broken off.
pub broken : {S A R E : Type 0} (answers : S → Request → Answer → S → Type 0) (t : Counted A) (s : S × ℕ) (r : Result R E) (after : R → A) (s' : S × ℕ) → IsErr r → StopsIn answers t s s' → Executes answers t s r after s'
broken answers t s (Ok x) after s' i c = cc
broken answers t s (Err e) after s' i c = c

-- ANSWERED

counted_one : {S : Type 0} (answers : S → Request → Answer → S → Type 0) (m : Moment) (r : Answer) (x : List Passed) (s t u : S × ℕ)
    → counting answers s m r t → AnswersAll answers t.0 (requests_in x) u.0 × (u.1 ≡ t.1 + statements_in x)
    → AnswersAll answers s.0 (with_request m r (requests_in x)) u.0 × (u.1 ≡ s.1 + with_statement m (statements_in x))
counted_one {S} answers Beginning r x s t u h g =
    let one : t.1 ≡ s.1 + 1 = ap (λ (p : S × ℕ). p.1) h in
    let more = g.1 in
    (subst (λ (z : S). AnswersAll answers z (requests_in x) u.0) (ap (λ (p : S × ℕ). p.0) h) g.0, omega (arith, one, more))
counted_one answers (Requesting q) r x s t u h g =
    let same = h.1 in
    let more = g.1 in
    ((t.0, h.0, g.0), omega (arith, same, more))

-- the service answers the requests, and as many statements more have begun
pub counted_answered : {S : Type 0} (answers : S → Request → Answer → S → Type 0) (x : List Passed) (s u : S × ℕ)
    → AnswersAll (counting answers) s x u → AnswersAll answers s.0 (requests_in x) u.0 × (u.1 ≡ s.1 + statements_in x)
counted_answered {S} answers [] s u h =
    let same : u.1 ≡ s.1 = ap (λ (p : S × ℕ). p.1) h in
    (ap (λ (p : S × ℕ). p.0) h, omega (arith, same))
counted_answered answers (m ∷ x) s u h = counted_one answers m.asked m.reply x s h.0 u h.1 (counted_answered answers x h.0 u h.2)

-- PLAIN

pub plain_then : {A B : Type 0} (t : Counted A) (k : A → Counted B) → plain (t >>= k) ≡ (plain t >>= (λ a. plain (k a)))
plain_then (Returns a) k = refl
plain_then (Asks Beginning f) k = plain_then (f Done) k
plain_then {A} {B} (Asks (Requesting q) f) k =
    ap (λ (z : Answer → Asking B). let t : Asking B = Asks q z in t) (funext (λ r. plain (f r >>= k)) (λ r. plain (f r) >>= (λ a. plain (k a))) (λ r. plain_then (f r) k))

pub plain_ends : {A : Type 0} (P : A → Type 0) (t : Counted A) → EndsIn P t → EndsIn P (plain t)
plain_ends P (Returns a) h = h
plain_ends P (Asks Beginning f) h = plain_ends P (f Done) (h Done)
plain_ends P (Asks (Requesting q) f) h = λ r. plain_ends P (f r) (h r)

-- what an interaction tells, it tells without the statements that begin
pub plain_told : {A : Type 0} (t : Counted A) (x : List Passed) (a : A) → IsTrace t x a → asking.IsTrace (plain t) (requests_in x) a
plain_told (Returns a') [] a h = h
plain_told (Returns a') (m ∷ x) a h = absurd h
plain_told (Asks q f) [] a h = absurd h
plain_told {A} (Asks Beginning f) (m ∷ x) a h =
    subst (λ (q : Moment). asking.IsTrace (plain (f Done)) (with_request q m.reply (requests_in x)) a) (sym h.0)
    (subst (λ (r : Answer). asking.IsTrace (plain (f r)) (requests_in x) a) h.1 (plain_told (f m.reply) x a h.2))
plain_told (Asks (Requesting q) f) (m ∷ x) a h =
    subst (λ (z : Moment). asking.IsTrace (plain (Asks (Requesting q) f)) (with_request z m.reply (requests_in x)) a) (sym h.0)
    (refl, h.1, plain_told (f m.reply) x a h.2)

-- and what it begins
pub plain_begun : {A : Type 0} (t : Counted A) (x : List Passed) → IsTracePrefix t x → asking.IsTracePrefix (plain t) (requests_in x)
plain_begun (Returns a') [] h = tt
plain_begun (Returns a') (m ∷ x) h = absurd h
plain_begun (Asks q f) [] h = tt
plain_begun (Asks Beginning f) (m ∷ x) h =
    subst (λ (q : Moment). asking.IsTracePrefix (plain (f Done)) (with_request q m.reply (requests_in x))) (sym h.0)
    (subst (λ (r : Answer). asking.IsTracePrefix (plain (f r)) (requests_in x)) h.1 (plain_begun (f m.reply) x h.2))
plain_begun (Asks (Requesting q) f) (m ∷ x) h =
    subst (λ (z : Moment). asking.IsTracePrefix (plain (Asks (Requesting q) f)) (with_request z m.reply (requests_in x))) (sym h.0)
    (refl, h.1, plain_begun (f m.reply) x h.2)
