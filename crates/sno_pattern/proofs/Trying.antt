-- What one attempt and then another leave, and where they agree.
use Rattle.std.specs.Prelude.{◌≡◌, ℕ, ◌≤◌, List, Bool, true, false, if◌then◌else◌}
use Rattle.std.proofs.Common.{refl, ap, ◌∙◌, arith}
use Rattle.interaction.{specs.Interactions.{Returns, Asks}, specs.Endings.{EndsIn}, proofs.Binds.{funext}, proofs.Enough.{ends_in_then, same_then}}
use Rattle.sno_text.specs.Patterns.{Pattern}
use Rattle.sno_pattern.specs.{declared.ending.Pending.{Pending}, Looks.{Look, Told, Found, Given, Refused, Faulty}, inner.Found.{with_found}}
use Rattle.sno_pattern.specs.Steps.{Goal, End, Success, Failure, WholeFails, OutOfSteps, Fault, Outcome, Trying, Way, ends, on_failure, pattern_found, if_given}

-- the second attempt after an end, if that is failure, with the steps that are left
abbrev pub after_end : End → ℕ → (ℕ → Trying) → Trying
after_end e n second = elim e [ Failure ↦ second n | other ↦ ends other n ]

-- at most so many steps are left
abbrev pub AtMost : ℕ → Outcome → Type 0
AtMost n o = o.left ≤ n

-- whatever the host tells, at most so many are left at the end
abbrev pub LeavesAtMost : ℕ → Trying → Type 0
LeavesAtMost n t = EndsIn (AtMost n) t

-- a way never leaves more steps than it had
abbrev pub Falls : Way → Type 0
Falls go = (gs : List Goal) (c : ℕ) (p : List Pending) (n : ℕ) → LeavesAtMost n (go gs c p n)

-- two ways agree up to some number of steps
abbrev pub Agree : Way → Way → ℕ → Type 0
Agree go go' n = (gs : List Goal) (c : ℕ) (p : List Pending) (m : ℕ) → m ≤ n → go gs c p m ≡ go' gs c p m

-- an end that no second attempt follows
abbrev pub IsLast : End → Type 0
IsLast Failure = ⊥
IsLast (Success at pending) = Unit {0}
IsLast WholeFails = Unit {0}
IsLast OutOfSteps = Unit {0}
IsLast (Fault f) = Unit {0}

pub last_stays : (e : End) (n : ℕ) (second : ℕ → Trying) → IsLast e → on_failure (ends e n) second ≡ ends e n
last_stays Failure n second h = absurd h
last_stays (Success at pending) n second h = refl
last_stays WholeFails n second h = refl
last_stays OutOfSteps n second h = refl
last_stays (Fault f) n second h = refl

after_fails : (e : End) (n : ℕ) → after_end e n (λ m. ends Failure m) ≡ ends e n
after_fails Failure n = refl
after_fails (Success at pending) n = refl
after_fails WholeFails n = refl
after_fails OutOfSteps n = refl
after_fails (Fault f) n = refl

-- a second attempt that fails at once changes nothing
pub then_fails : (t : Trying) → on_failure t (λ m. ends Failure m) ≡ t
then_fails (Returns o) = after_fails o.end o.left
then_fails (Asks q f) =
    ap (λ (z : Told → Trying). Asks q z) (funext (λ r. on_failure (f r) (λ m. ends Failure m)) f (λ r. then_fails (f r)))

pub leaves_more : (m n : ℕ) → m ≤ n → (t : Trying) → LeavesAtMost m t → LeavesAtMost n t
leaves_more m n le (Returns o) h = omega arith
leaves_more m n le (Asks q f) h = λ r. leaves_more m n le (f r) (h r)

after_falls : (e : End) (m n : ℕ) (second : ℕ → Trying) → m ≤ n → ((m : ℕ) → m ≤ n → LeavesAtMost n (second m)) → LeavesAtMost n (after_end e m second)
after_falls Failure m n second h k = k m h
after_falls (Success at p) m n second h k = h
after_falls WholeFails m n second h k = h
after_falls OutOfSteps m n second h k = h
after_falls (Fault f) m n second h k = h

pub fails_falls : (t : Trying) (n : ℕ) (second : ℕ → Trying) → LeavesAtMost n t → ((m : ℕ) → m ≤ n → LeavesAtMost n (second m))
    → LeavesAtMost n (on_failure t second)
fails_falls t n second h k = ends_in_then (AtMost n) (AtMost n) t (λ o. after_end o.end o.left second) h (λ o l. after_falls o.end o.left n second l k)

after_agrees : (e : End) (m n : ℕ) (second second' : ℕ → Trying) → m ≤ n → ((m : ℕ) → m ≤ n → second m ≡ second' m)
    → after_end e m second ≡ after_end e m second'
after_agrees Failure m n second second' h k = k m h
after_agrees (Success at p) m n second second' h k = refl
after_agrees WholeFails m n second second' h k = refl
after_agrees OutOfSteps m n second second' h k = refl
after_agrees (Fault f) m n second second' h k = refl

pub fails_agree : (t t' : Trying) (n : ℕ) (second second' : ℕ → Trying) → LeavesAtMost n t → t ≡ t' → ((m : ℕ) → m ≤ n → second m ≡ second' m)
    → on_failure t second ≡ on_failure t' second'
fails_agree t t' n second second' h e k =
    same_then (AtMost n) t (λ o. after_end o.end o.left second) (λ o. after_end o.end o.left second') h (λ o l. after_agrees o.end o.left n second second' l k)
    ∙ ap (λ u. on_failure u second') e

pub if_falls : (b : Bool) (t : Trying) (n : ℕ) → LeavesAtMost n t → LeavesAtMost n (if b then t else ends Failure n)
if_falls true t n h = h
if_falls false t n h = omega arith

pub found_falls : (r : Told) (n : ℕ) (go : Pattern → Trying) → ((a : Pattern) → LeavesAtMost n (go a)) → LeavesAtMost n (with_found r n go)
found_falls (Found looked) n go h = h (pattern_found looked)
found_falls Given n go h = omega arith
found_falls Refused n go h = omega arith
found_falls (Faulty f) n go h = omega arith

pub given_falls : (r : Told) (n : ℕ) (go : Trying) → LeavesAtMost n go → LeavesAtMost n (if_given r n go)
given_falls Given n go h = h
given_falls (Found looked) n go h = omega arith
given_falls Refused n go h = omega arith
given_falls (Faulty f) n go h = omega arith

pub found_agrees : (r : Told) (n : ℕ) (go go' : Pattern → Trying) → ((a : Pattern) → go a ≡ go' a) → with_found r n go ≡ with_found r n go'
found_agrees (Found looked) n go go' h = h (pattern_found looked)
found_agrees Given n go go' h = refl
found_agrees Refused n go go' h = refl
found_agrees (Faulty f) n go go' h = refl

pub asks_same : (q : Look) (f g : Told → Trying) → ((r : Told) → f r ≡ g r) → Asks q f ≡ Asks q g
asks_same q f g h = ap (λ (z : Told → Trying). Asks q z) (funext f g h)
