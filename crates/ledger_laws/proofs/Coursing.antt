-- Records that follow on one another.
use Rattle.std.proofs.Common.{◌≡◌, ◌<◌, ◌≤◌, ℕ, zero, suc, ◌+◌, Bool, true, false, List, [], ◌∷◌, ◌++◌, length, take, refl, ap, arith}
use Rattle.std.{specs.Prelude.{if◌then◌else◌, ◌==◌}, proofs.lemmas.Bool.Decides.{nat_tests}}
use Rattle.ledger_laws.specs.Course.{Machine, Record, Took, Refused, Ran, Dropped, Edited, Noted, Kept, behind_first, with_record, folded, Follows, AreHonest, Verdict, Admits, Refuses, intake, AreBeyond, batch, one_if, times, takes, EachOnce}
use Rattle.ledger_laws.specs.CourseLaws.{IsOnce, Honest, Once, Progress, TakenAsRecorded}

module _ {Text Out State Change : Type 0} (machine : Machine Text Out State Change) where
  pub both_honest : (first rest : List (Record Text Out Change)) (kept : Kept Text Out State) → AreHonest machine first kept → AreHonest machine rest (folded machine first kept) → AreHonest machine (first ++ rest) kept
  both_honest [] rest kept a b = b
  both_honest (r ∷ first) rest kept a b = (a.0, both_honest first rest (with_record machine r kept) a.1 b)

  intake_honest : (claimed : List (ℕ × Verdict machine)) (kept : Kept Text Out State) → AreBeyond machine kept.next claimed → AreHonest machine (intake machine claimed) kept
  intake_honest [] kept beyond = tt
  intake_honest ((n, Admits text) ∷ rest) kept beyond = (beyond.0, intake_honest rest (with_record machine (Took n text) kept) beyond.1)
  intake_honest ((n, Refuses reply) ∷ rest) kept beyond = (beyond.0, intake_honest rest (with_record machine (Refused n reply) kept) beyond.1)

  batch_honest : (k : ℕ) (waiting : List (ℕ × Text)) (kept : Kept Text Out State) → kept.waiting ≡ waiting → AreHonest machine (batch machine (take k waiting) kept.state) kept
  batch_honest zero waiting kept e = tt
  batch_honest (suc k) [] kept e = tt
  batch_honest (suc k) (one ∷ waiting) kept e =
      let told : Out × Change = machine.step one.1 kept.state in (
        record { text = one.1; rest = waiting; first = e; told = refl },
        batch_honest k waiting (with_record machine (Ran one.0 told.0 told.1) kept) (ap behind_first e),
      )

  -- ---- each number once

  times_both : {A : Type 0} (n : ℕ) (xs ys : List (ℕ × A)) → times n (xs ++ ys) ≡ times n xs + times n ys
  times_both n [] ys = omega arith
  times_both n (x ∷ xs) ys = let h = times_both n xs ys in omega (arith, h)

  -- a number that is taken, beyond those before
  taken : (n m next t : ℕ) → next ≤ m → t ≤ 1 → (next ≤ n → t ≡ 0) → (t + one_if n m ≤ 1) × (suc m ≤ n → t + one_if n m ≡ 0)
  taken n m next t le most none = by (n == m) refl
    where
      by : (a : Bool) → (n == m) ≡ a → (t + (if a then 1 else 0) ≤ 1) × (suc m ≤ n → t + (if a then 1 else 0) ≡ 0)
      by true e = let same : n ≡ m = grind (arith, nat_tests, e) in let z = none (omega (arith, same, le)) in (omega (arith, z), λ less. absurd (omega (arith, same, less)))
      by false e = (omega (arith, most), λ less. let z = none (omega (arith, less, le)) in omega (arith, z))

  module _ (n : ℕ) where
    abbrev held : Kept Text Out State → ℕ
    held kept = times n kept.answers + times n kept.waiting

    held_more : (r : Record Text Out Change) (kept : Kept Text Out State) → Follows machine r kept → held (with_record machine r kept) ≡ held kept + takes n (r ∷ [])
    held_more (Took m text) kept is = let a = times_both n kept.waiting ((m, text) ∷ []) in omega (arith, a)
    held_more (Refused m reply) kept is = let a = times_both n kept.answers ((m, reply) ∷ []) in omega (arith, a)
    held_more (Ran m out change) kept is =
        let a = times_both n kept.answers ((m, out) ∷ []) in
        let c : times n kept.waiting ≡ one_if n m + times n is.rest = ap (times n) is.first in
        let d : times n (behind_first kept.waiting) ≡ times n is.rest = ap (λ (l : List (ℕ × Text)). times n (behind_first l)) is.first in
        omega (arith, a, c, d)
    held_more (Dropped m out) kept is =
        let a = times_both n kept.answers ((m, out) ∷ []) in
        let c : times n kept.waiting ≡ one_if n m + times n is.rest = ap (times n) is.first in
        let d : times n (behind_first kept.waiting) ≡ times n is.rest = ap (λ (l : List (ℕ × Text)). times n (behind_first l)) is.first in
        omega (arith, a, c, d)
    held_more (Edited change) kept is = omega arith
    held_more Noted kept is = omega arith

    once_more : (r : Record Text Out Change) (kept : Kept Text Out State) → Follows machine r kept → EachOnce kept n → EachOnce (with_record machine r kept) n
    once_more (Took m text) kept is once =
        let h = held_more (Took m text) kept is in let (most, none) = taken n m kept.next (held kept) is once.at_most once.none_beyond in
        record { at_most = omega (arith, h, most); none_beyond = λ less. let z = none less in omega (arith, h, z) }
    once_more (Refused m reply) kept is once =
        let h = held_more (Refused m reply) kept is in let (most, none) = taken n m kept.next (held kept) is once.at_most once.none_beyond in
        record { at_most = omega (arith, h, most); none_beyond = λ less. let z = none less in omega (arith, h, z) }
    once_more (Ran m out change) kept is once =
        let h = held_more (Ran m out change) kept is in let most = once.at_most in
        record { at_most = omega (arith, h, most); none_beyond = λ less. let z = once.none_beyond less in omega (arith, h, z) }
    once_more (Dropped m out) kept is once =
        let h = held_more (Dropped m out) kept is in let most = once.at_most in
        record { at_most = omega (arith, h, most); none_beyond = λ less. let z = once.none_beyond less in omega (arith, h, z) }
    once_more (Edited change) kept is once = record { at_most = once.at_most; none_beyond = once.none_beyond }
    once_more Noted kept is once = once

    takes_one : (r : Record Text Out Change) (records : List (Record Text Out Change)) → takes n (r ∷ records) ≡ takes n (r ∷ []) + takes n records
    takes_one (Took m text) records = omega arith
    takes_one (Refused m reply) records = omega arith
    takes_one (Ran m out change) records = omega arith
    takes_one (Dropped m out) records = omega arith
    takes_one (Edited change) records = omega arith
    takes_one Noted records = omega arith

    pub all_once : (records : List (Record Text Out Change)) (kept : Kept Text Out State) → AreHonest machine records kept → EachOnce kept n → IsOnce machine records kept n
    all_once [] kept honest once = record { once = once; counted = omega arith }
    all_once (r ∷ records) kept honest once =
        let rest : IsOnce machine records (with_record machine r kept) n = all_once records (with_record machine r kept) honest.1 (once_more r kept honest.0 once) in
        let h = held_more r kept honest.0 in let t = takes_one r records in let counted = rest.counted in
        record { once = rest.once; counted = omega (arith, h, t, counted) }

  -- ---- progress

  left : (k : ℕ) (waiting : List (ℕ × Text)) (kept : Kept Text Out State) → length kept.waiting ≤ length waiting → length (folded machine (batch machine (take k waiting) kept.state) kept).waiting ≤ length waiting
  left zero waiting kept le = le
  left (suc k) [] kept le = le
  left (suc k) (one ∷ waiting) kept le =
      let told : Out × Change = machine.step one.1 kept.state in
      let h = left k waiting (with_record machine (Ran one.0 told.0 told.1) kept) (fewer kept.waiting le) in
      omega (arith, h)
    where
      fewer : (ws : List (ℕ × Text)) → length ws ≤ length (one ∷ waiting) → length (behind_first ws) ≤ length waiting
      fewer [] le = omega arith
      fewer (w ∷ ws) le = omega (arith, le)

pub honest : {Text Out State Change : Type 0} → Honest Text Out State Change
honest machine records start is = record {
  with_intake = λ claimed beyond. both_honest machine records (intake machine claimed) start is (intake_honest machine claimed (folded machine records start) beyond);
  with_batch = λ k. both_honest machine records (batch machine (take k (folded machine records start).waiting) (folded machine records start).state) start is
      (batch_honest machine k (folded machine records start).waiting (folded machine records start) refl);
}

pub once : {Text Out State Change : Type 0} → Once Text Out State Change
once machine records start is n first = all_once machine n records start is first

pub progress : {Text Out State Change : Type 0} → Progress Text Out State Change
progress {Text} {Out} {State} {Change} machine kept k some wait = by k some kept.waiting refl wait
  where
    by : (k : ℕ) → 0 < k → (waiting : List (ℕ × Text)) → kept.waiting ≡ waiting → 0 < length waiting → length (folded machine (batch machine (take k waiting) kept.state) kept).waiting < length waiting
    by zero some waiting e wait = absurd (omega (arith, some))
    by (suc k) some [] e wait = absurd (omega (arith, wait))
    by (suc k) some (one ∷ waiting) e wait =
        let told : Out × Change = machine.step one.1 kept.state in
        let shorter : length (behind_first kept.waiting) ≡ length waiting = ap (λ (l : List (ℕ × Text)). length (behind_first l)) e in
        let h = left machine k waiting (with_record machine (Ran one.0 told.0 told.1) kept) (omega (arith, shorter)) in
        omega (arith, h)

pub taken_as_recorded : {Text Out Change : Type 0} → TakenAsRecorded Text Out Change
taken_as_recorded [] taken n = omega arith
taken_as_recorded (Took m text ∷ records) taken n = let h = taken_as_recorded records (m ∷ taken) n in omega (arith, h)
taken_as_recorded (Refused m reply ∷ records) taken n = let h = taken_as_recorded records (m ∷ taken) n in omega (arith, h)
taken_as_recorded (Ran m out change ∷ records) taken n = taken_as_recorded records taken n
taken_as_recorded (Dropped m out ∷ records) taken n = taken_as_recorded records taken n
taken_as_recorded (Edited change ∷ records) taken n = taken_as_recorded records taken n
taken_as_recorded (Noted ∷ records) taken n = taken_as_recorded records taken n
