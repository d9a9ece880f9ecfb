-- Commits, and those behind them.
use Rattle.std.proofs.Common.{◌≡◌, ◌≤◌, ◌<◌, ℕ, zero, suc, ◌+◌, ◌-◌, nat_le, Bool, true, false, List, [], ◌∷◌, ◌++◌, length, take, drop, Option, refl, sym, ap, ◌∙◌, arith}
use Rattle.std.{specs.Prelude.{if◌then◌else◌}, proofs.lemmas.Bool.Decides.{nat_tests}, proofs.lemmas.List.{length-drop}}
use Rattle.ledger_disk.specs.{declared.name.Name.TheVariants.{Commit}, Disks.{Files}}
use Rattle.ledger_text.specs.Digests.{digest_of}
use Rattle.ledger_laws.specs.{Commits.{at, and_more, read_from}, Course.{with_record, folded, AreHonest}}
use Rattle.ledger_run.specs.Meaning.{Step, Event, State, machine_of, start, Says, end_of}
use Rattle.ledger_pruning.specs.{Pruning.{first_kept, first_since}, Ages.{kept_since}, Laws.{StaysWithin, StaysSince, Stays, ReadsTheRest, OpensTheSame}}

-- ---- which stay

pub stays_within : StaysWithin
stays_within commits checkpoint keep n = by (nat_le checkpoint (commits - keep)) refl
  where
    by : (b : Bool) → nat_le checkpoint (commits - keep) ≡ b → Stays commits checkpoint keep n
    by true e =
        let is : first_kept commits checkpoint keep ≡ checkpoint = ap (λ (b : Bool). if b then checkpoint else commits - keep) e in
        let le : checkpoint ≤ commits - keep = grind (arith, nat_tests, e) in
        record { behind = λ h. omega (arith, is, h); last = λ h. omega (arith, is, le, h) }
    by false e =
        let is : first_kept commits checkpoint keep ≡ commits - keep = ap (λ (b : Bool). if b then checkpoint else commits - keep) e in
        let less : commits - keep < checkpoint = grind (arith, nat_tests, e) in
        record { behind = λ h. omega (arith, is, less, h); last = λ h. omega (arith, is, h) }

no_later : (commits checkpoint keep : ℕ) → first_kept commits checkpoint keep ≤ commits - keep
no_later commits checkpoint keep = by (nat_le checkpoint (commits - keep)) refl
  where
    by : (b : Bool) → nat_le checkpoint (commits - keep) ≡ b → (if b then checkpoint else commits - keep) ≤ commits - keep
    by true e = grind (arith, nat_tests, e)
    by false e = omega arith

found : (since time : ℕ) (before behind : List ℕ) → since ≤ time → first_since since (before ++ time ∷ behind) ≤ length before
found since time [] behind h = by (nat_le since time) refl
  where
    by : (b : Bool) → nat_le since time ≡ b → (if b then 0 else suc (first_since since behind)) ≤ 0
    by true e = omega arith
    by false e = absurd (grind (arith, nat_tests, e, h))
found since time (other ∷ before) behind h = by (nat_le since other) (found since time before behind h)
  where
    by : (b : Bool) → first_since since (before ++ time ∷ behind) ≤ length before
        → (if b then 0 else suc (first_since since (before ++ time ∷ behind))) ≤ length (other ∷ before)
    by true le = omega arith
    by false le = omega (arith, le)

pub stays_since : StaysSince
stays_since commits checkpoint since first time before behind h fits =
    let le = no_later commits checkpoint (kept_since since commits first (before ++ time ∷ behind)) in
    let is = found since time before behind h in
    omega (arith, le, is, fits)

-- ---- what is read

at_drop : (k j : ℕ) (chain : List (List ℕ)) → at (drop k chain) j ≡ at chain (k + j)
at_drop zero j chain = ap (at chain) (let e : j ≡ zero + j = omega arith in e)
at_drop (suc k) j [] = refl
at_drop (suc k) j (b ∷ chain) = at_drop k j chain ∙ ap (at (b ∷ chain)) (let e : suc (k + j) ≡ suc k + j = omega arith in e)

reads : (rest : List (List ℕ)) (i fuel : ℕ) (c : Files) → ((j : ℕ) → c (Commit (i + j)) ≡ at rest j) → length rest ≤ fuel → read_from fuel i c ≡ rest
reads [] i zero c is le = refl
reads [] i (suc fuel) c is le =
    ap (λ (o : Option (List ℕ)). and_more o (read_from fuel (i + 1) c)) (ap (λ (n : ℕ). c (Commit n)) (let e : i ≡ i + 0 = omega arith in e) ∙ is 0)
reads (b ∷ rest) i zero c is le = absurd (omega (arith, le))
reads (b ∷ rest) i (suc fuel) c is le =
    ap (λ (o : Option (List ℕ)). and_more o (read_from fuel (i + 1) c)) (ap (λ (n : ℕ). c (Commit n)) (let e : i ≡ i + 0 = omega arith in e) ∙ is 0)
    ∙ ap (λ (l : List (List ℕ)). b ∷ l)
    (reads rest (i + 1) fuel c (λ j. ap (λ (n : ℕ). c (Commit n)) (let e : (i + 1) + j ≡ i + suc j = omega arith in e) ∙ is (suc j)) (omega (arith, le)))

pub reads_the_rest : ReadsTheRest
reads_the_rest first checkpoint most chain c pruned before long =
    reads (drop checkpoint chain) checkpoint most c
    (λ j. pruned (checkpoint + j) (omega (arith, before)) ∙ sym (at_drop checkpoint j chain))
    (let h = length-drop checkpoint chain in omega (arith, h, long))

-- ---- what it comes to

says_on : (k : ℕ) (before : List ℕ) (chain : List (List ℕ)) (events : List Event) → Says before chain events
    → Says (end_of before (take k chain)) (drop k chain) (drop k events)
says_on zero before chain events says = says
says_on (suc k) before [] [] says = tt
says_on (suc k) before [] (e ∷ events) says = absurd says
says_on (suc k) before (t ∷ chain) [] says = absurd says
says_on (suc k) before (t ∷ chain) (e ∷ events) says = says_on k (digest_of t) chain events says.1

ends_on : (k : ℕ) (before : List ℕ) (chain : List (List ℕ)) → end_of (end_of before (take k chain)) (drop k chain) ≡ end_of before chain
ends_on zero before chain = refl
ends_on (suc k) before [] = refl
ends_on (suc k) before (t ∷ chain) = ends_on k (digest_of t) chain

module _ (step : Step) where
  folds_on : (k : ℕ) (events : List Event) (kept : State)
      → folded (machine_of step) (drop k events) (folded (machine_of step) (take k events) kept) ≡ folded (machine_of step) events kept
  folds_on zero events kept = refl
  folds_on (suc k) [] kept = refl
  folds_on (suc k) (e ∷ events) kept = folds_on k events (with_record (machine_of step) e kept)

  honest_on : (k : ℕ) (events : List Event) (kept : State) → AreHonest (machine_of step) events kept
      → AreHonest (machine_of step) (drop k events) (folded (machine_of step) (take k events) kept)
  honest_on zero events kept are = are
  honest_on (suc k) [] kept are = tt
  honest_on (suc k) (e ∷ events) kept are = honest_on k events (with_record (machine_of step) e kept) are.1

pub opens_the_same : OpensTheSame
opens_the_same step chain events k says = record {
  says = says_on k [] chain events says;
  ends = ends_on k [] chain;
  state = folds_on step k events start;
  honest = honest_on step k events start;
}
