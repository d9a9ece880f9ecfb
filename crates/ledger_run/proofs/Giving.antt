-- Answers that are owed are put.
use Rattle.std.proofs.Common.{◌≡◌, ◌≤◌, ℕ, zero, suc, ◌+◌, Bool, true, false, List, [], ◌∷◌, ◌++◌, take, Some, refl, sym, ap, ◌∙◌, subst, arith}
use Rattle.std.{specs.Prelude.{if◌then◌else◌, ◌==◌}, proofs.lemmas.Bool.Decides.{nat_tests}}
use Rattle.ledger_disk.specs.{Disks.{Disk, Call, Leaves, after_all}, Plans.{Did, Began}}
use Rattle.ledger_laws.specs.{Answers.{deliver_calls, AreExpected}, Course.{one_if, times}}
use Rattle.ledger_laws.proofs.{Coursing.{all_once}, Delivering.{delivers_whole}, Passing.{AllOthers, all_stand}, Claiming.{after_both}}
use Rattle.ledger_run.specs.{Meaning.{Step, machine_of, start, answer_among}, Runs.{Seen, Stood, IsOpen, SafeFrom, CarriesOn, state_of, answer_in}}
use Rattle.ledger_run.proofs.{Planned.{taken_twice}, Safety.{stood_safe}}

in_row : {A : Type 0} (xs ys zs : List A) → (xs ++ ys) ++ zs ≡ xs ++ (ys ++ zs)
in_row [] ys zs = refl
in_row {A} (x ∷ xs) ys zs = ap (λ (l : List A). x ∷ l) (in_row xs ys zs)

none_behind : {A : Type 0} (xs : List A) → xs ++ [] ≡ xs
none_behind [] = refl
none_behind {A} (x ∷ xs) = ap (λ (l : List A). x ∷ l) (none_behind xs)

-- ---- each is the answer to its number

abbrev as_number : Bool → ℕ
as_number b = if b then 1 else 0

counted : (front : List (ℕ × List ℕ)) (one : ℕ × List ℕ) (rest : List (ℕ × List ℕ)) → 1 ≤ times one.0 (front ++ one ∷ rest)
counted [] one rest = let e : one_if one.0 one.0 ≡ 1 = by (one.0 == one.0) refl in omega (arith, e)
  where
    by : (b : Bool) → (one.0 == one.0) ≡ b → as_number b ≡ 1
    by true e = refl
    by false e = absurd (grind (arith, nat_tests, e))
counted (x ∷ front) one rest = let h = counted front one rest in omega (arith, h)

here : (front : List (ℕ × List ℕ)) (one : ℕ × List ℕ) (rest : List (ℕ × List ℕ)) → times one.0 (front ++ one ∷ rest) ≤ 1 → answer_among (front ++ one ∷ rest) one.0 ≡ Some one.1
here [] one rest most = by (one.0 == one.0) refl
  where
    by : (b : Bool) → (one.0 == one.0) ≡ b → (if b then Some one.1 else answer_among rest one.0) ≡ Some one.1
    by true e = refl
    by false e = absurd (grind (arith, nat_tests, e))
here (x ∷ front) one rest most = by (one.0 == x.0) most (λ less. here front one rest less)
  where
    by : (b : Bool) → as_number b + times one.0 (front ++ one ∷ rest) ≤ 1 → (times one.0 (front ++ one ∷ rest) ≤ 1 → answer_among (front ++ one ∷ rest) one.0 ≡ Some one.1)
        → (if b then Some x.1 else answer_among (front ++ one ∷ rest) one.0) ≡ Some one.1
    by true most later = absurd (let h = counted front one rest in omega (arith, h, most))
    by false most later = later (omega (arith, most))

each : (front owed answers : List (ℕ × List ℕ)) → front ++ owed ≡ answers → ((n : ℕ) → times n answers ≤ 1) → AreExpected (answer_among answers) owed
each front [] answers is once = tt
each front (one ∷ owed) answers is once = (
  subst (λ (l : List (ℕ × List ℕ)). answer_among l one.0 ≡ Some one.1) is (here front one owed (subst (λ (l : List (ℕ × List ℕ)). times one.0 l ≤ 1) (sym is) (once one.0))),
  each (front ++ one ∷ []) owed answers (in_row front (one ∷ []) owed ∙ is) once,
)

-- ---- at any moment

others : (owed : List (ℕ × List ℕ)) (k : ℕ) → AllOthers (take k (deliver_calls owed))
others [] zero = tt
others [] (suc zero) = (refl, tt)
others [] (suc (suc k)) = (refl, tt)
others (one ∷ owed) zero = tt
others (one ∷ owed) (suc zero) = (refl, tt)
others (one ∷ owed) (suc (suc zero)) = (refl, (refl, tt))
others (one ∷ owed) (suc (suc (suc k))) = (refl, (refl, (refl, others owed k)))

all_taken : (xs : List Call) → (k : ℕ) × (take k xs ≡ xs)
all_taken [] = (0, refl)
all_taken (x ∷ xs) = let (k, e) = all_taken xs in (suc k, ap (λ (l : List Call). x ∷ l) e)

module _ {D : Type 0} (calls : D → List Call) (step : Step) (seen : Seen) (behind : List (List ℕ)) (old new : D) where
  module _ (first : Disk) (chain : List (List ℕ)) (site : IsOpen seen behind step chain (after_all (calls old) first)) where
    once : (n : ℕ) → times n (state_of step site.events).answers ≤ 1
    once n =
        let h = (all_once (machine_of step) n site.events start site.stood.honest record { at_most = omega arith; none_beyond = λ less. refl }).once.at_most in
        omega (arith, h)

    expected : AreExpected (answer_in step site.events) seen.owed
    expected = each site.is.kept.given seen.owed (state_of step site.events).answers site.is.kept.answers once

    stood_at : (k : ℕ) → Stood step chain site.events (after_all (take k (deliver_calls seen.owed)) (after_all (calls old) first))
    stood_at k = record {
      stands = all_stand chain (take k (deliver_calls seen.owed)) (after_all (calls old) first) site.stood.stands (others seen.owed k);
      honest = site.stood.honest;
      answers = (delivers_whole (answer_in step site.events) seen.owed (after_all (calls old) first) site.stood.answers expected).again k;
    }

  pub give_safe_from : Began calls (deliver_calls seen.owed) old new → SafeFrom calls step seen behind old new
  give_safe_from began = record {
    each = λ first chain site. record {
      more = take began.count (deliver_calls seen.owed);
      grows = began.some;
      each = λ k c leaves.
          let (i, e) = taken_twice k began.count (deliver_calls seen.owed) in
          stood_safe step chain site.events (after_all (take i (deliver_calls seen.owed)) (after_all (calls old) first)) site.is.says (stood_at first chain site i) c
          (subst (λ (l : List Call). Leaves (after_all l (after_all (calls old) first)) c) e leaves);
    };
  }

  pub give_carries_on : Did calls (deliver_calls seen.owed) old new → CarriesOn calls step seen behind seen behind old new
  give_carries_on did = record {
    on = λ first chain site.
        let (k, all) = all_taken (deliver_calls seen.owed) in
        record {
          more = [];
          is = subst (λ (l : List (List ℕ)). IsOpen seen behind step l (after_all (calls new) first)) (sym (none_behind chain))
              record {
                events = site.events;
                is = site.is;
                stood = subst (Stood step chain site.events)
                    (sym (ap (λ (l : List Call). after_all l first) did.all ∙ after_both (calls old) (deliver_calls seen.owed) first))
                    (subst (λ (l : List Call). Stood step chain site.events (after_all l (after_all (calls old) first))) all (stood_at first chain site k));
              };
        };
  }
