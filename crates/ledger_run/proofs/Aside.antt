-- Calls that touch neither the ledger nor an answer.
use Rattle.std.proofs.Common.{◌≡◌, ℕ, zero, suc, false, List, [], ◌∷◌, ◌++◌, take, Option, refl, sym, ap, ◌∙◌, subst}
use Rattle.ledger_disk.specs.{declared.name.Folder.TheVariants.{Boxes, Taken}, declared.name.Name.TheVariants.{Claimed}, Plans.{Did, Began}}
use Rattle.ledger_disk.specs.Disks.{Disk, Call, Remove, SyncFolder, Leaves, after, after_all}
use Rattle.ledger_laws.specs.{Answers.{AnswersFit}, Claims.{links, removals, claim_calls}, Traces.{changes_ledger}}
use Rattle.ledger_laws.proofs.{Tracing.{other_stands}, Claiming.{after_both}}
use Rattle.ledger_run.specs.{Meaning.{Step, Event}, Runs.{Seen, Stood, IsOpen, SafeFrom, CarriesOn, answer_in}}
use Rattle.ledger_run.proofs.{Planned.{taken_twice}, Safety.{stood_safe}}

none_behind : {A : Type 0} (xs : List A) → xs ++ [] ≡ xs
none_behind [] = refl
none_behind {A} (x ∷ xs) = ap (λ (l : List A). x ∷ l) (none_behind xs)

abbrev pub AllAside : List Call → Type 0
AllAside [] = Unit {0}
AllAside (call ∷ calls) =
    ((changes_ledger call ≡ false) × ((expected : ℕ → Option (List ℕ)) (disk : Disk) → AnswersFit expected disk → AnswersFit expected (after call disk))) × AllAside calls

pub removals_aside : (drops : List ℕ) → AllAside (removals drops ++ SyncFolder Boxes ∷ [])
removals_aside [] = ((refl, λ expected disk fit m. fit m), tt)
removals_aside (drop ∷ drops) = ((refl, λ expected disk fit m. fit m), removals_aside drops)

links_aside : (n : ℕ) (drops rest : List ℕ) → AllAside (links n drops ++ SyncFolder Taken ∷ (removals rest ++ SyncFolder Boxes ∷ []))
links_aside n [] rest = ((refl, λ expected disk fit m. fit m), removals_aside rest)
links_aside n (drop ∷ drops) rest = ((refl, λ expected disk fit m. fit m), links_aside (suc n) drops rest)

pub claims_aside : (n : ℕ) (drops gone : List ℕ) → AllAside (claim_calls n drops gone)
claims_aside n drops gone = links_aside n drops gone

pub removed_aside : (n : ℕ) → AllAside (Remove (Claimed n) ∷ [])
removed_aside n = ((refl, λ expected disk fit m. fit m), tt)

module _ (step : Step) (chain : List (List ℕ)) (events : List Event) where
  stood_aside : (plan : List Call) (disk : Disk) → AllAside plan → Stood step chain events disk → (k : ℕ) → Stood step chain events (after_all (take k plan) disk)
  stood_aside [] disk aside stood zero = stood
  stood_aside [] disk aside stood (suc k) = stood
  stood_aside (call ∷ plan) disk aside stood zero = stood
  stood_aside (call ∷ plan) disk aside stood (suc k) =
      stood_aside plan (after call disk) aside.1
      record { stands = other_stands chain call disk stood.stands aside.0.0; honest = stood.honest; answers = aside.0.1 (answer_in step events) disk stood.answers } k

  pub stood_behind : (plan : List Call) (disk : Disk) → AllAside plan → Stood step chain events disk → Stood step chain events (after_all plan disk)
  stood_behind [] disk aside stood = stood
  stood_behind (call ∷ plan) disk aside stood =
      stood_behind plan (after call disk) aside.1
      record { stands = other_stands chain call disk stood.stands aside.0.0; honest = stood.honest; answers = aside.0.1 (answer_in step events) disk stood.answers }

module _ {D : Type 0} (calls : D → List Call) (step : Step) (seen : Seen) (behind : List (List ℕ)) (plan : List Call) (old new : D) (aside : AllAside plan) where
  pub aside_safe_from : Began calls plan old new → SafeFrom calls step seen behind old new
  aside_safe_from began = record {
    each = λ first chain site. record {
      more = take began.count plan;
      grows = began.some;
      each = λ k c leaves.
          let (i, e) = taken_twice k began.count plan in
          stood_safe step chain site.events (after_all (take i plan) (after_all (calls old) first)) site.is.says
          (stood_aside step chain site.events plan (after_all (calls old) first) aside site.stood i) c
          (subst (λ (l : List Call). Leaves (after_all l (after_all (calls old) first)) c) e leaves);
    };
  }

  pub aside_carries_on : Did calls plan old new → CarriesOn calls step seen behind seen behind old new
  aside_carries_on did = record {
    on = λ first chain site. record {
      more = [];
      is = subst (λ (l : List (List ℕ)). IsOpen seen behind step l (after_all (calls new) first)) (sym (none_behind chain))
          record {
            events = site.events;
            is = site.is;
            stood = subst (Stood step chain site.events) (sym (ap (λ (l : List Call). after_all l first) did.all ∙ after_both (calls old) plan first))
                (stood_behind step chain site.events plan (after_all (calls old) first) aside site.stood);
          };
    };
  }
