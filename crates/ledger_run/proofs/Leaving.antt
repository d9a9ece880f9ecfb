-- What stands under a number leaves its box.
use Rattle.std.proofs.Common.{◌≡◌, inl, inr, ℕ, suc, ◌+◌, Bool, true, false, List, [], ◌∷◌, ◌++◌, length, map, Option, Some, None, refl, sym, ap, ◌∙◌, subst, arith}
use Rattle.std.{proofs.lemmas.Bool.Decides.{nat_tests}, specs.Prelude.{if◌then◌else◌, ◌==◌}, specs.List.{AllByRecursion}}
use Rattle.ledger_laws.specs.{Claims.{AreOf}, Traces.{changes_ledger}, Answers.{AnswersFit}, Places.{Calls, AreCareful}}
use Rattle.ledger_laws.proofs.{Claiming.{after_both}, Careful.{IsUnder, leaves_carefully}}
use Rattle.ledger_disk.specs.declared.{identity.Identity.{Identity}, name.Name.TheVariants.{Dropped, Claimed}}
use Rattle.ledger_disk.specs.Disks.{Disk, Which, Call, Write, SyncFile, Rename, Link, Remove, SyncFolder, Saw, Looked, Next, after, after_all, given, which_after, which_behind, LooksAreTrue, AreTrue, IsAmong}
use Rattle.ledger_run.specs.{Meaning.{Step}, Runs.{Seen, Stood, IsOpen}, Following.{OpensBehind}, Claiming.{DidSome, BeganSome}}
use Rattle.ledger_run.proofs.{Looking.{behind_both, looks_same, split, looks_so}, Aside.{AllAside, removals_aside, stood_behind}, Refusing.{some_claimed}}
use Rattle.ledger_run.specs.Finishing.{is_look, Looks, IsClaimed, IsUnclaimed, IsFit, AreSorted, leave_calls, Leaves, Finishes, LeavesNone, LeavesFit, FinishesCarefully}

in_row : {A : Type 0} (xs ys zs : List A) → (xs ++ ys) ++ zs ≡ xs ++ (ys ++ zs)
in_row [] ys zs = refl
in_row {A} (x ∷ xs) ys zs = ap (λ (l : List A). x ∷ l) (in_row xs ys zs)

none_behind : {A : Type 0} (xs : List A) → xs ++ [] ≡ xs
none_behind [] = refl
none_behind {A} (x ∷ xs) = ap (λ (l : List A). x ∷ l) (none_behind xs)

-- ---- which files are left

pub leave_now : (done : List ℕ) (time : ℕ) (which : Which) (d : ℕ) (file : Identity) → (which_behind time (leave_calls done) which (Dropped d)).now ≡ Some file → (which (Dropped d)).now ≡ Some file
leave_now [] time which d file e = e
leave_now (x ∷ done) time which d file e = by (d == x) (leave_now done (suc time) (which_after time (Remove (Dropped x)) which) d file e)
  where
    by : (b : Bool) → (if b then given None (which (Dropped x)) else which (Dropped d)).now ≡ Some file → (which (Dropped d)).now ≡ Some file
    by true e = absurd (cc (e))
    by false e = e

leave_stays : (done : List ℕ) (time : ℕ) (which : Which) (d : ℕ) → (IsAmong d done → ⊥) → (which_behind time (leave_calls done) which (Dropped d)).now ≡ (which (Dropped d)).now
leave_stays [] time which d apart = refl
leave_stays (x ∷ done) time which d apart =
    leave_stays done (suc time) (which_after time (Remove (Dropped x)) which) d (λ among. apart (inr among)) ∙ by (d == x) refl
  where
    by : (b : Bool) → (d == x) ≡ b → (if b then given None (which (Dropped x)) else which (Dropped d)).now ≡ (which (Dropped d)).now
    by true e = absurd (apart (inl (grind (arith, nat_tests, e))))
    by false e = refl

pub leave_under : (done : List ℕ) (time : ℕ) (which : Which) (n : ℕ) → (which_behind time (leave_calls done) which (Claimed n)).now ≡ (which (Claimed n)).now
leave_under [] time which n = refl
leave_under (x ∷ done) time which n = leave_under done (suc time) (which_after time (Remove (Dropped x)) which) n

pub fit_behind : (drops done left : List ℕ) (time : ℕ) (which : Which) → AllByRecursion (λ drop. IsAmong drop done → ⊥) left → AllByRecursion (IsFit drops which) left
    → AllByRecursion (IsFit drops (which_behind time (leave_calls done) which)) left
fit_behind drops done [] time which apart all = tt
fit_behind drops done (d ∷ left) time which apart all = (
  record {
    among = all.0.among;
    file = all.0.file;
    in_box = leave_stays done time which d apart.0 ∙ all.0.in_box;
    under_none = λ n less under. all.0.under_none n less (sym (leave_under done time which n) ∙ under);
    sole = λ e there is. all.0.sole e there (leave_now done time which e all.0.file is);
  },
  fit_behind drops done left time which apart.1 all.1,
)

inside : (a b : Identity) → Some a ≡ Some b → a ≡ b
inside a b e = cc (e)

unclaimed : (drops left : List ℕ) (which : Which) → AllByRecursion (IsFit drops which) left → AllByRecursion (IsUnclaimed which) left
unclaimed drops [] which all = tt
unclaimed drops (d ∷ left) which all = (
  record { under_none = λ n file less here under. all.0.under_none n less (under ∙ ap (λ (f : Identity). Some f) (inside file all.0.file (sym here ∙ all.0.in_box))) },
  unclaimed drops left which all.1,
)

pub leaves_fit : {D : Type 0} (calls : D → List Call) (drops left : List ℕ) (old new : D) → Finishes calls drops left old new → LeavesFit calls drops left new
leaves_fit calls drops left old new f = record {
  fit = λ first told.
      let s : AreSorted drops f.done left (which_behind 0 (calls old) first) = sorted first told in
      subst (λ (w : Which). AllByRecursion (IsFit drops w) left)
      (sym (ap (λ (l : List Call). which_behind 0 l first) f.did.all ∙ behind_both (calls f.mid) (leave_calls f.done) 0 first))
      (fit_behind drops f.done left (0 + length (calls f.mid)) (which_behind 0 (calls f.mid) first) s.apart
      (subst (λ (w : Which). AllByRecursion (IsFit drops w) left) (sym (same first)) s.fit));
  once = λ first told. (sorted first told).once;
}
  where
    sorted : (first : Which) → LooksAreTrue 0 (calls new) first → AreSorted drops f.done left (which_behind 0 (calls old) first)
    sorted first told = f.looks.told first (split (calls f.mid) (leave_calls f.done) 0 first (subst (λ (l : List Call). LooksAreTrue 0 l first) f.did.all told)).before

    same : (first : Which) → which_behind 0 (calls f.mid) first ≡ which_behind 0 (calls old) first
    same first =
        ap (λ (l : List Call). which_behind 0 l first) f.looks.grows ∙ behind_both (calls old) f.looks.more 0 first
        ∙ looks_same f.looks.more (0 + length (calls old)) (which_behind 0 (calls old) first) f.looks.only

pub leaves_none : {D : Type 0} (calls : D → List Call) (drops left : List ℕ) (old new : D) → Finishes calls drops left old new → LeavesNone calls left new
leaves_none calls drops left old new f = record {
  none = λ first told. unclaimed drops left (which_behind 0 (calls new) first) ((leaves_fit calls drops left old new f).fit first told);
}

-- ---- the ledger is opened all the same

no : false ≡ true → ⊥
no e = cc (e)

look_aside : (call : Call) → is_look call ≡ true → (changes_ledger call ≡ false) × ((expected : ℕ → Option (List ℕ)) (disk : Disk) → AnswersFit expected disk → AnswersFit expected (after call disk))
look_aside (Looked name found) e = (refl, λ expected disk fit m. fit m)
look_aside (Next from found) e = (refl, λ expected disk fit m. fit m)
look_aside (Saw name found) e = absurd (cc (e))
look_aside (Write name bytes) e = absurd (cc (e))
look_aside (SyncFile name) e = absurd (cc (e))
look_aside (Rename from to) e = absurd (cc (e))
look_aside (Link from to) e = absurd (cc (e))
look_aside (Remove name) e = absurd (cc (e))
look_aside (SyncFolder folder) e = absurd (cc (e))

looks_aside : (looks rest : List Call) → AllByRecursion (λ call. is_look call ≡ true) looks → AllAside rest → AllAside (looks ++ rest)
looks_aside [] rest all aside = aside
looks_aside (x ∷ looks) rest all aside = (look_aside x all.0, looks_aside looks rest all.1 aside)

true_before : (xs ys : List Call) (disk : Disk) → AreTrue (xs ++ ys) disk → AreTrue xs disk
true_before [] ys disk told = tt
true_before (Write n b ∷ xs) ys disk told = true_before xs ys (after (Write n b) disk) told
true_before (SyncFile n ∷ xs) ys disk told = true_before xs ys (after (SyncFile n) disk) told
true_before (Rename n m ∷ xs) ys disk told = true_before xs ys (after (Rename n m) disk) told
true_before (Link n m ∷ xs) ys disk told = true_before xs ys (after (Link n m) disk) told
true_before (Remove n ∷ xs) ys disk told = true_before xs ys (after (Remove n) disk) told
true_before (SyncFolder f ∷ xs) ys disk told = true_before xs ys (after (SyncFolder f) disk) told
true_before (Looked n o ∷ xs) ys disk told = true_before xs ys (after (Looked n o) disk) told
true_before (Next n o ∷ xs) ys disk told = true_before xs ys (after (Next n o) disk) told
true_before (Saw n o ∷ xs) ys disk told = (told.0, true_before xs ys disk told.1)

pub opens_finished : {D : Type 0} (calls : D → List Call) (step : Step) (known : Seen) (known_behind : List (List ℕ)) (seen : Seen) (behind : List (List ℕ)) (drops left : List ℕ)
    (old mid new : D) → OpensBehind calls step known known_behind seen behind old mid → Finishes calls drops left mid new
    → OpensBehind calls step known known_behind seen behind old new
opens_finished calls step known known_behind seen behind drops left old mid new opens f = record {
  opens = λ first chain events told fits is_left begins.
      let before : AreTrue (calls mid) first = true_before (calls mid) plan first (subst (λ (l : List Call). AreTrue l first) grows told) in
      let site : IsOpen seen behind step chain (after_all (calls mid) first) = opens.opens first chain events before fits is_left begins in
      record {
        events = site.events;
        is = site.is;
        stood = subst (Stood step chain site.events) (sym (ap (λ (l : List Call). after_all l first) grows ∙ after_both (calls mid) plan first))
            (stood_behind step chain site.events plan (after_all (calls mid) first) aside site.stood);
      };
}
  where
    plan : List Call
    plan = f.looks.more ++ leave_calls f.done

    grows : calls new ≡ calls mid ++ plan
    grows = f.did.all ∙ ap (λ (l : List Call). l ++ leave_calls f.done) f.looks.grows ∙ in_row (calls mid) f.looks.more (leave_calls f.done)

    aside : AllAside plan
    aside = looks_aside f.looks.more (leave_calls f.done) f.looks.only (removals_aside f.done)

-- ---- and no file is lost

looks_carefully : (looks rest : List Call) (time number : ℕ) (taken : List ℕ) (which : Which) → AllByRecursion (λ call. is_look call ≡ true) looks
    → ((t : ℕ) → AreCareful t number taken which (map Calls rest)) → AreCareful time number taken which (map Calls (looks ++ rest))
looks_carefully [] rest time number taken which all careful = careful time
looks_carefully (Looked name found ∷ looks) rest time number taken which all careful = (refl, (tt, looks_carefully looks rest (suc time) number taken which all.1 careful))
looks_carefully (Next from found ∷ looks) rest time number taken which all careful = (refl, (tt, looks_carefully looks rest (suc time) number taken which all.1 careful))
looks_carefully (Saw name found ∷ looks) rest time number taken which all careful = absurd (no all.0)
looks_carefully (Write name bytes ∷ looks) rest time number taken which all careful = absurd (no all.0)
looks_carefully (SyncFile name ∷ looks) rest time number taken which all careful = absurd (no all.0)
looks_carefully (Rename from to ∷ looks) rest time number taken which all careful = absurd (no all.0)
looks_carefully (Link from to ∷ looks) rest time number taken which all careful = absurd (no all.0)
looks_carefully (Remove name ∷ looks) rest time number taken which all careful = absurd (no all.0)
looks_carefully (SyncFolder folder ∷ looks) rest time number taken which all careful = absurd (no all.0)

pub claimed_under : (which : Which) (done : List ℕ) → AllByRecursion (IsClaimed which) done → AllByRecursion (IsUnder which) done
claimed_under which [] all = tt
claimed_under which (d ∷ done) all = (λ file now. record { number = all.0.under.number; is = all.0.under.is ∙ sym all.0.in_box ∙ now }, claimed_under which done all.1)

pub finishes_carefully : FinishesCarefully
finishes_carefully time number taken which looks done settled only claimed =
    looks_carefully looks (leave_calls done) time number taken which only (λ t. leaves_carefully done t number taken which settled (claimed_under which done claimed))

-- ---- how far it came

module _ {D : Type 0} (calls : D → List Call) where
  pub leaves_later : (old new : D) → Looks calls (λ which. Unit {0}) old new → Leaves calls old new
  leaves_later old new looks = record {
    done = [];
    mid = new;
    looks = looks_so calls (λ which. Unit {0}) (λ which. AllByRecursion (IsClaimed which) []) old new (λ which told. tt) looks;
    began = record { count = 0; some = sym (none_behind (calls new)) };
  }

  pub leaves_begun : (drops done left : List ℕ) (old mid new : D) → Looks calls (AreSorted drops done left) old mid → BeganSome calls leave_calls done mid new → Leaves calls old new
  leaves_begun drops done left old mid new looks some = record {
    done = some.some;
    mid = mid;
    looks = looks_so calls (AreSorted drops done left) (λ which. AllByRecursion (IsClaimed which) some.some) old mid (λ which told. some_claimed which some.some done some.are told.claimed) looks;
    began = some.began;
  }

  pub finishes : (drops done left : List ℕ) (old mid new : D) → Looks calls (AreSorted drops done left) old mid → DidSome calls leave_calls done mid new → Finishes calls drops left old new
  finishes drops done left old mid new looks some = record {
    done = some.some;
    mid = mid;
    looks = looks_so calls (AreSorted drops done left) (AreSorted drops some.some left) old mid
        (λ which told. record {
          claimed = some_claimed which some.some done some.does.are told.claimed;
          fit = told.fit;
          once = told.once;
          apart = apart_some some.some done some.does.are left told.apart;
        }) looks;
    did = some.does.did;
  }
    where
      among_all : (some all : List ℕ) (d : ℕ) → AreOf some all → IsAmong d some → IsAmong d all
      among_all [] all d are among = elim among [ ]
      among_all (x ∷ some) all d are (inl same) = subst (λ (e : ℕ). IsAmong e all) (sym same) are.0
      among_all (x ∷ some) all d are (inr more) = among_all some all d are.1 more

      apart_some : (some all : List ℕ) → AreOf some all → (left : List ℕ) → AllByRecursion (λ drop. IsAmong drop all → ⊥) left → AllByRecursion (λ drop. IsAmong drop some → ⊥) left
      apart_some some all are [] apart = tt
      apart_some some all are (d ∷ left) apart = (λ among. apart.0 (among_all some all d are among), apart_some some all are left apart.1)
