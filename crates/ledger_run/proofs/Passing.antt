-- A whole pass is careful.
use Rattle.std.proofs.Common.{◌≡◌, inl, inr, ◌<◌, ℕ, suc, ◌+◌, Bool, true, false, List, [], ◌∷◌, ◌++◌, length, map, Option, Some, None, refl, sym, ap, ◌∙◌, subst, arith}
use Rattle.std.{specs.Prelude.{if◌then◌else◌, ◌==◌}, proofs.lemmas.Bool.Decides.{nat_tests}}
use Rattle.ledger_disk.specs.declared.{identity.Identity.{Identity}, name.Name.TheVariants.{Dropped, Claimed}, name.Folder.TheVariants.{Boxes, Taken}}
use Rattle.ledger_disk.specs.Disks.{SlotOf, Which, Call, Write, SyncFile, Rename, Link, Remove, SyncFolder, Saw, Looked, Next, given, which_after, which_behind, IsAmong}
use Rattle.ledger_laws.{specs.Commits.{commit_calls}, specs.Claims.{links, removals, claim_calls, AreOf}, proofs.Careful.{claims_carefully}}
use Rattle.ledger_laws.specs.Places.{May, Has, Act, Takes, Commits, Calls, how_often, AreCareful, CanClaim}
use Rattle.ledger_run.specs.Passes.{take_acts, AreAside, AreSole, PassIsCareful}

-- ---- calls, and then more

pub calls_then : (cs : List Call) (ys : List Act) (time number : ℕ) (taken : List ℕ) (which : Which) → AreCareful time number taken which (map Calls cs)
    → ((t : ℕ) (w : Which) → w ≡ which_behind time cs which → AreCareful t number taken w ys) → AreCareful time number taken which (map Calls cs ++ ys)
calls_then [] ys time number taken which careful later = later time which refl
calls_then (c ∷ cs) ys time number taken which careful later =
    (careful.0, (careful.1.0, calls_then cs ys (suc time) number taken (which_after time c which) careful.1.1 later))

-- ---- what else is done

aside_carefully : (acts : List Act) (time number : ℕ) (taken : List ℕ) (which : Which) → AreAside acts → AreCareful time number taken which acts
aside_carefully [] time number taken which aside = tt
aside_carefully (Takes n bytes ∷ acts) time number taken which aside = elim aside [ ]
aside_carefully (Commits bytes ∷ acts) time number taken which aside =
    aside_carefully acts (suc (suc (suc (suc time)))) (suc number) taken (which_behind time (commit_calls number bytes) which) aside
aside_carefully (Calls (Write name bytes) ∷ acts) time number taken which aside =
    (aside.0.0, (aside.0.1, aside_carefully acts (suc time) number taken (which_after time (Write name bytes) which) aside.1))
aside_carefully (Calls (SyncFile name) ∷ acts) time number taken which aside =
    (aside.0.0, (aside.0.1, aside_carefully acts (suc time) number taken (which_after time (SyncFile name) which) aside.1))
aside_carefully (Calls (Rename from to) ∷ acts) time number taken which aside =
    (aside.0.0, (aside.0.1, aside_carefully acts (suc time) number taken (which_after time (Rename from to) which) aside.1))
aside_carefully (Calls (Link from to) ∷ acts) time number taken which aside = elim aside.0.1 [ ]
aside_carefully (Calls (Remove name) ∷ acts) time number taken which aside = elim aside.0.1 [ ]
aside_carefully (Calls (SyncFolder folder) ∷ acts) time number taken which aside =
    (aside.0.0, (tt, aside_carefully acts (suc time) number taken (which_after time (SyncFolder folder) which) aside.1))
aside_carefully (Calls (Saw name found) ∷ acts) time number taken which aside =
    (aside.0.0, (tt, aside_carefully acts (suc time) number taken (which_after time (Saw name found) which) aside.1))
aside_carefully (Calls (Looked name found) ∷ acts) time number taken which aside =
    (aside.0.0, (tt, aside_carefully acts (suc time) number taken (which_after time (Looked name found) which) aside.1))
aside_carefully (Calls (Next from found) ∷ acts) time number taken which aside =
    (aside.0.0, (tt, aside_carefully acts (suc time) number taken (which_after time (Next from found) which) aside.1))

-- ---- claimed files are recorded, and removed

record IsReady (taken : List ℕ) (which : Which) (n : ℕ) (file : Identity) : Type 0 where
  free : how_often n taken ≡ 0
  there : Has which (Claimed n) file
  gone : (d : ℕ) → May which (Dropped d) file → ⊥

abbrev AreReady : List ℕ → Which → ℕ → List Identity → Type 0
AreReady taken which n [] = Unit {0}
AreReady taken which n (file ∷ files) = IsReady taken which n file × AreReady taken which (suc n) files

zero_plus : (k : ℕ) → 0 + k ≡ k
zero_plus k = omega arith

other_test : (m n : ℕ) → n < m → (m == n) ≡ false
other_test m n less = grind (arith, nat_tests, less)

-- behind the record of number n, and its removal, those of the later numbers are ready still
still_ready : (files : List Identity) (taken : List ℕ) (which : Which) (time number n m : ℕ) (bytes : List ℕ) → n < m → AreReady taken which m files
    → AreReady (n ∷ taken) (which_after (suc (suc (suc (suc time)))) (Remove (Claimed n)) (which_behind time (commit_calls number bytes) which)) m files
still_ready [] taken which time number n m bytes less ready = tt
still_ready (file ∷ files) taken which time number n m bytes less ready = (
  record {
    free = ap (λ (b : Bool). (if b then 1 else 0) + how_often m taken) (other_test m n less) ∙ zero_plus (how_often m taken) ∙ ready.0.free;
    there = ap (λ (b : Bool). if b then given None (which (Claimed n)) else which (Claimed m)) (other_test m n less) ∙ ready.0.there;
    gone = ready.0.gone;
  },
  still_ready files taken which time number n (suc m) bytes (omega (arith, less)) ready.1,
)

takes_carefully : (texts : List (List ℕ)) (files : List Identity) (rest : List Act) (time number : ℕ) (taken : List ℕ) (which : Which) (n : ℕ) → length texts ≡ length files
    → AreReady taken which n files → AreAside rest → AreCareful time number taken which (take_acts n texts ++ rest)
takes_carefully [] files rest time number taken which n same ready aside = aside_carefully rest time number taken which aside
takes_carefully (bytes ∷ texts) [] rest time number taken which n same ready aside = absurd (omega (arith, same))
takes_carefully (bytes ∷ texts) (file ∷ files) rest time number taken which n same ready aside = (
  record { free = ready.0.free; file = file; there = ready.0.there; gone = ready.0.gone },
  (
    refl,
    (
      once,
      takes_carefully texts files rest (suc (suc (suc (suc (suc time))))) (suc number) (n ∷ taken)
          (which_after (suc (suc (suc (suc time)))) (Remove (Claimed n)) (which_behind time (commit_calls number bytes) which)) (suc n)
          (omega (arith, same)) (still_ready files taken which time number n (suc n) bytes (omega arith) ready.1) aside,
    ),
  ),
)
  where
    this : (n == n) ≡ true
    this = grind (arith, nat_tests)

    once : how_often n (n ∷ taken) ≡ 1
    once = ap (λ (b : Bool). (if b then 1 else 0) + how_often n taken) this ∙ ap (λ (k : ℕ). 1 + k) ready.0.free

-- ---- behind claims they are ready

abbrev files_of : (taken : List ℕ) (which : Which) (n : ℕ) (drops : List ℕ) → CanClaim taken which n drops → List Identity
files_of taken which n [] can = []
files_of taken which n (drop ∷ drops) can = can.0.file ∷ files_of taken which (suc n) drops can.1

as_many : (taken : List ℕ) (which : Which) (n : ℕ) (drops : List ℕ) (can : CanClaim taken which n drops) → length (files_of taken which n drops can) ≡ length drops
as_many taken which n [] can = refl
as_many taken which n (drop ∷ drops) can = let h = as_many taken which (suc n) drops can.1 in omega (arith, h)

behind_both : (xs ys : List Call) (time : ℕ) (which : Which) → which_behind time (xs ++ ys) which ≡ which_behind (time + length xs) ys (which_behind time xs which)
behind_both [] ys time which = ap (λ (t : ℕ). which_behind t ys which) (omega arith)
behind_both (x ∷ xs) ys time which =
    behind_both xs ys (suc time) (which_after time x which)
    ∙ (let e : suc time + length xs ≡ time + length (x ∷ xs) = omega arith in ap (λ (t : ℕ). which_behind t ys (which_behind (suc time) xs (which_after time x which))) e)

links_keep : (ds : List ℕ) (n m time : ℕ) (which : Which) → m < n → (which_behind time (links n ds) which (Claimed m)).now ≡ (which (Claimed m)).now
links_keep [] n m time which less = refl
links_keep (d ∷ ds) n m time which less =
    links_keep ds (suc n) m (suc time) (which_after time (Link (Dropped d) (Claimed n)) which) (omega (arith, less))
    ∙ ap (λ (b : Bool). (if b then given (which (Dropped d)).now (which (Claimed n)) else which (Claimed m)).now) other
  where
    other : (m == n) ≡ false
    other = grind (arith, nat_tests, less)

links_box : (ds : List ℕ) (n d time : ℕ) (which : Which) → which_behind time (links n ds) which (Dropped d) ≡ which (Dropped d)
links_box [] n d time which = refl
links_box (e ∷ ds) n d time which = links_box ds (suc n) d (suc time) (which_after time (Link (Dropped e) (Claimed n)) which)

removals_under : (gone : List ℕ) (time n : ℕ) (which : Which) → which_behind time (removals gone ++ SyncFolder Boxes ∷ []) which (Claimed n) ≡ which (Claimed n)
removals_under [] time n which = refl
removals_under (x ∷ gone) time n which = removals_under gone (suc time) n (which_after time (Remove (Dropped x)) which)

record Stayed (gone : List ℕ) (which : Which) (d : ℕ) (file : Identity) : Type 0 where
  was : (which (Dropped d)).now ≡ Some file
  apart : IsAmong d gone → ⊥

removals_box : (gone : List ℕ) (time d : ℕ) (file : Identity) (which : Which) → May (which_behind time (removals gone ++ SyncFolder Boxes ∷ []) which) (Dropped d) file → Stayed gone which d file
removals_box [] time d file which (inl now) = record { was = now; apart = λ no. no }
removals_box [] time d file which (inr none) = elim none [ ]
removals_box (x ∷ gone) time d file which may =
    by (d == x) refl (removals_box gone (suc time) d file (which_after time (Remove (Dropped x)) which) may)
  where
    by : (b : Bool) → (d == x) ≡ b → Stayed gone (which_after time (Remove (Dropped x)) which) d file → Stayed (x ∷ gone) which d file
    by true e s = absurd (none (sym (ap (λ (c : Bool). (if c then given None (which (Dropped x)) else which (Dropped d)).now) e) ∙ s.was))
      where
        none : None ≡ Some file → ⊥
        none h = cc (h)
    by false e s = record {
      was = sym (ap (λ (c : Bool). (if c then given None (which (Dropped x)) else which (Dropped d)).now) e) ∙ s.was;
      apart = λ among. neither among;
    }
      where
        neither : IsAmong d (x ∷ gone) → ⊥
        neither (inl same) = grind (arith, nat_tests, e, same)
        neither (inr more) = s.apart more

-- the first of these is claimed under n, the others behind it; all of them leave their boxes
module _ (all : List ℕ) where
  abbrev rest_calls : List Call
  rest_calls = SyncFolder Taken ∷ (removals all ++ SyncFolder Boxes ∷ [])

  ready_behind : (taken : List ℕ) (before : Which) (drops : List ℕ) (n time t : ℕ) (which : Which) (can : CanClaim taken before n drops) → AreSole taken before n drops can
      → ((d : ℕ) → which (Dropped d) ≡ before (Dropped d)) → AreOf drops all
      → AreReady taken (which_behind t rest_calls (which_behind time (links n drops) which)) n (files_of taken before n drops can)
  ready_behind taken before [] n time t which can sole boxes are = tt
  ready_behind taken before (drop ∷ drops) n time t which can sole boxes are = (
    record { free = can.0.free; there = there; gone = gone },
    ready_behind taken before drops (suc n) (suc time) t next can.1 sole.1 boxes are.1,
  )
    where
      next : Which
      next = which_after time (Link (Dropped drop) (Claimed n)) which

      mid : Which
      mid = which_behind (suc time) (links (suc n) drops) next

      this : (n == n) ≡ true
      this = grind (arith, nat_tests)

      now : (mid (Claimed n)).now ≡ Some can.0.file
      now =
          links_keep drops (suc n) n (suc time) next (omega arith)
          ∙ ap (λ (b : Bool). (if b then given (which (Dropped drop)).now (which (Claimed n)) else which (Claimed n)).now) this
          ∙ ap (λ (s : SlotOf Identity). s.now) (boxes drop) ∙ ap (λ (s : SlotOf Identity). s.now) can.0.in_box

      there : Has (which_behind t rest_calls mid) (Claimed n) can.0.file
      there = removals_under all (suc t) n (which_after t (SyncFolder Taken) mid) ∙ ap (λ (o : Option Identity). record { now = o; others = [] }) now

      gone : (d : ℕ) → May (which_behind t rest_calls mid) (Dropped d) can.0.file → ⊥
      gone d may =
          let s : Stayed all (which_after t (SyncFolder Taken) mid) d can.0.file = removals_box all (suc t) d can.0.file (which_after t (SyncFolder Taken) mid) may in
          let was : (before (Dropped d)).now ≡ Some can.0.file = sym (ap (λ (x : SlotOf Identity). x.now) (links_box drops (suc n) d (suc time) next ∙ boxes d)) ∙ s.was in
          s.apart (subst (λ (e : ℕ). IsAmong e all) (sym (sole.0 d was)) are.0)

of_self : (xs ys : List ℕ) → AreOf xs ys → (x : ℕ) → AreOf xs (x ∷ ys)
of_self [] ys are x = tt
of_self (y ∷ xs) ys are x = (inr are.0, of_self xs ys are.1 x)

all_of : (xs : List ℕ) → AreOf xs xs
all_of [] = tt
all_of (x ∷ xs) = (inl refl, of_self xs xs (all_of xs) x)

pub pass_is_careful : PassIsCareful
pass_is_careful time number taken which n drops texts rest can sole same aside =
    calls_then (claim_calls n drops drops) (take_acts n texts ++ rest) time number taken which (claims_carefully time number taken which n drops drops (all_of drops) can)
    (λ t w is. takes_carefully texts (files_of taken which n drops can) rest t number taken w n (same ∙ sym (as_many taken which n drops can))
    (subst (λ (v : Which). AreReady taken v n (files_of taken which n drops can)) (sym (is ∙ behind_both (links n drops) (rest_calls drops) time which))
    (ready_behind drops taken which drops n time (time + length (links n drops)) which can sole (λ d. refl) (all_of drops))) aside)
