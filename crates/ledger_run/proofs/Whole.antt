-- A whole run is careful.
use Rattle.std.proofs.Common.{◌≡◌, inl, inr, ◌≤◌, ◌^◌, ℕ, suc, ◌+◌, Bool, true, false, List, [], ◌∷◌, ◌++◌, length, map, Option, Some, None, refl, sym, ap, ◌∙◌, subst, arith}
use Rattle.std.{specs.Prelude.{nat_lt}, specs.List.{AllByRecursion}, proofs.lemmas.Bool.Decides.{nat_tests}}
use Rattle.ledger_disk.specs.declared.{identity.Identity.{Identity}, name.Name.TheVariants.{Dropped, Claimed}}
use Rattle.ledger_disk.specs.Disks.{SlotOf, Which, Call, Write, SyncFile, Rename, Link, Remove, SyncFolder, Saw, Looked, Next, which_after, which_behind, IsAmong}
use Rattle.ledger_laws.specs.{Claims.{claim_calls}, Places.{May, Act, Calls, how_often, AreCareful, CanClaim}}
use Rattle.ledger_laws.proofs.{Placing.{keeps_each_file}, Careful.{leaves_carefully}}
use Rattle.ledger_run.specs.{Finishing.{IsFit, AreOnce, leave_calls}, Passes.{take_acts, AreSole, AreSights, is_sight, Run, run_acts, MayRun, RunKeepsFiles}}
use Rattle.ledger_run.proofs.{Leaving.{claimed_under, leave_now, leave_under, fit_behind}, Passing.{calls_then, pass_is_careful}}

-- ---- what is only seen

no : false ≡ true → ⊥
no e = cc (e)

sight_same : (call : Call) (time : ℕ) (which : Which) → is_sight call ≡ true → which_after time call which ≡ which
sight_same (Saw name found) time which e = refl
sight_same (Looked name found) time which e = refl
sight_same (Next from found) time which e = refl
sight_same (Write name bytes) time which e = absurd (no e)
sight_same (SyncFile name) time which e = absurd (no e)
sight_same (Rename from to) time which e = absurd (no e)
sight_same (Link from to) time which e = absurd (no e)
sight_same (Remove name) time which e = absurd (no e)
sight_same (SyncFolder folder) time which e = absurd (no e)

sights_same : (calls : List Call) (time : ℕ) (which : Which) → AreSights calls → which_behind time calls which ≡ which
sights_same [] time which all = refl
sights_same (x ∷ calls) time which all = sights_same calls (suc time) (which_after time x which) all.1 ∙ sight_same x time which all.0

sights_carefully : (calls : List Call) (time number : ℕ) (taken : List ℕ) (which : Which) → AreSights calls → AreCareful time number taken which (map Calls calls)
sights_carefully [] time number taken which all = tt
sights_carefully (Saw name found ∷ calls) time number taken which all = (refl, (tt, sights_carefully calls (suc time) number taken which all.1))
sights_carefully (Looked name found ∷ calls) time number taken which all = (refl, (tt, sights_carefully calls (suc time) number taken which all.1))
sights_carefully (Next from found ∷ calls) time number taken which all = (refl, (tt, sights_carefully calls (suc time) number taken which all.1))
sights_carefully (Write name bytes ∷ calls) time number taken which all = absurd (no all.0)
sights_carefully (SyncFile name ∷ calls) time number taken which all = absurd (no all.0)
sights_carefully (Rename from to ∷ calls) time number taken which all = absurd (no all.0)
sights_carefully (Link from to ∷ calls) time number taken which all = absurd (no all.0)
sights_carefully (Remove name ∷ calls) time number taken which all = absurd (no all.0)
sights_carefully (SyncFolder folder ∷ calls) time number taken which all = absurd (no all.0)

any_time : (done : List ℕ) (t v : ℕ) (which : Which) → which_behind t (leave_calls done) which ≡ which_behind v (leave_calls done) which
any_time [] t v which = refl
any_time (x ∷ done) t v which = any_time done (suc t) (suc v) (which_after t (Remove (Dropped x)) which)

-- ---- what is left can be claimed

left_others : (done : List ℕ) (time : ℕ) (which : Which) (d : ℕ) → (which_behind time (leave_calls done) which (Dropped d)).others ≡ []
left_others [] time which d = refl
left_others (x ∷ done) time which d = left_others done (suc time) (which_after time (Remove (Dropped x)) which) d

under_others : (done : List ℕ) (time : ℕ) (which : Which) (n : ℕ) → (which_behind time (leave_calls done) which (Claimed n)).others ≡ (which (Claimed n)).others
under_others [] time which n = refl
under_others (x ∷ done) time which n = under_others done (suc time) (which_after time (Remove (Dropped x)) which) n

slot_is : (slot : SlotOf Identity) (file : Option Identity) → slot.now ≡ file → slot.others ≡ [] → slot ≡ record { now = file; others = [] }
slot_is slot file a b = ap (λ (o : Option Identity). record { now = o; others = slot.others }) a ∙ ap (λ (l : List (Option Identity)). record { now = file; others = l }) b

module _ (taken drops : List ℕ) (which : Which) (boxes : (d : ℕ) → (which (Dropped d)).others ≡ []) (settled : (n : ℕ) → (which (Claimed n)).others ≡ [])
    (all : (d : ℕ) (file : Identity) → (which (Dropped d)).now ≡ Some file → IsAmong d drops) where
  -- from this number on nothing stands, and none was taken
  record Free (number : ℕ) : Type 0 where
    room : number ≤ 2 ^ 64
    none : (n : ℕ) → number ≤ n → (which (Claimed n)).now ≡ None
    unused : (n : ℕ) → number ≤ n → how_often n taken ≡ 0

  no_file : (file : Identity) → None ≡ Some file → ⊥
  no_file file e = cc (e)

  others_apart : (drop : ℕ) (fit : IsFit drops which drop) (rest : List ℕ) → (IsAmong drop rest → ⊥) → AllByRecursion (IsFit drops which) rest
      → AllByRecursion (λ other. (which (Dropped other)).now ≡ Some fit.file → ⊥) rest
  others_apart drop fit [] once fits = tt
  others_apart drop fit (x ∷ rest) once fits = (
    λ is. once (inl (sym (fit.sole x fits.0.among is))),
    others_apart drop fit rest (λ more. once (inr more)) fits.1,
  )

  nowhere : (number : ℕ) (free : Free number) (drop : ℕ) (fit : IsFit drops which drop) (m : ℕ) → May which (Claimed m) fit.file → ⊥
  nowhere number free drop fit m (inl now) = by (nat_lt m (2 ^ 64)) refl
    where
      by : (b : Bool) → nat_lt m (2 ^ 64) ≡ b → ⊥
      by true e = fit.under_none m (grind (arith, nat_tests, e)) now
      by false e =
          let late : 2 ^ 64 ≤ m = grind (arith, nat_tests, e) in let room = free.room in
          no_file fit.file (sym (free.none m (omega (arith, late, room))) ∙ now)
  nowhere number free drop fit m (inr among) = elim (subst (λ (l : List (Option Identity)). IsAmong (Some fit.file) l) (settled m) among) [ ]

  -- these can be claimed from this number on, each under the one name that it has
  record AreReady (left : List ℕ) (number : ℕ) : Type 0 where
    can : CanClaim taken which number left
    sole : AreSole taken which number left can

  can_claim : (left : List ℕ) (number : ℕ) → number + length left ≤ 2 ^ 64 → ((n : ℕ) → number ≤ n → (which (Claimed n)).now ≡ None) → ((n : ℕ) → number ≤ n → how_often n taken ≡ 0)
      → AllByRecursion (IsFit drops which) left → AreOnce left → AreReady left number
  can_claim [] number room none unused fits once = record { can = tt; sole = tt }
  can_claim (drop ∷ left) number room none unused fits once =
      let rest : AreReady left (suc number) =
      can_claim left (suc number) (omega (arith, room)) (λ n less. none n (omega (arith, less))) (λ n less. unused n (omega (arith, less))) fits.1 once.1 in
      record {
        can = (
          record {
            free = unused number (omega arith);
            empty = slot_is (which (Claimed number)) None (none number (omega arith)) (settled number);
            file = fits.0.file;
            in_box = slot_is (which (Dropped drop)) (Some fits.0.file) fits.0.in_box (boxes drop);
            under_none = nowhere number (record { room = omega (arith, room); none = none; unused = unused }) drop fits.0;
            alone = others_apart drop fits.0 left once.0 fits.1;
          },
          rest.can,
        );
        sole = (λ d is. fits.0.sole d (all d fits.0.file is) is, rest.sole);
      }

-- ---- the run

module _ (time number : ℕ) (taken drops : List ℕ) (which : Which) (run : Run) (may : MayRun taken drops which run) where
  later : (t : ℕ) (w : Which) → w ≡ which_behind t (leave_calls run.done) which
      → AreCareful t number taken w (map Calls (claim_calls run.number run.left run.left) ++ (take_acts run.number run.texts ++ run.rest))
  later t w is = subst (λ (v : Which). AreCareful t number taken v (map Calls (claim_calls run.number run.left run.left) ++ (take_acts run.number run.texts ++ run.rest))) (sym is)
      (pass_is_careful t number taken behind run.number run.left run.texts run.rest ready.can ready.sole may.each may.aside)
    where
      behind : Which
      behind = which_behind t (leave_calls run.done) which

      boxes : (d : ℕ) → (behind (Dropped d)).others ≡ []
      boxes d = left_others run.done t which d

      settled : (n : ℕ) → (behind (Claimed n)).others ≡ []
      settled n = under_others run.done t which n ∙ may.settled n

      all : (d : ℕ) (file : Identity) → (behind (Dropped d)).now ≡ Some file → IsAmong d drops
      all d file is = may.all d file (leave_now run.done t which d file is)

      none : (n : ℕ) → run.number ≤ n → (behind (Claimed n)).now ≡ None
      none n less = leave_under run.done t which n ∙ may.free n less

      fits : AllByRecursion (IsFit drops behind) run.left
      fits = fit_behind drops run.done run.left t which may.sorted.apart may.sorted.fit

      ready : AreReady taken drops behind boxes settled all run.left run.number
      ready = can_claim taken drops behind boxes settled all run.left run.number may.room none may.unused fits may.sorted.once

  -- when it is does not matter for what leaves the boxes
  later_at : (t v : ℕ) (x : Which) → x ≡ which_behind t (leave_calls run.done) which
      → AreCareful v number taken x (map Calls (claim_calls run.number run.left run.left) ++ (take_acts run.number run.texts ++ run.rest))
  later_at t v x is = later v x (is ∙ any_time run.done t v which)

  pub run_is_careful : AreCareful time number taken which (run_acts run)
  run_is_careful =
      calls_then run.sights (map Calls (leave_calls run.done) ++ (map Calls run.more ++ behind_looks)) time number taken which (sights_carefully run.sights time number taken which may.sees)
      (λ t w is. subst (λ (v : Which). AreCareful t number taken v (map Calls (leave_calls run.done) ++ (map Calls run.more ++ behind_looks)))
      (sym (is ∙ sights_same run.sights time which may.sees)) (from_leaving t))
    where
      behind_looks : List Act
      behind_looks = map Calls (claim_calls run.number run.left run.left) ++ (take_acts run.number run.texts ++ run.rest)

      from_leaving : (t : ℕ) → AreCareful t number taken which (map Calls (leave_calls run.done) ++ (map Calls run.more ++ behind_looks))
      from_leaving t =
          calls_then (leave_calls run.done) (map Calls run.more ++ behind_looks) t number taken which
          (leaves_carefully run.done t number taken which may.settled (claimed_under which run.done may.sorted.claimed))
          (λ u w is. calls_then run.more behind_looks u number taken w (sights_carefully run.more u number taken w may.looks)
          (λ v x same. later_at t v x (same ∙ sights_same run.more u w may.looks ∙ is)))

pub run_keeps_files : RunKeepsFiles
run_keeps_files time chain taken drops disk which run stands may file kept k c w leaves leaves_which =
    keeps_each_file time chain taken (run_acts run) disk which stands (run_is_careful time (length chain) taken drops which run may) file kept k c w leaves leaves_which
