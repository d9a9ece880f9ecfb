-- Files are claimed, and leave their boxes, carefully.
use Rattle.std.proofs.Common.{◌≡◌, inl, inr, ◌<◌, ℕ, suc, Bool, true, false, List, [], ◌∷◌, ◌++◌, map, Option, Some, None, refl, sym, ap, ◌∙◌, subst, arith}
use Rattle.std.{specs.Prelude.{if◌then◌else◌, ◌==◌}, specs.List.{AllByRecursion}, proofs.lemmas.Bool.Decides.{nat_tests}}
use Rattle.ledger_disk.specs.declared.{identity.Identity.{Identity}, name.Name.TheVariants.{Dropped, Claimed}}
use Rattle.ledger_disk.specs.declared.name.Folder.TheVariants.{Boxes, Taken}
use Rattle.ledger_disk.specs.Disks.{SlotOf, Which, Call, Link, Remove, SyncFolder, given, which_after, which_behind, IsAmong}
use Rattle.ledger_laws.specs.{Claims.{links, removals, AreOf}, Places.{MayHave, May, Has, ClaimsOne, MayRemove, Calls, AreCareful, CanClaimOne, CanClaim}}
use Rattle.ledger_laws.specs.Laws.{ClaimsCarefully}

abbrev Entry : Type 0
Entry = SlotOf Identity

-- the file of this place in the boxes, if there is one, stands under a number
pub record Stands (which : Which) (file : Identity) : Type 0 where
  pub number : ℕ
  pub is : (which (Claimed number)).now ≡ Some file

abbrev pub IsUnder : Which → ℕ → Type 0
IsUnder which d = (file : Identity) → (which (Dropped d)).now ≡ Some file → Stands which file

alone : (slot : Entry) (file : Identity) → slot.now ≡ Some file → slot.others ≡ [] → slot ≡ record { now = Some file; others = [] }
alone slot file a b = ap (λ (o : Option Identity). record { now = o; others = slot.others }) a ∙ ap (λ (l : List (Option Identity)). record { now = Some file; others = l }) b

inside : (a b : Identity) → Some a ≡ Some b → a ≡ b
inside a b e = cc (e)

-- ---- files leave their boxes

module _ (which : Which) (time x : ℕ) where
  abbrev on : Which
  on = which_after time (Remove (Dropped x)) which

  still_one : (d : ℕ) → IsUnder which d → IsUnder on d
  still_one d is file now = let s : Stands which file = is file (by (d == x) now) in record { number = s.number; is = s.is }
    where
      by : (b : Bool) → (if b then given None (which (Dropped x)) else which (Dropped d)).now ≡ Some file → (which (Dropped d)).now ≡ Some file
      by true e = absurd (cc (e))
      by false e = e

  still : (ds : List ℕ) → AllByRecursion (IsUnder which) ds → AllByRecursion (IsUnder on) ds
  still [] all = tt
  still (d ∷ ds) all = (still_one d all.0, still ds all.1)

pub leaves_carefully : (done : List ℕ) (time number : ℕ) (taken : List ℕ) (which : Which) → ((n : ℕ) → (which (Claimed n)).others ≡ []) → AllByRecursion (IsUnder which) done
    → AreCareful time number taken which (map Calls (removals done ++ SyncFolder Boxes ∷ []))
leaves_carefully [] time number taken which settled all = (refl, (tt, tt))
leaves_carefully (x ∷ done) time number taken which settled all =
    (refl, (may, leaves_carefully done (suc time) number taken (which_after time (Remove (Dropped x)) which) settled (still which time x done all.1)))
  where
    may : MayRemove taken which (Dropped x)
    may file now = let s : Stands which file = all.0 file now in (s.number, alone (which (Claimed s.number)) file s.is (settled s.number))

-- ---- files get numbers

links_keep : (ds : List ℕ) (n m time : ℕ) (which : Which) → m < n → (which_behind time (links n ds) which (Claimed m)).now ≡ (which (Claimed m)).now
links_keep [] n m time which less = refl
links_keep (d ∷ ds) n m time which less =
    links_keep ds (suc n) m (suc time) (which_after time (Link (Dropped d) (Claimed n)) which) (omega (arith, less))
    ∙ ap (λ (b : Bool). (if b then given (which (Dropped d)).now (which (Claimed n)) else which (Claimed m)).now) other
  where
    other : (m == n) ≡ false
    other = grind (arith, nat_tests, less)

links_box : (ds : List ℕ) (n d time : ℕ) (which : Which) → which_behind time (links n ds) which (Dropped d) ≡ which (Dropped d)
links_box [] n d time which = refl
links_box (e ∷ ds) n d time which = links_box ds (suc n) d (suc time) (which_after time (Link (Dropped e) (Claimed n)) which)

links_end : (ds : List ℕ) (n time : ℕ) (which : Which) → AllByRecursion (IsUnder (which_behind time (links n ds) which)) ds
links_end [] n time which = tt
links_end (d ∷ ds) n time which = (λ file now. record { number = n; is = here ∙ sym box ∙ now }, links_end ds (suc n) (suc time) next)
  where
    next : Which
    next = which_after time (Link (Dropped d) (Claimed n)) which

    box : (which_behind (suc time) (links (suc n) ds) next (Dropped d)).now ≡ (which (Dropped d)).now
    box = ap (λ (s : Entry). s.now) (links_box ds (suc n) d (suc time) next)

    this : (n == n) ≡ true
    this = grind (arith, nat_tests)

    here : (which_behind (suc time) (links (suc n) ds) next (Claimed n)).now ≡ (which (Dropped d)).now
    here =
        links_keep ds (suc n) n (suc time) next (omega arith)
        ∙ ap (λ (b : Bool). (if b then given (which (Dropped d)).now (which (Claimed n)) else which (Claimed n)).now) this

-- one is linked: the others can be
module _ (taken : List ℕ) (which : Which) (time n d : ℕ) (others : List ℕ) (one : CanClaimOne taken which n d others) where
  abbrev linked : Which
  linked = which_after time (Link (Dropped d) (Claimed n)) which

  clash : (file : Identity) → Some file ≡ None → ⊥
  clash file h = cc (h)

  none_under : (e : ℕ) (file : Identity) → Has which (Dropped e) file → ((which (Dropped e)).now ≡ Some one.file → ⊥) → ((m : ℕ) → May which (Claimed m) file → ⊥) → (m : ℕ) → May linked (Claimed m) file → ⊥
  none_under e file has not under m may = by (m == n) refl may
    where
      by : (b : Bool) → (m == n) ≡ b → MayHave (if b then given (which (Dropped d)).now (which (Claimed n)) else which (Claimed m)) file → ⊥
      by true t (inl now) =
          let it : one.file ≡ file = inside one.file file (sym (ap (λ (s : Entry). s.now) one.in_box) ∙ now) in
          not (ap (λ (s : Entry). s.now) has ∙ ap (λ (g : Identity). Some g) (sym it))
      by true t (inr (inl old)) = clash file (old ∙ ap (λ (s : Entry). s.now) one.empty)
      by true t (inr (inr more)) = subst (λ (l : List (Option Identity)). IsAmong (Some file) l) (ap (λ (s : Entry). s.others) one.empty) more
      by false t may = under m may

  can_on : (m : ℕ) (ds : List ℕ) → n < m → AllByRecursion (λ other. (which (Dropped other)).now ≡ Some one.file → ⊥) ds → CanClaim taken which m ds → CanClaim taken linked m ds
  can_on m [] less alone can = tt
  can_on m (e ∷ ds) less alone can = (
    record {
      free = can.0.free;
      empty = ap (λ (b : Bool). if b then given (which (Dropped d)).now (which (Claimed n)) else which (Claimed m)) other ∙ can.0.empty;
      file = can.0.file;
      in_box = can.0.in_box;
      under_none = λ k may. none_under e can.0.file can.0.in_box alone.0 can.0.under_none k may;
      alone = can.0.alone;
    },
    can_on (suc m) ds (omega (arith, less)) alone.1 can.1,
  )
    where
      other : (m == n) ≡ false
      other = grind (arith, nat_tests, less)

  claims_one : ClaimsOne taken which (Dropped d) n
  claims_one = record {
    box = d;
    in_box = refl;
    free = one.free;
    empty = one.empty;
    once = λ file now m may.
        let it : file ≡ one.file = inside file one.file (sym now ∙ ap (λ (s : Entry). s.now) one.in_box) in
        one.under_none m (subst (λ (g : Identity). May which (Claimed m) g) it may);
  }

links_carefully : (ds : List ℕ) (rest : List Call) (time number : ℕ) (taken : List ℕ) (which : Which) (n : ℕ) → CanClaim taken which n ds
    → ((t : ℕ) → AreCareful t number taken (which_behind time (links n ds) which) (map Calls rest)) → AreCareful time number taken which (map Calls (links n ds ++ rest))
links_carefully [] rest time number taken which n can careful = careful time
links_carefully (d ∷ ds) rest time number taken which n can careful = (
  refl,
  (
    claims_one taken which time n d ds can.0,
    links_carefully ds rest (suc time) number taken (which_after time (Link (Dropped d) (Claimed n)) which) (suc n)
        (can_on taken which time n d ds can.0 (suc n) ds (omega arith) can.0.alone can.1) careful,
  ),
)

settled_under : (ds : List ℕ) (time : ℕ) (which : Which) → AllByRecursion (IsUnder which) ds → AllByRecursion (IsUnder (which_after time (SyncFolder Taken) which)) ds
settled_under [] time which all = tt
settled_under (d ∷ ds) time which all = (λ file now. (let s : Stands which file = all.0 file now in record { number = s.number; is = s.is }), settled_under ds time which all.1)

among_under : (which : Which) (ds : List ℕ) (d : ℕ) → IsAmong d ds → AllByRecursion (IsUnder which) ds → IsUnder which d
among_under which [] d among all = elim among [ ]
among_under which (x ∷ ds) d (inl same) all = subst (IsUnder which) (sym same) all.0
among_under which (x ∷ ds) d (inr more) all = among_under which ds d more all.1

some_under : (which : Which) (gone ds : List ℕ) → AreOf gone ds → AllByRecursion (IsUnder which) ds → AllByRecursion (IsUnder which) gone
some_under which [] ds are all = tt
some_under which (d ∷ gone) ds are all = (among_under which ds d are.0 all, some_under which gone ds are.1 all)

pub claims_carefully : ClaimsCarefully
claims_carefully time number taken which n drops gone are can =
    links_carefully drops (SyncFolder Taken ∷ (removals gone ++ SyncFolder Boxes ∷ [])) time number taken which n can
    (λ t. (
      refl,
      (
        tt,
        leaves_carefully gone (suc t) number taken (which_after t (SyncFolder Taken) (which_behind time (links n drops) which)) (λ m. refl)
            (some_under (which_after t (SyncFolder Taken) (which_behind time (links n drops) which)) gone drops are
            (settled_under drops t (which_behind time (links n drops) which) (links_end drops n time which))),
      ),
    ))
