-- Files are claimed, of which the system refuses some.
use Rattle.std.proofs.Common.{◌≡◌, ◌⊎◌, inl, inr, ◌<◌, ◌≤◌, ℕ, zero, suc, ◌+◌, Bool, true, false, List, [], ◌∷◌, ◌++◌, length, take, Some, refl, sym, ap, ◌∙◌, subst, arith}
use Rattle.std.{specs.Prelude.{slice_index, ◌==◌}, specs.List.{AllByRecursion}, proofs.lemmas.Bool.Decides.{nat_tests}}
use Rattle.ledger_disk.specs.{declared.name.Name.TheVariants.{Dropped, Claimed}, declared.name.Folder.TheVariants.{Boxes, Taken}, Plans.{Did, Began}}
use Rattle.ledger_disk.specs.Disks.{Disk, Call, Link, Remove, SyncFolder, IsAmong, IsRead, Leaves, Which, after_all}
use Rattle.ledger_laws.{specs.Claims.{nth, links, removals, claim_calls, AreOf}, proofs.Claiming.{claims_lose_nothing, unclaimed}}
use Rattle.ledger_run.specs.{Claiming.{DoesSome, DidSome, BeganSome, DoesNext, LinksNext, ClaimsBegun}, Finishing.{IsClaimed, leave_calls}, Moments.{KeepsEach}}
use Rattle.ledger_run.proofs.Planned.{whole, both, then, within, moment}

none_behind : {A : Type 0} (xs : List A) → xs ++ [] ≡ xs
none_behind [] = refl
none_behind {A} (x ∷ xs) = ap (λ (l : List A). x ∷ l) (none_behind xs)

-- ---- these of those

of_all : (xs ys zs : List ℕ) → AreOf xs zs → AreOf ys zs → AreOf (xs ++ ys) zs
of_all [] ys zs a b = b
of_all (x ∷ xs) ys zs a b = (a.0, of_all xs ys zs a.1 b)

of_one : (more : List ℕ) (x : ℕ) (all : List ℕ) → AreOf more (x ∷ []) → IsAmong x all → AreOf more all
of_one [] x all are is = tt
of_one (y ∷ more) x all are is = (by are.0, of_one more x all are.1 is)
  where
    by : IsAmong y (x ∷ []) → IsAmong y all
    by (inl same) = subst (λ (z : ℕ). IsAmong z all) (sym same) is
    by (inr never) = elim never [ ]

among_some : (x : ℕ) (ys zs : List ℕ) → IsAmong x ys → AreOf ys zs → IsAmong x zs
among_some x [] zs is are = elim is [ ]
among_some x (y ∷ ys) zs (inl same) are = subst (λ (z : ℕ). IsAmong z zs) (sym same) are.0
among_some x (y ∷ ys) zs (inr more) are = among_some x ys zs more are.1

pub among_at : (xs : List ℕ) (i : ℕ) → i < length xs → IsAmong (slice_index xs i) xs
among_at [] i less = absurd (omega (arith, less))
among_at (x ∷ xs) zero less = inl refl
among_at (x ∷ xs) (suc i) less = inr (among_at xs i (omega (arith, less)))

one_at_most : (x : ℕ) (more : List ℕ) → (more ≡ []) ⊎ (more ≡ x ∷ []) → AreOf more (x ∷ [])
one_at_most x more (inl e) = subst (λ (l : List ℕ). AreOf l (x ∷ [])) (sym e) tt
one_at_most x more (inr e) = subst (λ (l : List ℕ). AreOf l (x ∷ [])) (sym e) (inl refl, tt)

at_most_one : (x : ℕ) (more : List ℕ) → (more ≡ []) ⊎ (more ≡ x ∷ []) → length more ≤ 1
at_most_one x more (inl e) = subst (λ (l : List ℕ). length l ≤ 1) (sym e) (omega arith)
at_most_one x more (inr e) = subst (λ (l : List ℕ). length l ≤ 1) (sym e) (omega arith)

length_both : (xs ys : List ℕ) → length (xs ++ ys) ≡ length xs + length ys
length_both [] ys = omega arith
length_both (x ∷ xs) ys = let h = length_both xs ys in omega (arith, h)

-- ---- plans of more files

pub links_more : (made more : List ℕ) (n : ℕ) → links n (made ++ more) ≡ links n made ++ links (n + length made) more
links_more [] more n = ap (λ (m : ℕ). links m more) (omega arith)
links_more (x ∷ made) more n =
    ap (λ (l : List Call). Link (Dropped x) (Claimed n) ∷ l)
    (links_more made more (suc n) ∙ (let e : suc n + length made ≡ n + length (x ∷ made) = omega arith in ap (λ (m : ℕ). links (suc n) made ++ links m more) e))

pub removals_more : (made more : List ℕ) → removals (made ++ more) ≡ removals made ++ removals more
removals_more [] more = refl
removals_more (x ∷ made) more = ap (λ (l : List Call). Remove (Dropped x) ∷ l) (removals_more made more)

-- ---- whether a file is among these, and where

abbrev pub IsIn : ℕ → List ℕ → Type 0
IsIn drop made = ((place : ℕ) × (nth made place ≡ Some drop)) ⊎ (IsAmong drop made → ⊥)

seek : (drop : ℕ) (made : List ℕ) → IsIn drop made
seek drop [] = inr (λ never. never)
seek drop (x ∷ made) = by (drop == x) refl (seek drop made)
  where
    by : (b : Bool) → (drop == x) ≡ b → IsIn drop made → IsIn drop (x ∷ made)
    by true e more = inl (zero, (let same : x ≡ drop = grind (arith, nat_tests, e) in ap (λ (y : ℕ). Some y) same))
    by false e (inl (place, is)) = inl (suc place, is)
    by false e (inr never) = inr (λ is. apart is)
      where
        apart : IsAmong drop (x ∷ made) → ⊥
        apart (inl same) = grind (arith, nat_tests, e, same)
        apart (inr more) = never more

module _ {D : Type 0} (calls : D → List Call) where
  pub did_one : (plan : List ℕ → List Call) (drop : ℕ) (old new : D) → Did calls (plan (drop ∷ [])) old new → DidSome calls plan (drop ∷ []) old new
  did_one plan drop old new did = record { some = drop ∷ []; does = record { are = (inl refl, tt); did = did } }

  pub links_one : (number drop : ℕ) (so_far some : List ℕ) (old new : D) → some ≡ so_far ++ drop ∷ [] → Did calls (Link (Dropped drop) (Claimed number) ∷ []) old new
      → LinksNext calls number (number + 1) drop so_far some old new
  links_one number drop so_far some old new is did = record { does = record { more = drop ∷ []; one = inr refl; is = is; did = did }; count = omega arith }

  pub links_none : (number drop : ℕ) (so_far : List ℕ) (old new : D) → calls new ≡ calls old → LinksNext calls number number drop so_far so_far old new
  links_none number drop so_far old new stays = record {
    does = record { more = []; one = inl refl; is = sym (none_behind so_far); did = record { all = stays ∙ sym (none_behind (calls old)) } };
    count = omega arith;
  }

  -- ---- one file after the other

  module _ (plan next : List ℕ → List Call) (drop : ℕ) (drops so_far : List ℕ) (start mid new : D) (is : IsAmong drop drops)
      (splits : (more : List ℕ) → plan (so_far ++ more) ≡ plan so_far ++ next more) (so : DoesSome calls plan drops so_far start mid) where
    joined : (more : List ℕ) → AreOf more (drop ∷ []) → Did calls (next more) mid new → DoesSome calls plan drops (so_far ++ more) start new
    joined more are did = record {
      are = of_all so_far more drops so.are (of_one more drop drops are is);
      did = subst (λ (l : List Call). Did calls l start new) (sym (splits more)) (both calls (plan so_far) (next more) start mid new so.did did);
    }

    pub next_does : (some : List ℕ) → DoesNext calls next drop so_far some mid new → DoesSome calls plan drops some start new
    next_does some one = subst (λ (l : List ℕ). DoesSome calls plan drops l start new) (sym one.is) (joined one.more (one_at_most drop one.more one.one) one.did)

    pub next_did : DidSome calls next (drop ∷ []) mid new → DidSome calls plan drops start new
    next_did one = record { some = so_far ++ one.some; does = joined one.some one.does.are one.does.did }

  pub next_count : (number next drop : ℕ) (so_far some : List ℕ) (old new : D) (first : ℕ) → number ≡ first + length so_far → LinksNext calls number next drop so_far some old new
      → next ≡ first + length some
  next_count number next drop so_far some old new first is one =
      let a = one.count in let b = length_both so_far one.does.more in let c : length some ≡ length (so_far ++ one.does.more) = ap length one.does.is in omega (arith, is, a, b, c)

  pub next_bound : (number next drop : ℕ) (so_far some : List ℕ) (old new : D) (most : ℕ) → number ≤ most → LinksNext calls number next drop so_far some old new → next ≤ most + 1
  next_bound number next drop so_far some old new most less one = let a = one.count in let b = at_most_one drop one.does.more one.does.one in omega (arith, less, a, b)

  -- ---- claims

  module _ (n : ℕ) (drops : List ℕ) (old : D) where
    pub begun_links : (new : D) → DidSome calls (links n) drops old new → ClaimsBegun calls n drops old new
    begun_links new some = record {
      made = some.some;
      gone = [];
      are = some.does.are;
      left = tt;
      began = within calls (links n some.some) (SyncFolder Taken ∷ SyncFolder Boxes ∷ []) old new (whole calls (links n some.some) old new some.does.did);
    }

    module _ (made : List ℕ) (mid : D) (linked : DoesSome calls (links n) drops made old mid) where
      pub begun_taken : (new : D) → Began calls (SyncFolder Taken ∷ []) mid new → ClaimsBegun calls n drops old new
      begun_taken new began = record {
        made = made;
        gone = [];
        are = linked.are;
        left = tt;
        began = then calls (links n made) (SyncFolder Taken ∷ SyncFolder Boxes ∷ []) old mid new linked.did (within calls (SyncFolder Taken ∷ []) (SyncFolder Boxes ∷ []) mid new began);
      }

      module _ (settled : D) (did : Did calls (SyncFolder Taken ∷ []) mid settled) where
        pub begun_removals : (new : D) → DidSome calls removals made settled new → ClaimsBegun calls n drops old new
        begun_removals new some = record {
          made = made;
          gone = some.some;
          are = linked.are;
          left = some.does.are;
          began = then calls (links n made) (SyncFolder Taken ∷ (removals some.some ++ SyncFolder Boxes ∷ [])) old mid new linked.did
              (then calls (SyncFolder Taken ∷ []) (removals some.some ++ SyncFolder Boxes ∷ []) mid settled new did
              (within calls (removals some.some) (SyncFolder Boxes ∷ []) settled new (whole calls (removals some.some) settled new some.does.did)));
        }

        module _ (gone : List ℕ) (taken_out : D) (removed : DoesSome calls removals made gone settled taken_out) where
          pub begun_boxes : (new : D) → Began calls (SyncFolder Boxes ∷ []) taken_out new → ClaimsBegun calls n drops old new
          begun_boxes new began = record {
            made = made;
            gone = gone;
            are = linked.are;
            left = removed.are;
            began = then calls (links n made) (SyncFolder Taken ∷ (removals gone ++ SyncFolder Boxes ∷ [])) old mid new linked.did
                (then calls (SyncFolder Taken ∷ []) (removals gone ++ SyncFolder Boxes ∷ []) mid settled new did
                (then calls (removals gone) (SyncFolder Boxes ∷ []) settled taken_out new removed.did began));
          }

  -- ---- what a power cut leaves of the files

  pub keeps : (n : ℕ) (drops : List ℕ) (old new : D) → ClaimsBegun calls n drops old new → KeepsEach calls n old new
  keeps n drops old new begun first drop file there k c leaves = by (seek drop begun.made)
    where
      left : (i : ℕ) × (after_all (take (length (calls old) + k) (calls new)) first ≡ after_all (take i (claim_calls n begun.made begun.gone)) (after_all (calls old) first))
      left = moment calls (claim_calls n begun.made begun.gone) old new begun.began first k

      by : IsIn drop begun.made → IsRead (Some file) (c (Dropped drop)) ⊎ ((m : ℕ) × ((n ≤ m) × IsRead (Some file) (c (Claimed m))))
      by (inl (place, is)) =
          either ((claims_lose_nothing n begun.made begun.gone (after_all (calls old) first) drop place file is there).kept left.0 c (subst (λ (d : Disk). Leaves d c) left.1 leaves))
        where
          either : IsRead (Some file) (c (Dropped drop)) ⊎ IsRead (Some file) (c (Claimed (n + place))) → IsRead (Some file) (c (Dropped drop)) ⊎ ((m : ℕ) × ((n ≤ m) × IsRead (Some file) (c (Claimed m))))
          either (inl read) = inl read
          either (inr read) = inr (n + place, (omega arith, read))
      by (inr never) =
          inl (unclaimed drop n file begun.made begun.gone n (after_all (calls old) first) (λ is. never (among_some drop begun.gone begun.made is begun.left)) there left.0 c (subst (λ (d : Disk). Leaves d c) left.1 leaves))

  -- ---- claims that are finished

  pub left_begun : (done : List ℕ) (old mid new : D) → DidSome calls removals done old mid → Began calls (SyncFolder Boxes ∷ []) mid new → BeganSome calls leave_calls done old new
  left_begun done old mid new some began =
      record { some = some.some; are = some.does.are; began = then calls (removals some.some) (SyncFolder Boxes ∷ []) old mid new some.does.did began }

  pub left_some : (done : List ℕ) (old new : D) → DidSome calls removals done old new → BeganSome calls leave_calls done old new
  left_some done old new some = record {
    some = some.some;
    are = some.does.are;
    began = within calls (removals some.some) (SyncFolder Boxes ∷ []) old new (whole calls (removals some.some) old new some.does.did);
  }

among_claimed : (which : Which) (x : ℕ) (done : List ℕ) → IsAmong x done → AllByRecursion (IsClaimed which) done → IsClaimed which x
among_claimed which x [] is all = elim is [ ]
among_claimed which x (y ∷ done) (inl same) all = subst (IsClaimed which) (sym same) all.0
among_claimed which x (y ∷ done) (inr more) all = among_claimed which x done more all.1

pub some_claimed : (which : Which) (gone done : List ℕ) → AreOf gone done → AllByRecursion (IsClaimed which) done → AllByRecursion (IsClaimed which) gone
some_claimed which [] done are all = tt
some_claimed which (x ∷ gone) done are all = (among_claimed which x done are.0 all, some_claimed which gone done are.1 all)
