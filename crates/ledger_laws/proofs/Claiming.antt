-- Claimed files are not lost.
use Rattle.std.proofs.Common.{◌≡◌, ◌⊎◌, inl, inr, ◌<◌, ℕ, zero, suc, ◌+◌, Bool, true, false, List, [], ◌∷◌, ◌++◌, take, Option, Some, None, refl, ap, ◌∙◌, subst, arith}
use Rattle.std.{specs.Prelude.{if◌then◌else◌, ◌==◌}, proofs.lemmas.Bool.Decides.{nat_tests}}
use Rattle.ledger_disk.specs.declared.name.{Name.TheVariants.{Dropped, Claimed}, Folder.TheVariants.{Boxes, Taken}}
use Rattle.ledger_disk.specs.Disks.{Disk, File, Slot, Call, Link, Remove, SyncFolder, after, after_all, given, Files, Leaves, IsRead, IsOne, IsAmong}
use Rattle.ledger_laws.specs.{Claims.{nth, links, removals, claim_calls}, Laws.{ClaimsLoseNothing}}

alone : File → Slot
alone file = record { now = Some file; others = [] }

pub after_both : (xs ys : List Call) (disk : Disk) → after_all (xs ++ ys) disk ≡ after_all ys (after_all xs disk)
after_both [] ys disk = refl
after_both (x ∷ xs) ys disk = after_both xs ys (after x disk)

module _ (drop m : ℕ) (file : File) where
  abbrev IsKept : Files → Type 0
  IsKept c = IsRead (Some file) (c (Dropped drop)) ⊎ IsRead (Some file) (c (Claimed m))

  abbrev slot : Slot
  slot = record { now = Some file; others = [] }

  in_box : (disk : Disk) → disk (Dropped drop) ≡ slot → (c : Files) → Leaves disk c → IsKept c
  in_box disk e c leaves = by (subst (λ (s : Slot). IsRead s.now (c (Dropped drop)) ⊎ IsOne s.others (c (Dropped drop))) e (leaves (Dropped drop)))
    where
      by : IsRead (Some file) (c (Dropped drop)) ⊎ IsOne [] (c (Dropped drop)) → IsKept c
      by (inl read) = inl read
      by (inr none) = elim none [ ]

  box_alone : (disk : Disk) → disk (Dropped drop) ≡ slot → (c : Files) → Leaves disk c → IsRead (Some file) (c (Dropped drop))
  box_alone disk e c leaves = by (subst (λ (s : Slot). IsRead s.now (c (Dropped drop)) ⊎ IsOne s.others (c (Dropped drop))) e (leaves (Dropped drop)))
    where
      by : IsRead (Some file) (c (Dropped drop)) ⊎ IsOne [] (c (Dropped drop)) → IsRead (Some file) (c (Dropped drop))
      by (inl read) = read
      by (inr none) = elim none [ ]

  in_taken : (disk : Disk) → disk (Claimed m) ≡ slot → (c : Files) → Leaves disk c → IsKept c
  in_taken disk e c leaves = by (subst (λ (s : Slot). IsRead s.now (c (Claimed m)) ⊎ IsOne s.others (c (Claimed m))) e (leaves (Claimed m)))
    where
      by : IsRead (Some file) (c (Claimed m)) ⊎ IsOne [] (c (Claimed m)) → IsKept c
      by (inl read) = inr read
      by (inr none) = elim none [ ]

  -- once it is on the disk under its number, removals do not touch that
  removing : (drops : List ℕ) (disk : Disk) → disk (Claimed m) ≡ slot → (k : ℕ) (c : Files) → Leaves (after_all (take k (removals drops ++ SyncFolder Boxes ∷ [])) disk) c → IsKept c
  removing drops disk e zero c leaves = in_taken disk e c leaves
  removing [] disk e (suc zero) c leaves = in_taken (after (SyncFolder Boxes) disk) e c leaves
  removing [] disk e (suc (suc k)) c leaves = in_taken (after (SyncFolder Boxes) disk) e c leaves
  removing (x ∷ drops) disk e (suc k) c leaves = removing drops (after (Remove (Dropped x)) disk) e k c leaves

  module _ (all : List ℕ) where
    abbrev rest : List Call
    rest = SyncFolder Taken ∷ (removals all ++ SyncFolder Boxes ∷ [])

    -- the link is made, and further ones are
    linked : (drops : List ℕ) (n : ℕ) (disk : Disk) → m < n → disk (Dropped drop) ≡ slot → (disk (Claimed m)).now ≡ Some file
        → (k : ℕ) (c : Files) → Leaves (after_all (take k (links n drops ++ rest)) disk) c → IsKept c
    linked drops n disk less e now zero c leaves = in_box disk e c leaves
    linked [] n disk less e now (suc k) c leaves = removing all (after (SyncFolder Taken) disk) (ap (λ (o : Option File). record { now = o; others = [] }) now) k c leaves
    linked (x ∷ drops) n disk less e now (suc k) c leaves =
        linked drops (suc n) (after (Link (Dropped x) (Claimed n)) disk) (omega (arith, less)) e
        (ap (λ (b : Bool). (if b then given (disk (Dropped x)).now (disk (Claimed n)) else disk (Claimed m)).now) other ∙ now) k c leaves
      where
        other : (m == n) ≡ false
        other = grind (arith, nat_tests, less)

    linking : (drops : List ℕ) (n place : ℕ) (disk : Disk) → n + place ≡ m → nth drops place ≡ Some drop → disk (Dropped drop) ≡ slot
        → (k : ℕ) (c : Files) → Leaves (after_all (take k (links n drops ++ rest)) disk) c → IsKept c
    linking drops n place disk is has e zero c leaves = in_box disk e c leaves
    linking [] n place disk is has e (suc k) c leaves = absurd (cc (has))
    linking (x ∷ drops) n zero disk is has e (suc k) c leaves =
        linked drops (suc n) (after (Link (Dropped x) (Claimed n)) disk) (omega (arith, is)) e
        (ap (λ (b : Bool). (if b then given (disk (Dropped x)).now (disk (Claimed n)) else disk (Claimed m)).now) this ∙ ap (λ (o : Option File). o) (now_of x (one x has))) k c leaves
      where
        this : (m == n) ≡ true
        this = grind (arith, nat_tests, is)

        one : (x : ℕ) → Some x ≡ Some drop → x ≡ drop
        one x h = cc (h)

        now_of : (x : ℕ) → x ≡ drop → (disk (Dropped x)).now ≡ Some file
        now_of x same = ap (λ (y : ℕ). (disk (Dropped y)).now) same ∙ ap (λ (s : Slot). s.now) e
    linking (x ∷ drops) n (suc place) disk is has e (suc k) c leaves =
        linking drops (suc n) place (after (Link (Dropped x) (Claimed n)) disk) (omega (arith, is)) has e k c leaves

  -- ---- in the end

  removed_stays : (drops : List ℕ) (disk : Disk) → disk (Claimed m) ≡ slot → after_all (removals drops ++ SyncFolder Boxes ∷ []) disk (Claimed m) ≡ slot
  removed_stays [] disk e = e
  removed_stays (x ∷ drops) disk e = removed_stays drops (after (Remove (Dropped x)) disk) e

  linked_end : (drops : List ℕ) (n : ℕ) (disk : Disk) → m < n → (disk (Claimed m)).now ≡ Some file → (after_all (links n drops) disk (Claimed m)).now ≡ Some file
  linked_end [] n disk less now = now
  linked_end (x ∷ drops) n disk less now =
      linked_end drops (suc n) (after (Link (Dropped x) (Claimed n)) disk) (omega (arith, less)) (ap (λ (b : Bool). (if b then given (disk (Dropped x)).now (disk (Claimed n)) else disk (Claimed m)).now) other ∙ now)
    where
      other : (m == n) ≡ false
      other = grind (arith, nat_tests, less)

  linking_end : (drops : List ℕ) (n place : ℕ) (disk : Disk) → n + place ≡ m → nth drops place ≡ Some drop → disk (Dropped drop) ≡ slot → (after_all (links n drops) disk (Claimed m)).now ≡ Some file
  linking_end [] n place disk is has e = absurd (cc (has))
  linking_end (x ∷ drops) n zero disk is has e =
      linked_end drops (suc n) (after (Link (Dropped x) (Claimed n)) disk) (omega (arith, is))
      (ap (λ (b : Bool). (if b then given (disk (Dropped x)).now (disk (Claimed n)) else disk (Claimed m)).now) this ∙ now_of x (one x has))
    where
      this : (m == n) ≡ true
      this = grind (arith, nat_tests, is)

      one : (x : ℕ) → Some x ≡ Some drop → x ≡ drop
      one x h = cc (h)

      now_of : (x : ℕ) → x ≡ drop → (disk (Dropped x)).now ≡ Some file
      now_of x same = ap (λ (y : ℕ). (disk (Dropped y)).now) same ∙ ap (λ (s : Slot). s.now) e
  linking_end (x ∷ drops) n (suc place) disk is has e = linking_end drops (suc n) place (after (Link (Dropped x) (Claimed n)) disk) (omega (arith, is)) has e

  gone_stays : (drops : List ℕ) (disk : Disk) → (disk (Dropped drop)).now ≡ None → after_all (removals drops ++ SyncFolder Boxes ∷ []) disk (Dropped drop) ≡ record { now = None; others = [] }
  gone_stays [] disk now = ap (λ (o : Option File). record { now = o; others = [] }) now
  gone_stays (x ∷ drops) disk now = gone_stays drops (after (Remove (Dropped x)) disk) (by (drop == x))
    where
      by : (b : Bool) → (if b then given None (disk (Dropped x)) else disk (Dropped drop)).now ≡ None
      by true = refl
      by false = now

  gone_end : (drops : List ℕ) (disk : Disk) → IsAmong drop drops → after_all (removals drops ++ SyncFolder Boxes ∷ []) disk (Dropped drop) ≡ record { now = None; others = [] }
  gone_end [] disk among = elim among [ ]
  gone_end (x ∷ drops) disk (inl same) = gone_stays drops (after (Remove (Dropped x)) disk) (by (drop == x) refl)
    where
      by : (b : Bool) → (drop == x) ≡ b → (if b then given None (disk (Dropped x)) else disk (Dropped drop)).now ≡ None
      by true e = refl
      by false e = absurd (grind (arith, nat_tests, same, e))
  gone_end (x ∷ drops) disk (inr more) = gone_end drops (after (Remove (Dropped x)) disk) more

  -- ---- and where it is not claimed, it stays

  unremoved : (drops : List ℕ) (disk : Disk) → (IsAmong drop drops → ⊥) → disk (Dropped drop) ≡ slot → (k : ℕ) (c : Files) → Leaves (after_all (take k (removals drops ++ SyncFolder Boxes ∷ [])) disk) c
      → IsRead (Some file) (c (Dropped drop))
  unremoved drops disk none e zero c leaves = box_alone disk e c leaves
  unremoved [] disk none e (suc zero) c leaves = box_alone (after (SyncFolder Boxes) disk) (ap (λ (s : Slot). record { now = s.now; others = [] }) e) c leaves
  unremoved [] disk none e (suc (suc k)) c leaves = box_alone (after (SyncFolder Boxes) disk) (ap (λ (s : Slot). record { now = s.now; others = [] }) e) c leaves
  unremoved (x ∷ drops) disk none e (suc k) c leaves =
      unremoved drops (after (Remove (Dropped x)) disk) (λ more. none (inr more))
      (ap (λ (b : Bool). if b then given None (disk (Dropped x)) else disk (Dropped drop)) (apart (drop == x) refl) ∙ e) k c leaves
    where
      apart : (b : Bool) → (drop == x) ≡ b → (drop == x) ≡ false
      apart true h = absurd (none (inl (grind (arith, nat_tests, h))))
      apart false h = h

  pub unclaimed : (drops gone : List ℕ) (n : ℕ) (disk : Disk) → (IsAmong drop gone → ⊥) → disk (Dropped drop) ≡ slot → (k : ℕ) (c : Files) → Leaves (after_all (take k (claim_calls n drops gone)) disk) c
      → IsRead (Some file) (c (Dropped drop))
  unclaimed drops gone n disk none e zero c leaves = box_alone disk e c leaves
  unclaimed [] gone n disk none e (suc k) c leaves = unremoved gone (after (SyncFolder Taken) disk) none e k c leaves
  unclaimed (x ∷ drops) gone n disk none e (suc k) c leaves = unclaimed drops gone (suc n) (after (Link (Dropped x) (Claimed n)) disk) none e k c leaves

pub claims_lose_nothing : ClaimsLoseNothing
claims_lose_nothing n drops gone disk drop place file has e = record {
  kept = λ k c leaves. linking drop (n + place) file gone drops n place disk refl has e k c leaves;
  claimed = ap (λ (d : Disk). d (Claimed (n + place))) (after_both (links n drops) (SyncFolder Taken ∷ (removals gone ++ SyncFolder Boxes ∷ [])) disk)
      ∙ removed_stays drop (n + place) file gone (after (SyncFolder Taken) (after_all (links n drops) disk))
      (ap (λ (o : Option File). record { now = o; others = [] }) (linking_end drop (n + place) file drops n place disk refl has e));
  absent = λ left. ap (λ (d : Disk). d (Dropped drop)) (after_both (links n drops) (SyncFolder Taken ∷ (removals gone ++ SyncFolder Boxes ∷ [])) disk)
      ∙ gone_end drop (n + place) file gone (after (SyncFolder Taken) (after_all (links n drops) disk)) left;
}
