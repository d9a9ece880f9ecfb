-- A dropped file waits, or was taken once, whatever is done carefully.
use Rattle.std.proofs.Common.{◌≡◌, ◌⊎◌, inl, inr, ℕ, zero, suc, ◌+◌, Bool, true, false, List, [], ◌∷◌, ◌++◌, length, take, Option, Some, None, refl, sym, ap, ◌∙◌, subst, arith}
use Rattle.std.{specs.Prelude.{if◌then◌else◌, ◌==◌}, proofs.lemmas.Bool.Decides.{nat_tests}}
use Rattle.ledger_disk.specs.declared.{identity.Identity.{Identity}, name.Name.{Name}}
use Rattle.ledger_disk.specs.declared.name.Name.TheVariants.{Commit, Draft, Dropped, Claimed, Answer, Unfinished}
use Rattle.ledger_disk.specs.Disks.{Disk, SlotOf, Which, Call, Write, SyncFile, Rename, Link, Remove, SyncFolder, Saw, Looked, Next, after, after_all, same, with_slot, given, brought, settled, stands_in, new_identity, which_after, which_behind, which_booted, IsAmong, Files, Leaves, LeavesWhich}
use Rattle.ledger_laws.specs.{Commits.{Stands, IsLedger, commit_calls}, Laws.{KeepsFileAt, KeepsEachFile}}
use Rattle.ledger_laws.proofs.{Committing.{equal, commits_whole}, Tracing.{other_stands, length_more, one_behind, none_behind, standing}}
use Rattle.ledger_laws.specs.Places.{how_often, MayHave, May, Has, Home, Waits, IsTaken, IsKept, is_apart, ClaimsOne, MayRemove, IsCareful, MayTake, Act, Takes, Commits, Calls, calls_of, commits_in, taken_by, AreCareful}

abbrev Entry : Type 0
Entry = SlotOf Identity

abbrev only_this : Identity → Entry
only_this file = record { now = Some file; others = [] }

-- ---- where nothing new may have it

module _ (taken : List ℕ) (old new : Which) (file : Identity) (boxes : (d : ℕ) → May new (Dropped d) file → May old (Dropped d) file)
    (numbers : (n : ℕ) → May new (Claimed n) file → May old (Claimed n) file) where
  waits_on : Home new file → Waits taken old file → Waits taken new file
  waits_on home w = record { home = home; one = λ n m a b. w.one n m (numbers n a) (numbers m b); free = λ n a. w.free n (numbers n a) }

  taken_on : (n : ℕ) → IsTaken taken old file n → IsTaken taken new file n
  taken_on n t = record { once = t.once; box = λ d a. t.box d (boxes d a); only = λ m a. t.only m (numbers m a) }

  kept_on : (Home old file → Home new file) → IsKept taken old file → IsKept taken new file
  kept_on home (inl w) = inl (waits_on (home w.home) w)
  kept_on home (inr (n, t)) = inr (n, taken_on n t)

same_kept : (taken : List ℕ) (old new : Which) (file : Identity) → ((d : ℕ) → new (Dropped d) ≡ old (Dropped d)) → ((n : ℕ) → new (Claimed n) ≡ old (Claimed n))
    → IsKept taken old file → IsKept taken new file
same_kept taken old new file boxes numbers kept =
    kept_on taken old new file (λ d a. subst (λ (s : Entry). MayHave s file) (boxes d) a) (λ n a. subst (λ (s : Entry). MayHave s file) (numbers n) a) home kept
  where
    home : Home old file → Home new file
    home (inl (d, has)) = inl (d, boxes d ∙ has)
    home (inr (n, has)) = inr (n, numbers n ∙ has)

-- ---- names apart

apart_box : (name : Name) (d : ℕ) → is_apart name ≡ true → same (Dropped d) name ≡ false
apart_box (Commit n) d e = refl
apart_box Draft d e = refl
apart_box (Dropped n) d e = absurd (cc (e))
apart_box (Claimed n) d e = absurd (cc (e))
apart_box (Answer n) d e = refl
apart_box Unfinished d e = refl

apart_number : (name : Name) (m : ℕ) → is_apart name ≡ true → same (Claimed m) name ≡ false
apart_number (Commit n) m e = refl
apart_number Draft m e = refl
apart_number (Dropped n) m e = absurd (cc (e))
apart_number (Claimed n) m e = absurd (cc (e))
apart_number (Answer n) m e = refl
apart_number Unfinished m e = refl

not_at : (name : Name) (slot : Entry) (which : Which) (n : Name) → same n name ≡ false → with_slot name slot which n ≡ which n
not_at name slot which n e = ap (λ (b : Bool). if b then slot else which n) e

put_apart : (taken : List ℕ) (which : Which) (file : Identity) (name : Name) (slot : Entry) → is_apart name ≡ true → IsKept taken which file → IsKept taken (with_slot name slot which) file
put_apart taken which file name slot e kept =
    same_kept taken which (with_slot name slot which) file (λ d. not_at name slot which (Dropped d) (apart_box name d e)) (λ n. not_at name slot which (Claimed n) (apart_number name n e)) kept

-- ---- a file is claimed

module _ (taken : List ℕ) (which : Which) (file : Identity) (from : Name) (n : ℕ) (r : ClaimsOne taken which from n) where
  abbrev linked : Which
  linked = with_slot (Claimed n) (given (which from).now (which (Claimed n))) which

  none_now : (which (Claimed n)).now ≡ None
  none_now = ap (λ (s : Entry). s.now) r.empty

  none_else : (which (Claimed n)).others ≡ []
  none_else = ap (λ (s : Entry). s.others) r.empty

  clash : Some file ≡ None → ⊥
  clash h = cc (h)

  link_may : (m : ℕ) → May linked (Claimed m) file → (((which from).now ≡ Some file) × (m ≡ n)) ⊎ May which (Claimed m) file
  link_may m a = by (m == n) refl a
    where
      by : (b : Bool) → (m == n) ≡ b → MayHave (if b then given (which from).now (which (Claimed n)) else which (Claimed m)) file
          → (((which from).now ≡ Some file) × (m ≡ n)) ⊎ May which (Claimed m) file
      by true e (inl now) = inl (now, equal m n e)
      by true e (inr (inl old)) = absurd (clash (old ∙ none_now))
      by true e (inr (inr more)) = absurd (subst (λ (l : List (Option Identity)). IsAmong (Some file) l) none_else more)
      by false e a = inr a

  home_on : Home which file → Home linked file
  home_on (inl (d, has)) = inl (d, has)
  home_on (inr (m, has)) = inr (m, by (m == n) refl)
    where
      by : (b : Bool) → (m == n) ≡ b → (if b then given (which from).now (which (Claimed n)) else which (Claimed m)) ≡ only_this file
      by true e = absurd (clash (sym (ap (λ (s : Entry). s.now) has) ∙ ap (λ (j : ℕ). (which (Claimed j)).now) (equal m n e) ∙ none_now))
      by false e = has

  link_kept : IsKept taken which file → IsKept taken linked file
  link_kept (inl w) = inl record { home = home_on w.home; one = λ a b x y. one a b (link_may a x) (link_may b y); free = λ a x. free a (link_may a x) }
    where
      one : (a b : ℕ) → (((which from).now ≡ Some file) × (a ≡ n)) ⊎ May which (Claimed a) file → (((which from).now ≡ Some file) × (b ≡ n)) ⊎ May which (Claimed b) file → a ≡ b
      one a b (inl (now, e)) (inl (again, f)) = e ∙ sym f
      one a b (inl (now, e)) (inr y) = absurd (r.once file now b y)
      one a b (inr x) (inl (now, e)) = absurd (r.once file now a x)
      one a b (inr x) (inr y) = w.one a b x y

      free : (a : ℕ) → (((which from).now ≡ Some file) × (a ≡ n)) ⊎ May which (Claimed a) file → how_often a taken ≡ 0
      free a (inl (now, e)) = subst (λ (j : ℕ). how_often j taken ≡ 0) (sym e) r.free
      free a (inr x) = w.free a x
  link_kept (inr (k, t)) = inr (k, record { once = t.once; box = λ d a. t.box d a; only = λ m a. only m (link_may m a) })
    where
      only : (m : ℕ) → (((which from).now ≡ Some file) × (m ≡ n)) ⊎ May which (Claimed m) file → m ≡ k
      only m (inl (now, e)) = absurd (t.box r.box (inl (subst (λ (name : Name). (which name).now ≡ Some file) r.in_box now)))
      only m (inr x) = t.only m x

-- ---- a name is removed

gone_may : (slot : Entry) (file : Identity) → MayHave (given None slot) file → MayHave slot file
gone_may slot file (inl none) = absurd (cc (none))
gone_may slot file (inr (inl old)) = inl (sym old)
gone_may slot file (inr (inr more)) = inr more

module _ (taken : List ℕ) (which : Which) (file : Identity) (d : ℕ) (r : MayRemove taken which (Dropped d)) where
  abbrev left : Which
  left = with_slot (Dropped d) (given None (which (Dropped d))) which

  left_may : (x : ℕ) → May left (Dropped x) file → May which (Dropped x) file
  left_may x a = by (x == d) refl a
    where
      by : (b : Bool) → (x == d) ≡ b → MayHave (if b then given None (which (Dropped d)) else which (Dropped x)) file → May which (Dropped x) file
      by true e a = subst (λ (j : ℕ). May which (Dropped j) file) (sym (equal x d e)) (gone_may (which (Dropped d)) file a)
      by false e a = a

  left_home : Home which file → Home left file
  left_home (inr (m, has)) = inr (m, has)
  left_home (inl (x, has)) = join (by (x == d) refl)
    where
      by : (b : Bool) → (x == d) ≡ b → ((if b then given None (which (Dropped d)) else which (Dropped x)) ≡ only_this file) ⊎ ((m : ℕ) × Has which (Claimed m) file)
      by true e = inr (r file (ap (λ (j : ℕ). (which (Dropped j)).now) (sym (equal x d e)) ∙ ap (λ (s : Entry). s.now) has))
      by false e = inl has

      join : (left (Dropped x) ≡ only_this file) ⊎ ((m : ℕ) × Has which (Claimed m) file) → Home left file
      join (inl h) = inl (x, h)
      join (inr h) = inr h

  left_kept : IsKept taken which file → IsKept taken left file
  left_kept kept = kept_on taken which left file left_may (λ n a. a) left_home kept

module _ (taken : List ℕ) (which : Which) (file : Identity) (n : ℕ) (r : how_often n taken ≡ 1) where
  abbrev cleared : Which
  cleared = with_slot (Claimed n) (given None (which (Claimed n))) which

  cleared_may : (x : ℕ) → May cleared (Claimed x) file → May which (Claimed x) file
  cleared_may x a = by (x == n) refl a
    where
      by : (b : Bool) → (x == n) ≡ b → MayHave (if b then given None (which (Claimed n)) else which (Claimed x)) file → May which (Claimed x) file
      by true e a = subst (λ (j : ℕ). May which (Claimed j) file) (sym (equal x n e)) (gone_may (which (Claimed n)) file a)
      by false e a = a

  cleared_home : Waits taken which file → Home which file → Home cleared file
  cleared_home w (inl (d, has)) = inl (d, has)
  cleared_home w (inr (m, has)) = inr (m, by (m == n) refl)
    where
      free : how_often m taken ≡ 0
      free = w.free m (inl (ap (λ (s : Entry). s.now) has))

      by : (b : Bool) → (m == n) ≡ b → (if b then given None (which (Claimed n)) else which (Claimed m)) ≡ only_this file
      by true e = absurd (let h : how_often n taken ≡ 0 = subst (λ (j : ℕ). how_often j taken ≡ 0) (equal m n e) free in omega (arith, h, r))
      by false e = has

  cleared_kept : IsKept taken which file → IsKept taken cleared file
  cleared_kept (inl w) = inl (waits_on taken which cleared file (λ d a. a) cleared_may (cleared_home w w.home) w)
  cleared_kept (inr (k, t)) = inr (k, taken_on taken which cleared file (λ d a. a) cleared_may k t)

-- ---- a folder is brought to the disk

settled_may : (b : Bool) (slot : Entry) (file : Identity) → MayHave (if b then settled slot else slot) file → MayHave slot file
settled_may true slot file (inl now) = inl now
settled_may true slot file (inr none) = elim none [ ]
settled_may false slot file a = a

settled_has : (b : Bool) (slot : Entry) (file : Identity) → slot ≡ only_this file → (if b then settled slot else slot) ≡ only_this file
settled_has true slot file e = ap (λ (s : Entry). record { now = s.now; others = [] }) e
settled_has false slot file e = e

-- ---- any call

pub careful_step : (time : ℕ) (taken : List ℕ) (which : Which) (call : Call) (file : Identity) → IsCareful taken which call → IsKept taken which file → IsKept taken (which_after time call which) file
careful_step time taken which (Write name bytes) file is kept = put_apart taken which file name (given (Some (new_identity time)) (which name)) is kept
careful_step time taken which (SyncFile name) file is kept = put_apart taken which file name (brought (λ id. id) (which name)) is kept
careful_step time taken which (Rename from to) file is kept =
    put_apart taken (with_slot from (given None (which from)) which) file to (given (which from).now (which to)) is.1 (put_apart taken which file from (given None (which from)) is.0 kept)
careful_step time taken which (Link from (Claimed n)) file is kept = link_kept taken which file from n is kept
careful_step time taken which (Link from (Dropped d)) file is kept = elim is [ ]
careful_step time taken which (Link from (Commit n)) file is kept = put_apart taken which file (Commit n) (given (which from).now (which (Commit n))) refl kept
careful_step time taken which (Link from Draft) file is kept = put_apart taken which file Draft (given (which from).now (which Draft)) refl kept
careful_step time taken which (Link from (Answer n)) file is kept = put_apart taken which file (Answer n) (given (which from).now (which (Answer n))) refl kept
careful_step time taken which (Link from Unfinished) file is kept = put_apart taken which file Unfinished (given (which from).now (which Unfinished)) refl kept
careful_step time taken which (Remove (Dropped d)) file is kept = left_kept taken which file d is kept
careful_step time taken which (Remove (Claimed n)) file is kept = cleared_kept taken which file n is kept
careful_step time taken which (Remove (Commit n)) file is kept = put_apart taken which file (Commit n) (given None (which (Commit n))) refl kept
careful_step time taken which (Remove Draft) file is kept = put_apart taken which file Draft (given None (which Draft)) refl kept
careful_step time taken which (Remove (Answer n)) file is kept = put_apart taken which file (Answer n) (given None (which (Answer n))) refl kept
careful_step time taken which (Remove Unfinished) file is kept = put_apart taken which file Unfinished (given None (which Unfinished)) refl kept
careful_step time taken which (Saw name found) file is kept = kept
careful_step time taken which (Looked name found) file is kept = kept
careful_step time taken which (Next from found) file is kept = kept
careful_step time taken which (SyncFolder folder) file is kept =
    kept_on taken which (which_after time (SyncFolder folder) which) file
    (λ d a. settled_may (stands_in folder (Dropped d)) (which (Dropped d)) file a) (λ n a. settled_may (stands_in folder (Claimed n)) (which (Claimed n)) file a) home kept
  where
    home : Home which file → Home (which_after time (SyncFolder folder) which) file
    home (inl (d, has)) = inl (d, settled_has (stands_in folder (Dropped d)) (which (Dropped d)) file has)
    home (inr (n, has)) = inr (n, settled_has (stands_in folder (Claimed n)) (which (Claimed n)) file has)

-- ---- a commit takes a file

abbrev as_number : Bool → ℕ
as_number b = if b then 1 else 0

not_this : (m n : ℕ) (taken : List ℕ) → (m == n) ≡ false → how_often m (n ∷ taken) ≡ how_often m taken
not_this m n taken e = let h : as_number (m == n) ≡ 0 = ap as_number e in omega (arith, h)

this_one : (n : ℕ) (taken : List ℕ) → how_often n taken ≡ 0 → how_often n (n ∷ taken) ≡ 1
this_one n taken free = let h : as_number (n == n) ≡ 1 = by (n == n) refl in omega (arith, h, free)
  where
    by : (b : Bool) → (n == n) ≡ b → as_number b ≡ 1
    by true e = refl
    by false e = absurd (grind (arith, nat_tests, e))

inside : (a b : Identity) → Some a ≡ Some b → a ≡ b
inside a b e = cc (e)

has_may : (slot : Entry) (a b : Identity) → slot ≡ only_this a → MayHave slot b → a ≡ b
has_may slot a b has may = by (subst (λ (s : Entry). MayHave s b) has may)
  where
    by : MayHave (only_this a) b → a ≡ b
    by (inl now) = inside a b now
    by (inr none) = elim none [ ]

module _ (taken : List ℕ) (which : Which) (n : ℕ) (r : MayTake taken which n) (file : Identity) where
  take_waits : Waits taken which file → Home which file → IsKept (n ∷ taken) which file
  take_waits w (inr (m, has)) = by (m == n) refl
    where
      now : May which (Claimed m) file
      now = inl (ap (λ (s : Entry). s.now) has)

      by : (b : Bool) → (m == n) ≡ b → IsKept (n ∷ taken) which file
      by true e =
          let here : May which (Claimed n) file = subst (λ (j : ℕ). May which (Claimed j) file) (equal m n e) now in
          let it : r.file ≡ file = has_may (which (Claimed n)) r.file file r.there here in
          inr (n, record { once = this_one n taken r.free; box = λ d a. r.gone d (subst (λ (g : Identity). May which (Dropped d) g) (sym it) a); only = λ k a. w.one k n a here })
      by false e = inl record {
        home = w.home;
        one = w.one;
        free = λ k a. not_this k n taken (subst (λ (j : ℕ). (j == n) ≡ false) (sym (w.one k m a now)) e) ∙ w.free k a;
      }
  take_waits w (inl (d, has)) = inl record { home = w.home; one = w.one; free = λ k a. by k a (k == n) refl }
    where
      by : (k : ℕ) → May which (Claimed k) file → (b : Bool) → (k == n) ≡ b → how_often k (n ∷ taken) ≡ 0
      by k a true e =
          let here : May which (Claimed n) file = subst (λ (j : ℕ). May which (Claimed j) file) (equal k n e) a in
          let it : r.file ≡ file = has_may (which (Claimed n)) r.file file r.there here in
          absurd (r.gone d (subst (λ (g : Identity). May which (Dropped d) g) (sym it) (inl (ap (λ (s : Entry). s.now) has))))
      by k a false e = not_this k n taken e ∙ w.free k a

  take_kept : IsKept taken which file → IsKept (n ∷ taken) which file
  take_kept (inl w) = take_waits w w.home
  take_kept (inr (k, t)) = inr (k, record { once = by (k == n) refl; box = t.box; only = t.only })
    where
      by : (b : Bool) → (k == n) ≡ b → how_often k (n ∷ taken) ≡ 1
      by true e = absurd (let h : how_often n taken ≡ 1 = subst (λ (j : ℕ). how_often j taken ≡ 1) (equal k n e) t.once in let z = r.free in omega (arith, h, z))
      by false e = not_this k n taken e ∙ t.once

-- ---- what a crash leaves

booted_kept : (taken : List ℕ) (which : Which) (file : Identity) (w : Name → Option Identity) → LeavesWhich which w → IsKept taken which file → IsKept taken (which_booted w) file
booted_kept taken which file w leaves kept = kept_on taken which (which_booted w) file (λ d a. may (Dropped d) a) (λ n a. may (Claimed n) a) home kept
  where
    may : (name : Name) → May (which_booted w) name file → May which name file
    may name (inr none) = elim none [ ]
    may name (inl now) = by (leaves name)
      where
        by : (w name ≡ (which name).now) ⊎ IsAmong (w name) (which name).others → May which name file
        by (inl e) = inl (sym e ∙ now)
        by (inr among) = inr (subst (λ (o : Option Identity). IsAmong o (which name).others) now among)

    has : (name : Name) → Has which name file → Has (which_booted w) name file
    has name is = by (subst (λ (s : Entry). (w name ≡ s.now) ⊎ IsAmong (w name) s.others) is (leaves name))
      where
        by : (w name ≡ Some file) ⊎ IsAmong (w name) [] → Has (which_booted w) name file
        by (inl e) = ap (λ (o : Option Identity). record { now = o; others = [] }) e
        by (inr none) = elim none [ ]

    home : Home which file → Home (which_booted w) file
    home (inl (d, is)) = inl (d, has (Dropped d) is)
    home (inr (n, is)) = inr (n, has (Claimed n) is)

-- ---- a run

module _ (file : Identity) (c : Files) (w : Name → Option Identity) where
  as_is : (chain : List (List ℕ)) (taken : List ℕ) (acts : List Act) (which : Which) → IsLedger chain c → LeavesWhich which w → IsKept taken which file → KeepsFileAt chain taken acts file c w
  as_is chain taken acts which is leaves kept =
      record { count = 0; ledger = subst (λ (l : List (List ℕ)). IsLedger l c) (sym (none_behind chain)) is; kept = booted_kept taken which file w leaves kept }

  -- a commit is on its way: it is there, or it is not
  one_there : (chain : List (List ℕ)) (b : List ℕ) (taken more : List ℕ) (first : Act) (acts : List Act) (which : Which)
      → (commits_in (first ∷ acts) ≡ b ∷ commits_in acts) → (taken_by 1 (first ∷ acts) taken ≡ more) → IsLedger chain c ⊎ IsLedger (chain ++ b ∷ []) c
      → LeavesWhich which w → IsKept taken which file → IsKept more which file → KeepsFileAt chain taken (first ∷ acts) file c w
  one_there chain b taken more first acts which is takes (inl old) leaves kept behind = as_is chain taken (first ∷ acts) which old leaves kept
  one_there chain b taken more first acts which is takes (inr new) leaves kept behind = record {
    count = 1;
    ledger = subst (λ (l : List (List ℕ)). IsLedger (chain ++ take 1 l) c) (sym is) new;
    kept = subst (λ (t : List ℕ). IsKept t (which_booted w) file) (sym takes) (booted_kept more which file w leaves behind);
  }

  -- calls of a commit change no name of a box and none of a claimed file
  module _ (time number : ℕ) (bytes : List ℕ) (taken : List ℕ) (which : Which) where
    moved : (k : ℕ) → IsKept taken which file → IsKept taken (which_behind time (take k (commit_calls number bytes)) which) file
    moved zero kept = kept
    moved (suc zero) kept = same_kept taken which (which_behind time (take 1 (commit_calls number bytes)) which) file (λ d. refl) (λ n. refl) kept
    moved (suc (suc zero)) kept = same_kept taken which (which_behind time (take 2 (commit_calls number bytes)) which) file (λ d. refl) (λ n. refl) kept
    moved (suc (suc (suc zero))) kept = same_kept taken which (which_behind time (take 3 (commit_calls number bytes)) which) file (λ d. refl) (λ n. refl) kept
    moved (suc (suc (suc (suc zero)))) kept = same_kept taken which (which_behind time (commit_calls number bytes) which) file (λ d. refl) (λ n. refl) kept
    moved (suc (suc (suc (suc (suc k))))) kept = same_kept taken which (which_behind time (commit_calls number bytes) which) file (λ d. refl) (λ n. refl) kept

  one_more : (chain : List (List ℕ)) (b : List ℕ) (taken more : List ℕ) (first : Act) (acts : List Act) → (commits_in (first ∷ acts) ≡ b ∷ commits_in acts)
      → ((count : ℕ) → taken_by (suc count) (first ∷ acts) taken ≡ taken_by count acts more) → KeepsFileAt (chain ++ b ∷ []) more acts file c w
      → KeepsFileAt chain taken (first ∷ acts) file c w
  one_more chain b taken more first acts is takes p = record {
    count = suc p.count;
    ledger = subst (λ (l : List (List ℕ)). IsLedger (chain ++ take (suc p.count) l) c) (sym is) (subst (λ (l : List (List ℕ)). IsLedger l c) (one_behind chain b (take p.count (commits_in acts))) p.ledger);
    kept = subst (λ (t : List ℕ). IsKept t (which_booted w) file) (sym (takes p.count)) p.kept;
  }

  call_more : (chain : List (List ℕ)) (taken : List ℕ) (call : Call) (acts : List Act) → KeepsFileAt chain taken acts file c w → KeepsFileAt chain taken (Calls call ∷ acts) file c w
  call_more chain taken call acts p = record { count = p.count; ledger = p.ledger; kept = subst (λ (t : List ℕ). IsKept t (which_booted w) file) (by p.count) p.kept }
    where
      by : (count : ℕ) → taken_by count acts taken ≡ taken_by count (Calls call ∷ acts) taken
      by zero = refl
      by (suc count) = refl

  -- not all calls of a commit were made
  early : (time : ℕ) (chain : List (List ℕ)) (b : List ℕ) (taken more : List ℕ) (first : Act) (acts : List Act) (disk : Disk) (which : Which) → Stands chain disk
      → (commits_in (first ∷ acts) ≡ b ∷ commits_in acts) → (taken_by 1 (first ∷ acts) taken ≡ more) → IsKept taken which file → IsKept more which file
      → (j : ℕ) → Leaves (after_all (take j (commit_calls (length chain) b)) disk) c → LeavesWhich (which_behind time (take j (commit_calls (length chain) b)) which) w
      → KeepsFileAt chain taken (first ∷ acts) file c w
  early time chain b taken more first acts disk which stands is takes kept behind j leaves left =
      one_there chain b taken more first acts (which_behind time (take j (commit_calls (length chain) b)) which) is takes ((commits_whole chain b disk stands j).cut c leaves) left
      (moved time (length chain) b taken which j kept) (moved time (length chain) b more which j behind)

  keeps : (time : ℕ) (chain : List (List ℕ)) (taken : List ℕ) (acts : List Act) (disk : Disk) (which : Which) → Stands chain disk → AreCareful time (length chain) taken which acts
      → IsKept taken which file → (k : ℕ) → Leaves (after_all (take k (calls_of (length chain) acts)) disk) c → LeavesWhich (which_behind time (take k (calls_of (length chain) acts)) which) w
      → KeepsFileAt chain taken acts file c w
  keeps time chain taken [] disk which stands careful kept zero leaves left = as_is chain taken [] which (standing chain disk stands c leaves) left kept
  keeps time chain taken [] disk which stands careful kept (suc k) leaves left = as_is chain taken [] which (standing chain disk stands c leaves) left kept
  keeps time chain taken (Calls call ∷ acts) disk which stands careful kept zero leaves left = as_is chain taken (Calls call ∷ acts) which (standing chain disk stands c leaves) left kept
  keeps time chain taken (Calls call ∷ acts) disk which stands careful kept (suc k) leaves left =
      call_more chain taken call acts
      (keeps (suc time) chain taken acts (after call disk) (which_after time call which) (other_stands chain call disk stands careful.0) careful.1.1
      (careful_step time taken which call file careful.1.0 kept) k leaves left)
  keeps time chain taken (Takes n b ∷ acts) disk which stands careful kept zero leaves left =
      early time chain b taken (n ∷ taken) (Takes n b) acts disk which stands refl refl kept (take_kept taken which n careful.0 file kept) 0 leaves left
  keeps time chain taken (Takes n b ∷ acts) disk which stands careful kept (suc zero) leaves left =
      early time chain b taken (n ∷ taken) (Takes n b) acts disk which stands refl refl kept (take_kept taken which n careful.0 file kept) 1 leaves left
  keeps time chain taken (Takes n b ∷ acts) disk which stands careful kept (suc (suc zero)) leaves left =
      early time chain b taken (n ∷ taken) (Takes n b) acts disk which stands refl refl kept (take_kept taken which n careful.0 file kept) 2 leaves left
  keeps time chain taken (Takes n b ∷ acts) disk which stands careful kept (suc (suc (suc zero))) leaves left =
      early time chain b taken (n ∷ taken) (Takes n b) acts disk which stands refl refl kept (take_kept taken which n careful.0 file kept) 3 leaves left
  keeps time chain taken (Takes n b ∷ acts) disk which stands careful kept (suc (suc (suc (suc k)))) leaves left =
      let put : Disk = after_all (commit_calls (length chain) b) disk in
      let on : Which = which_behind time (commit_calls (length chain) b) which in
      let later : ℕ = suc (suc (suc (suc time))) in
      one_more chain b taken (n ∷ taken) (Takes n b) acts refl (λ count. refl)
      (keeps later (chain ++ b ∷ []) (n ∷ taken) acts put on ((commits_whole chain b disk stands 4).put (omega arith))
      (subst (λ (m : ℕ). AreCareful later m (n ∷ taken) on acts) (sym (length_more chain b)) careful.1)
      (moved time (length chain) b (n ∷ taken) which 4 (take_kept taken which n careful.0 file kept)) k
      (subst (λ (m : ℕ). Leaves (after_all (take k (calls_of m acts)) put) c) (sym (length_more chain b)) leaves)
      (subst (λ (m : ℕ). LeavesWhich (which_behind later (take k (calls_of m acts)) on) w) (sym (length_more chain b)) left))
  keeps time chain taken (Commits b ∷ acts) disk which stands careful kept zero leaves left =
      early time chain b taken taken (Commits b) acts disk which stands refl refl kept kept 0 leaves left
  keeps time chain taken (Commits b ∷ acts) disk which stands careful kept (suc zero) leaves left =
      early time chain b taken taken (Commits b) acts disk which stands refl refl kept kept 1 leaves left
  keeps time chain taken (Commits b ∷ acts) disk which stands careful kept (suc (suc zero)) leaves left =
      early time chain b taken taken (Commits b) acts disk which stands refl refl kept kept 2 leaves left
  keeps time chain taken (Commits b ∷ acts) disk which stands careful kept (suc (suc (suc zero))) leaves left =
      early time chain b taken taken (Commits b) acts disk which stands refl refl kept kept 3 leaves left
  keeps time chain taken (Commits b ∷ acts) disk which stands careful kept (suc (suc (suc (suc k)))) leaves left =
      let put : Disk = after_all (commit_calls (length chain) b) disk in
      let on : Which = which_behind time (commit_calls (length chain) b) which in
      let later : ℕ = suc (suc (suc (suc time))) in
      one_more chain b taken taken (Commits b) acts refl (λ count. refl)
      (keeps later (chain ++ b ∷ []) taken acts put on ((commits_whole chain b disk stands 4).put (omega arith))
      (subst (λ (m : ℕ). AreCareful later m taken on acts) (sym (length_more chain b)) careful)
      (moved time (length chain) b taken which 4 kept) k
      (subst (λ (m : ℕ). Leaves (after_all (take k (calls_of m acts)) put) c) (sym (length_more chain b)) leaves)
      (subst (λ (m : ℕ). LeavesWhich (which_behind later (take k (calls_of m acts)) on) w) (sym (length_more chain b)) left))

pub keeps_each_file : KeepsEachFile
keeps_each_file time chain taken acts disk which stands careful file kept k c w leaves left = keeps file c w time chain taken acts disk which stands careful kept k leaves left
