-- A commit is put whole.
use Rattle.std.proofs.Common.{◌≡◌, ◌⊎◌, inl, inr, ◌≤◌, ℕ, zero, suc, ◌+◌, Bool, true, false, List, [], ◌∷◌, ◌++◌, length, Option, Some, None, refl, sym, ap, ◌∙◌, subst, arith}
use Rattle.std.{specs.Prelude.{if◌then◌else◌, option_map, ◌==◌}, specs.List.{AllByRecursion}, proofs.lemmas.Bool.Decides.{nat_tests}}
use Rattle.ledger_disk.specs.declared.name.{Name.{Name}, Name.TheVariants.{Commit, Draft, Dropped, Claimed, Answer, Unfinished}, Folder.TheVariants.{Ledger}}
use Rattle.ledger_disk.specs.Disks.{Disk, File, Slot, Write, SyncFile, Rename, SyncFolder, after, same, given, settled, AllOf, Fits, Files, Leaves, IsRead, IsOne}
use Rattle.ledger_laws.specs.{Commits.{at, whole_file, wanted, Stands, IsLedger, and_more, read_from}, Laws.{CommitsWholeAt, CommitsWhole, ReadsTheChain}}
use Rattle.ledger_laws.proofs.Fitting.{fits_after}

-- ---- the last place of a ledger

pub at_end : (chain : List (List ℕ)) (b : List ℕ) (i : ℕ) → (i == length chain) ≡ true → at (chain ++ b ∷ []) i ≡ Some b
at_end [] b zero e = refl
at_end [] b (suc i) e = absurd (grind (arith, nat_tests))
at_end (x ∷ chain) b zero e = absurd (grind (arith, nat_tests))
at_end (x ∷ chain) b (suc i) e = at_end chain b i (grind (arith, nat_tests))

pub elsewhere : (chain : List (List ℕ)) (b : List ℕ) (i : ℕ) → (i == length chain) ≡ false → at (chain ++ b ∷ []) i ≡ at chain i
elsewhere [] b zero e = absurd (grind (arith, nat_tests))
elsewhere [] b (suc i) e = refl
elsewhere (x ∷ chain) b zero e = refl
elsewhere (x ∷ chain) b (suc i) e = elsewhere chain b i (grind (arith, nat_tests))

pub equal : (n m : ℕ) → (n == m) ≡ true → n ≡ m
equal n m h = grind (arith, nat_tests)

-- ---- what each name may have on the way

abbrev pub Either : List (List ℕ) → List (List ℕ) → Name → Option File → Type 0
Either before behind (Commit i) = λ o. (o ≡ wanted before i) ⊎ (o ≡ wanted behind i)
Either before behind Draft = λ o. Unit {0}
Either before behind (Dropped n) = λ o. Unit {0}
Either before behind (Claimed n) = λ o. Unit {0}
Either before behind (Answer n) = λ o. Unit {0}
Either before behind Unfinished = λ o. Unit {0}

anything : (os : List (Option File)) → AllByRecursion (λ o. Unit {0}) os
anything [] = tt
anything (o ∷ os) = (tt, anything os)

free : (slot : Slot) → AllOf (λ o. Unit {0}) slot
free slot = (tt, anything slot.others)

pub fits_standing : (before behind : List (List ℕ)) (disk : Disk) → Stands before disk → Fits (Either before behind) disk
fits_standing before behind disk stands (Commit i) = subst (λ (slot : Slot). AllOf (Either before behind (Commit i)) slot) (sym (stands i)) (inl refl, tt)
fits_standing before behind disk stands Draft = free (disk Draft)
fits_standing before behind disk stands (Dropped n) = free (disk (Dropped n))
fits_standing before behind disk stands (Claimed n) = free (disk (Claimed n))
fits_standing before behind disk stands (Answer n) = free (disk (Answer n))
fits_standing before behind disk stands Unfinished = free (disk Unfinished)

-- ---- what a crash leaves of it

pub read_wanted : (v : Option (List ℕ)) (o : Option File) → o ≡ option_map whole_file v → (r : Option (List ℕ)) → IsRead o r → r ≡ v
read_wanted None o e r read = subst (λ (o : Option File). IsRead o r) e read
read_wanted (Some bytes) o e r read = let (own, (is, same)) = subst (λ (o : Option File). IsRead o r) e read in is ∙ ap (λ (b : List ℕ). Some b) (same refl)

module _ (before behind : List (List ℕ)) where
  read_either : (i : ℕ) (o : Option File) (r : Option (List ℕ)) → Either before behind (Commit i) o → IsRead o r → (r ≡ at before i) ⊎ (r ≡ at behind i)
  read_either i o r (inl e) read = inl (read_wanted (at before i) o e r read)
  read_either i o r (inr e) read = inr (read_wanted (at behind i) o e r read)

  read_others : (i : ℕ) (os : List (Option File)) (r : Option (List ℕ)) → AllByRecursion (Either before behind (Commit i)) os → IsOne os r → (r ≡ at before i) ⊎ (r ≡ at behind i)
  read_others i [] r all one = elim one [ ]
  read_others i (o ∷ os) r all (inl read) = read_either i o r all.0 read
  read_others i (o ∷ os) r all (inr one) = read_others i os r all.1 one

  pub each_read : (disk : Disk) → Fits (Either before behind) disk → (c : Files) → Leaves disk c → (i : ℕ) → (c (Commit i) ≡ at before i) ⊎ (c (Commit i) ≡ at behind i)
  each_read disk fits c leaves i = by (fits (Commit i)) (leaves (Commit i))
    where
      by : AllOf (Either before behind (Commit i)) (disk (Commit i)) → IsRead (disk (Commit i)).now (c (Commit i)) ⊎ IsOne (disk (Commit i)).others (c (Commit i)) → (c (Commit i) ≡ at before i) ⊎ (c (Commit i) ≡ at behind i)
      by all (inl read) = read_either i (disk (Commit i)).now (c (Commit i)) all.0 read
      by all (inr one) = read_others i (disk (Commit i)).others (c (Commit i)) all.1 one

pub one_or_other : (chain : List (List ℕ)) (b : List ℕ) (c : Files) → ((i : ℕ) → (c (Commit i) ≡ at chain i) ⊎ (c (Commit i) ≡ at (chain ++ b ∷ []) i))
    → IsLedger chain c ⊎ IsLedger (chain ++ b ∷ []) c
one_or_other chain b c each = by (each (length chain))
  where
    old : c (Commit (length chain)) ≡ at chain (length chain) → (i : ℕ) → (t : Bool) → (i == length chain) ≡ t → (c (Commit i) ≡ at chain i) ⊎ (c (Commit i) ≡ at (chain ++ b ∷ []) i) → c (Commit i) ≡ at chain i
    old last i t e (inl is) = is
    old last i true e (inr is) = subst (λ (j : ℕ). c (Commit j) ≡ at chain j) (sym (equal i (length chain) e)) last
    old last i false e (inr is) = is ∙ elsewhere chain b i e

    new : c (Commit (length chain)) ≡ at (chain ++ b ∷ []) (length chain) → (i : ℕ) → (t : Bool) → (i == length chain) ≡ t → (c (Commit i) ≡ at chain i) ⊎ (c (Commit i) ≡ at (chain ++ b ∷ []) i) → c (Commit i) ≡ at (chain ++ b ∷ []) i
    new last i t e (inr is) = is
    new last i true e (inl is) = subst (λ (j : ℕ). c (Commit j) ≡ at (chain ++ b ∷ []) j) (sym (equal i (length chain) e)) last
    new last i false e (inl is) = is ∙ sym (elsewhere chain b i e)

    by : (c (Commit (length chain)) ≡ at chain (length chain)) ⊎ (c (Commit (length chain)) ≡ at (chain ++ b ∷ []) (length chain)) → IsLedger chain c ⊎ IsLedger (chain ++ b ∷ []) c
    by (inl last) = inl (λ i. old last i (i == length chain) refl (each i))
    by (inr last) = inr (λ i. new last i (i == length chain) refl (each i))

-- ---- the calls of a commit

module _ (chain : List (List ℕ)) (b : List ℕ) (disk : Disk) (stands : Stands chain disk) where
  abbrev P : Name → Option File → Type 0
  P = Either chain (chain ++ b ∷ [])

  abbrev n : ℕ
  n = length chain

  abbrev d1 : Disk
  d1 = after (Write Draft b) disk

  abbrev d2 : Disk
  d2 = after (SyncFile Draft) d1

  abbrev d3 : Disk
  d3 = after (Rename Draft (Commit n)) d2

  abbrev d4 : Disk
  d4 = after (SyncFolder Ledger) d3

  of_draft : (m : Name) → same m Draft ≡ true → (o : Option File) (slot : Slot) → P m o × AllOf (P m) slot
  of_draft Draft e o slot = (tt, free slot)
  of_draft (Commit i) e o slot = absurd (cc (e))
  of_draft (Dropped i) e o slot = (tt, free slot)
  of_draft (Claimed i) e o slot = (tt, free slot)
  of_draft (Answer i) e o slot = (tt, free slot)
  of_draft Unfinished e o slot = (tt, free slot)

  f0 : Fits P disk
  f0 = fits_standing chain (chain ++ b ∷ []) disk stands

  f1 : Fits P d1
  f1 = fits_after P (Write Draft b) disk f0 (λ m e. of_draft m e (Some (record { bytes = b; whole = false })) (disk Draft))

  f2 : Fits P d2
  f2 = fits_after P (SyncFile Draft) d1 f1 (λ m e. (of_draft m e None (record { now = Some (whole_file b); others = (d1 Draft).others })).1)

  to_commit : (m : Name) → same m (Commit n) ≡ true → P m (Some (whole_file b)) × AllOf (P m) (d2 (Commit n))
  to_commit (Commit i) e = (inr (sym (ap (λ (o : Option (List ℕ)). option_map whole_file o) (at_end chain b i e))), subst (λ (j : ℕ). AllOf (P (Commit i)) (d2 (Commit j))) (equal i n e) (f2 (Commit i)))
  to_commit Draft e = absurd (cc (e))
  to_commit (Dropped i) e = absurd (cc (e))
  to_commit (Claimed i) e = absurd (cc (e))
  to_commit (Answer i) e = absurd (cc (e))
  to_commit Unfinished e = absurd (cc (e))

  f3 : Fits P d3
  f3 = fits_after P (Rename Draft (Commit n)) d2 f2 ((λ m e. of_draft m e None (d2 Draft)), to_commit)

  f4 : Fits P d4
  f4 = fits_after P (SyncFolder Ledger) d3 f3 tt

  cut_at : (d : Disk) → Fits P d → (c : Files) → Leaves d c → IsLedger chain c ⊎ IsLedger (chain ++ b ∷ []) c
  cut_at d fits c leaves = one_or_other chain b c (each_read chain (chain ++ b ∷ []) d fits c leaves)

  still : Stands chain (after (SyncFolder Ledger) disk)
  still i = ap (λ (s : Slot). settled s) (stands i)

  put : Stands (chain ++ b ∷ []) d4
  put i = by (i == n) refl
    where
      by : (t : Bool) → (i == n) ≡ t → settled (if t then given (Some (whole_file b)) (disk (Commit n)) else disk (Commit i)) ≡ record { now = wanted (chain ++ b ∷ []) i; others = [] }
      by true e = ap (λ (o : Option (List ℕ)). record { now = option_map whole_file o; others = [] }) (sym (at_end chain b i e))
      by false e = ap (λ (s : Slot). settled s) (stands i) ∙ ap (λ (o : Option (List ℕ)). record { now = option_map whole_file o; others = [] }) (sym (elsewhere chain b i e))

  again : Stands (chain ++ b ∷ []) (after (SyncFolder Ledger) d4)
  again i = ap (λ (s : Slot). settled s) (put i)

  at_each : (k : ℕ) → CommitsWholeAt chain b disk k
  at_each zero = record { cut = cut_at disk f0; killed = inl still; put = λ le. absurd (omega (arith, le)) }
  at_each (suc zero) = record { cut = cut_at d1 f1; killed = inl still; put = λ le. absurd (omega (arith, le)) }
  at_each (suc (suc zero)) = record { cut = cut_at d2 f2; killed = inl still; put = λ le. absurd (omega (arith, le)) }
  at_each (suc (suc (suc zero))) = record { cut = cut_at d3 f3; killed = inr put; put = λ le. absurd (omega (arith, le)) }
  at_each (suc (suc (suc (suc zero)))) = record { cut = cut_at d4 f4; killed = inr again; put = λ le. put }
  at_each (suc (suc (suc (suc (suc k))))) = record { cut = cut_at d4 f4; killed = inr again; put = λ le. put }

pub commits_whole : CommitsWhole
commits_whole chain bytes disk stands k = at_each chain bytes disk stands k

-- ---- reading

reads_from : (chain : List (List ℕ)) (c : Files) (i fuel : ℕ) → length chain ≤ fuel → ((j : ℕ) → c (Commit (i + j)) ≡ at chain j) → read_from fuel i c ≡ chain
reads_from [] c i zero le each = refl
reads_from [] c i (suc fuel) le each = ap (λ (o : Option (List ℕ)). and_more o (read_from fuel (i + 1) c)) (subst (λ (j : ℕ). c (Commit j) ≡ None) (omega arith) (each 0))
reads_from (b ∷ chain) c i zero le each = absurd (omega (arith, le))
reads_from (b ∷ chain) c i (suc fuel) le each =
    ap (λ (o : Option (List ℕ)). and_more o (read_from fuel (i + 1) c)) (subst (λ (j : ℕ). c (Commit j) ≡ Some b) (omega arith) (each 0))
    ∙ ap (λ (l : List (List ℕ)). b ∷ l) (reads_from chain c (i + 1) fuel (omega (arith, le)) (λ j. subst (λ (m : ℕ). c (Commit m) ≡ at chain j) (omega arith) (each (suc j))))

pub reads_the_chain : ReadsTheChain
reads_the_chain chain c is = record {
  stands = λ i. ap (λ (o : Option (List ℕ)). record { now = option_map whole_file o; others = [] }) (is i);
  reads = λ fuel le. reads_from chain c 0 fuel le (λ j. subst (λ (m : ℕ). c (Commit m) ≡ at chain j) (omega arith) (is j));
}
