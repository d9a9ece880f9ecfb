-- Runs of commits, and of calls on other names.
use Rattle.std.proofs.Common.{◌≡◌, ◌⊎◌, inl, inr, ℕ, zero, suc, Bool, true, false, List, [], ◌∷◌, ◌++◌, length, take, Some, None, refl, sym, ap, ◌∙◌, subst, arith}
use Rattle.std.specs.Prelude.{if◌then◌else◌, ◌||◌}
use Rattle.ledger_disk.specs.declared.name.{Name.{Name}, Name.TheVariants.{Commit, Draft, Dropped, Claimed, Answer, Unfinished}, Folder.TheVariants.{Ledger}}
use Rattle.ledger_disk.specs.Disks.{Disk, Slot, Call, Write, SyncFile, Rename, Link, Remove, SyncFolder, Saw, Looked, Next, after, after_all, with_slot, same, stands_in, given, synced, settled, Files, Leaves}
use Rattle.ledger_laws.specs.{Commits.{at, wanted, Stands, IsLedger, commit_calls}, Traces.{Commits, Calls, changes_ledger, calls_of, commits_in, ended}}
use Rattle.ledger_laws.{specs.Laws.{IsPrefix, LeavesAPrefix}, proofs.Committing.{commits_whole, fits_standing, each_read}}

not_same : (name : Name) (i : ℕ) → stands_in Ledger name ≡ false → same (Commit i) name ≡ false
not_same (Commit n) i e = absurd (cc (e))
not_same Draft i e = refl
not_same (Dropped n) i e = refl
not_same (Claimed n) i e = refl
not_same (Answer n) i e = refl
not_same Unfinished i e = refl

kept : (name : Name) (slot : Slot) (disk : Disk) (i : ℕ) → stands_in Ledger name ≡ false → with_slot name slot disk (Commit i) ≡ disk (Commit i)
kept name slot disk i e = ap (λ (b : Bool). if b then slot else disk (Commit i)) (not_same name i e)

neither : (a b : Bool) → (a || b) ≡ false → (a ≡ false) × (b ≡ false)
neither false false e = (refl, refl)
neither true b e = absurd (cc (e))
neither false true e = absurd (cc (e))

pub other_stands : (chain : List (List ℕ)) (call : Call) (disk : Disk) → Stands chain disk → changes_ledger call ≡ false → Stands chain (after call disk)
other_stands chain (Write name bytes) disk stands e i = kept name (given (Some (record { bytes = bytes; whole = false })) (disk name)) disk i e ∙ stands i
other_stands chain (SyncFile name) disk stands e i = kept name (synced (disk name)) disk i e ∙ stands i
other_stands chain (Rename from to) disk stands e i =
    let (a, b) = neither (stands_in Ledger from) (stands_in Ledger to) e in
    kept to (given (disk from).now (disk to)) (with_slot from (given None (disk from)) disk) i b ∙ kept from (given None (disk from)) disk i a ∙ stands i
other_stands chain (Link from to) disk stands e i = kept to (given (disk from).now (disk to)) disk i e ∙ stands i
other_stands chain (Remove name) disk stands e i = kept name (given None (disk name)) disk i e ∙ stands i
other_stands chain (Saw name found) disk stands e i = stands i
other_stands chain (Looked name found) disk stands e i = stands i
other_stands chain (Next from found) disk stands e i = stands i
other_stands chain (SyncFolder folder) disk stands e i = by (stands_in folder (Commit i))
  where
    by : (b : Bool) → (if b then settled (disk (Commit i)) else disk (Commit i)) ≡ record { now = wanted chain i; others = [] }
    by true = ap (λ (s : Slot). settled s) (stands i)
    by false = stands i

pub length_more : (chain : List (List ℕ)) (b : List ℕ) → length (chain ++ b ∷ []) ≡ suc (length chain)
length_more [] b = refl
length_more (x ∷ chain) b = ap (λ (n : ℕ). suc n) (length_more chain b)

pub one_behind : (chain : List (List ℕ)) (b : List ℕ) (rest : List (List ℕ)) → (chain ++ b ∷ []) ++ rest ≡ chain ++ b ∷ rest
one_behind [] b rest = refl
one_behind (x ∷ chain) b rest = ap (λ (l : List (List ℕ)). x ∷ l) (one_behind chain b rest)

pub none_behind : (chain : List (List ℕ)) → chain ++ [] ≡ chain
none_behind [] = refl
none_behind (x ∷ chain) = ap (λ (l : List (List ℕ)). x ∷ l) (none_behind chain)

as_is : (chain : List (List ℕ)) (c : Files) → IsLedger chain c → (commits : List (List ℕ)) → IsPrefix chain commits 0 c
as_is chain c is commits = record { count = 0; no_more = omega arith; no_less = omega arith; ledger = subst (λ (l : List (List ℕ)). IsLedger l c) (sym (none_behind chain)) is }

pub standing : (chain : List (List ℕ)) (disk : Disk) → Stands chain disk → (c : Files) → Leaves disk c → IsLedger chain c
standing chain disk stands c leaves i = by (each_read chain chain disk (fits_standing chain chain disk stands) c leaves i)
  where
    by : (c (Commit i) ≡ at chain i) ⊎ (c (Commit i) ≡ at chain i) → c (Commit i) ≡ at chain i
    by (inl e) = e
    by (inr e) = e

one_more : (chain : List (List ℕ)) (b : List ℕ) (commits : List (List ℕ)) (least : ℕ) (c : Files) → IsPrefix (chain ++ b ∷ []) commits least c → IsPrefix chain (b ∷ commits) (suc least) c
one_more chain b commits least c p = record {
  count = suc p.count;
  no_more = (let h = p.no_more in omega (arith, h));
  no_less = (let h = p.no_less in omega (arith, h));
  ledger = subst (λ (l : List (List ℕ)). IsLedger l c) (one_behind chain b (take p.count commits)) p.ledger;
}

on_the_way : (chain : List (List ℕ)) (b : List ℕ) (commits : List (List ℕ)) (c : Files) → IsLedger chain c ⊎ IsLedger (chain ++ b ∷ []) c → IsPrefix chain (b ∷ commits) 0 c
on_the_way chain b commits c (inl is) = as_is chain c is (b ∷ commits)
on_the_way chain b commits c (inr is) = record { count = 1; no_more = omega arith; no_less = omega arith; ledger = is }

pub leaves_a_prefix : LeavesAPrefix
leaves_a_prefix chain [] disk stands others zero c leaves = as_is chain c (standing chain disk stands c leaves) []
leaves_a_prefix chain [] disk stands others (suc k) c leaves = as_is chain c (standing chain disk stands c leaves) []
leaves_a_prefix chain (Calls call ∷ steps) disk stands others zero c leaves = as_is chain c (standing chain disk stands c leaves) (commits_in steps)
leaves_a_prefix chain (Calls call ∷ steps) disk stands others (suc k) c leaves =
    leaves_a_prefix chain steps (after call disk) (other_stands chain call disk stands others.0) others.1 k c leaves
leaves_a_prefix chain (Commits b ∷ steps) disk stands others zero c leaves = on_the_way chain b (commits_in steps) c ((commits_whole chain b disk stands 0).cut c leaves)
leaves_a_prefix chain (Commits b ∷ steps) disk stands others (suc zero) c leaves = on_the_way chain b (commits_in steps) c ((commits_whole chain b disk stands 1).cut c leaves)
leaves_a_prefix chain (Commits b ∷ steps) disk stands others (suc (suc zero)) c leaves = on_the_way chain b (commits_in steps) c ((commits_whole chain b disk stands 2).cut c leaves)
leaves_a_prefix chain (Commits b ∷ steps) disk stands others (suc (suc (suc zero))) c leaves = on_the_way chain b (commits_in steps) c ((commits_whole chain b disk stands 3).cut c leaves)
leaves_a_prefix chain (Commits b ∷ steps) disk stands others (suc (suc (suc (suc k)))) c leaves =
    let put : Disk = after_all (commit_calls (length chain) b) disk in
    one_more chain b (commits_in steps) (ended k steps) c
    (leaves_a_prefix (chain ++ b ∷ []) steps put ((commits_whole chain b disk stands 4).put (omega arith)) others k c
    (subst (λ (n : ℕ). Leaves (after_all (take k (calls_of n steps)) put) c) (sym (length_more chain b)) leaves))
