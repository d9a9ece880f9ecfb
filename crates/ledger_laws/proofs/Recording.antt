-- A claimed file stands until it is recorded.
use Rattle.std.proofs.Common.{◌≡◌, ◌⊎◌, inl, inr, ℕ, zero, suc, List, [], ◌∷◌, length, Some, subst, arith}
use Rattle.ledger_disk.specs.declared.name.Name.TheVariants.{Draft, Commit, Claimed}
use Rattle.ledger_disk.specs.Disks.{Disk, File, Slot, Write, SyncFile, Rename, after, Files, Leaves, IsRead, IsOne}
use Rattle.ledger_laws.{specs.Traces.{Commits, commits_in, ended}, specs.Laws.{IsPrefix, StaysUntilRecorded}, proofs.Tracing.{leaves_a_prefix}}

there : (disk : Disk) (m : ℕ) (file : File) → disk (Claimed m) ≡ record { now = Some file; others = [] } → (c : Files) → Leaves disk c → IsRead (Some file) (c (Claimed m))
there disk m file e c leaves = by (subst (λ (s : Slot). IsRead s.now (c (Claimed m)) ⊎ IsOne s.others (c (Claimed m))) e (leaves (Claimed m)))
  where
    by : IsRead (Some file) (c (Claimed m)) ⊎ IsOne [] (c (Claimed m)) → IsRead (Some file) (c (Claimed m))
    by (inl read) = read
    by (inr none) = elim none [ ]

at_least_one : (chain commits : List (List ℕ)) (least : ℕ) (c : Files) → IsPrefix chain commits (suc least) c → IsPrefix chain commits 1 c
at_least_one chain commits least c p = record { count = p.count; no_more = p.no_more; no_less = (let h = p.no_less in omega (arith, h)); ledger = p.ledger }

pub stays_until_recorded : StaysUntilRecorded
stays_until_recorded chain b steps disk m file stands others e zero c leaves = inl (there disk m file e c leaves)
stays_until_recorded chain b steps disk m file stands others e (suc zero) c leaves = inl (there (after (Write Draft b) disk) m file e c leaves)
stays_until_recorded chain b steps disk m file stands others e (suc (suc zero)) c leaves = inl (there (after (SyncFile Draft) (after (Write Draft b) disk)) m file e c leaves)
stays_until_recorded chain b steps disk m file stands others e (suc (suc (suc zero))) c leaves =
    inl (there (after (Rename Draft (Commit (length chain))) (after (SyncFile Draft) (after (Write Draft b) disk))) m file e c leaves)
stays_until_recorded chain b steps disk m file stands others e (suc (suc (suc (suc k)))) c leaves =
    inr (at_least_one chain (b ∷ commits_in steps) (ended k steps) c (leaves_a_prefix chain (Commits b ∷ steps) disk stands others (suc (suc (suc (suc k)))) c leaves))
