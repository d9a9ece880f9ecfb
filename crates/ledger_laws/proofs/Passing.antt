-- A whole pass.
use Rattle.std.proofs.Common.{◌≡◌, ◌⊎◌, inl, inr, ℕ, zero, suc, ◌+◌, false, List, [], ◌∷◌, ◌++◌, length, take, Some, refl, ap, ◌∙◌, subst}
use Rattle.ledger_disk.specs.declared.name.{Name.TheVariants.{Dropped, Claimed}, Folder.TheVariants.{Boxes, Taken}}
use Rattle.ledger_disk.specs.Disks.{Disk, Call, SyncFolder, after, after_all, Leaves, IsRead}
use Rattle.ledger_laws.specs.{Commits.{Stands}, Claims.{links, removals, claim_calls}, Traces.{Commits, changes_ledger, calls_of, commits_in}}
use Rattle.ledger_laws.specs.Laws.{IsPrefix, PassLosesNothing}
use Rattle.ledger_laws.proofs.{Tracing.{other_stands}, Claiming.{after_both, claims_lose_nothing}, Recording.{stays_until_recorded}}

abbrev pub AllOthers : List Call → Type 0
AllOthers [] = Unit {0}
AllOthers (call ∷ calls) = (changes_ledger call ≡ false) × AllOthers calls

pub all_stand : (chain : List (List ℕ)) (calls : List Call) (disk : Disk) → Stands chain disk → AllOthers calls → Stands chain (after_all calls disk)
all_stand chain [] disk stands others = stands
all_stand chain (call ∷ calls) disk stands others = all_stand chain calls (after call disk) (other_stands chain call disk stands others.0) others.1

removals_others : (drops : List ℕ) → AllOthers (removals drops ++ SyncFolder Boxes ∷ [])
removals_others [] = (refl, tt)
removals_others (drop ∷ drops) = (refl, removals_others drops)

links_others : (n : ℕ) (drops rest : List ℕ) → AllOthers (links n drops ++ SyncFolder Taken ∷ (removals rest ++ SyncFolder Boxes ∷ []))
links_others n [] rest = (refl, removals_others rest)
links_others n (drop ∷ drops) rest = (refl, links_others (suc n) drops rest)

-- the first so many of both: some of the first, or all of these and some of the second
pub cut_both : (k : ℕ) (xs ys : List Call) → ((i : ℕ) × (take k (xs ++ ys) ≡ take i xs)) ⊎ ((j : ℕ) × (take k (xs ++ ys) ≡ xs ++ take j ys))
cut_both k [] ys = inr (k, refl)
cut_both zero (x ∷ xs) ys = inl (0, refl)
cut_both (suc k) (x ∷ xs) ys = by (cut_both k xs ys)
  where
    by : ((i : ℕ) × (take k (xs ++ ys) ≡ take i xs)) ⊎ ((j : ℕ) × (take k (xs ++ ys) ≡ xs ++ take j ys))
        → ((i : ℕ) × (x ∷ take k (xs ++ ys) ≡ take i (x ∷ xs))) ⊎ ((j : ℕ) × (x ∷ take k (xs ++ ys) ≡ (x ∷ xs) ++ take j ys))
    by (inl (i, e)) = inl (suc i, ap (λ (l : List Call). x ∷ l) e)
    by (inr (j, e)) = inr (j, ap (λ (l : List Call). x ∷ l) e)

pub pass_loses_nothing : PassLosesNothing
pass_loses_nothing chain n drops gone bytes steps disk stands others drop place file has there k c leaves =
    by (cut_both k (claim_calls n drops gone) (calls_of (length chain) (Commits bytes ∷ steps)))
  where
    later : IsRead (Some file) (c (Claimed (n + place))) ⊎ IsPrefix chain (bytes ∷ commits_in steps) 1 c → (IsRead (Some file) (c (Dropped drop)) ⊎ IsRead (Some file) (c (Claimed (n + place)))) ⊎ IsPrefix chain (bytes ∷ commits_in steps) 1 c
    later (inl read) = inl (inr read)
    later (inr is) = inr is

    by : ((i : ℕ) × (take k (claim_calls n drops gone ++ calls_of (length chain) (Commits bytes ∷ steps)) ≡ take i (claim_calls n drops gone)))
        ⊎ ((j : ℕ) × (take k (claim_calls n drops gone ++ calls_of (length chain) (Commits bytes ∷ steps)) ≡ claim_calls n drops gone ++ take j (calls_of (length chain) (Commits bytes ∷ steps))))
        → (IsRead (Some file) (c (Dropped drop)) ⊎ IsRead (Some file) (c (Claimed (n + place)))) ⊎ IsPrefix chain (bytes ∷ commits_in steps) 1 c
    by (inl (i, e)) = inl ((claims_lose_nothing n drops gone disk drop place file has there).kept i c (subst (λ (l : List Call). Leaves (after_all l disk) c) e leaves))
    by (inr (j, e)) =
        later
        (stays_until_recorded chain bytes steps (after_all (claim_calls n drops gone) disk) (n + place) file (all_stand chain (claim_calls n drops gone) disk stands (links_others n drops gone)) others
        (claims_lose_nothing n drops gone disk drop place file has there).claimed j c
        (subst (λ (d : Disk). Leaves d c) (ap (λ (l : List Call). after_all l disk) e ∙ after_both (claim_calls n drops gone) (take j (calls_of (length chain) (Commits bytes ∷ steps))) disk) leaves))
