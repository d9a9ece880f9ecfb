-- How files are claimed: by a second name, the folder of which is brought to the disk before the first name is removed (own).
use Rattle.std.specs.Prelude.{ℕ, zero, suc, List, [], ◌∷◌, ◌++◌, Option, None, Some}
use Rattle.ledger_disk.specs.declared.name.Folder.TheVariants.{Boxes, Taken}
use Rattle.ledger_disk.specs.declared.name.Name.TheVariants.{Dropped, Claimed}
use Rattle.std.specs.List.{AllByRecursion}
use Rattle.ledger_disk.specs.Disks.{Call, Link, Remove, SyncFolder, IsAmong}

-- the one at a place
abbrev pub nth : List ℕ → ℕ → Option ℕ
nth [] place = None
nth (x ∷ xs) zero = Some x
nth (x ∷ xs) (suc place) = nth xs place

-- each gets a number as its second name, from n on
abbrev pub links : ℕ → List ℕ → List Call
links n [] = []
links n (drop ∷ drops) = Link (Dropped drop) (Claimed n) ∷ links (suc n) drops

-- each loses its first name
abbrev pub removals : List ℕ → List Call
removals [] = []
removals (drop ∷ drops) = Remove (Dropped drop) ∷ removals drops

-- so files are claimed, of which these leave their boxes
abbrev pub claim_calls : ℕ → List ℕ → List ℕ → List Call
claim_calls n drops gone = links n drops ++ SyncFolder Taken ∷ (removals gone ++ SyncFolder Boxes ∷ [])

-- each of these is one of those
abbrev pub AreOf : List ℕ → List ℕ → Type 0
AreOf some all = AllByRecursion (λ x. IsAmong x all) some
