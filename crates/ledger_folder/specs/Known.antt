-- Paths, and whose a box is (own).
use Rattle.std.specs.Prelude.{ℕ, suc, ◌==◌, List, [], ◌∷◌, ◌++◌, length, Option, Some, None, if◌then◌else◌, bytes_eq}
use Rattle.ledger_boxes.specs.declared.admission.Owner.{Owner}

-- a name in a folder; the folder itself where it is empty
abbrev pub joined : List ℕ → List ℕ → List ℕ
joined folder name = if length name == 0 then folder else folder ++ 47 ∷ name

-- the place of the first of these who has this account, where they are counted from this number on
abbrev pub place_from : List ℕ → ℕ → List Owner → Option ℕ
place_from account place [] = None
place_from account place (owner ∷ owners) = if bytes_eq owner.account account then Some place else place_from account (suc place) owners
