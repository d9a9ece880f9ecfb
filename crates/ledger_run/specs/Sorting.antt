-- Which files were seen in boxes (own).
use Rattle.std.specs.Prelude.{◌≡◌, ◌⊎◌, ℕ, List, [], ◌∷◌, ◌++◌, Some}
use Rattle.std.specs.List.{AllByRecursion}
use Rattle.ledger_disk.specs.declared.identity.Identity.{Identity}
use Rattle.ledger_disk.specs.declared.name.Name.TheVariants.{Dropped}
use Rattle.ledger_disk.specs.Disks.{Which, IsAmong}
use Rattle.ledger_names.specs.declared.sorting.Boxed.{Boxed}

-- this file was seen at this place
abbrev pub IsSeen : ℕ → Identity → List Boxed → Type 0
IsSeen d file [] = ⊥
IsSeen d file (one ∷ boxed) = ((one.drop ≡ d) × (one.file ≡ file)) ⊎ IsSeen d file boxed

-- these files stand at these places, and no others there
pub record AreSeen (drops : List ℕ) (boxed : List Boxed) (which : Which) : Type 0 where
  pub among : AllByRecursion (λ one. IsAmong one.drop drops) boxed
  pub sound : AllByRecursion (λ one. (which (Dropped one.drop)).now ≡ Some one.file) boxed
  pub whole : (d : ℕ) (file : Identity) → IsAmong d drops → (which (Dropped d)).now ≡ Some file → IsSeen d file boxed

-- those of a place more are seen
pub record SeesOne (drop : ℕ) (boxed more : List Boxed) (which : Which) : Type 0 where
  pub sees : (drops : List ℕ) → AreSeen drops boxed which → AreSeen (drops ++ drop ∷ []) more which
