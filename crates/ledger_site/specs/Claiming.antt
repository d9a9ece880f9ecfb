-- How files are claimed where the system refuses some (own): in passes, each of which begins behind the number at which the one before it
-- was refused a file.
use Rattle.std.specs.Prelude.{◌≡◌, ◌≤◌, ℕ, suc, ◌+◌, List, [], ◌∷◌, ◌++◌, length}
use Rattle.ledger_disk.specs.Disks.{Call}
use Rattle.ledger_disk.specs.Plans.{Did}
use Rattle.ledger_laws.specs.Claims.{claim_calls, AreOf}
use Rattle.ledger_site.specs.declared.claiming.Claimed.{Claimed}

-- from this number on these files were claimed, by their places, of which these left their boxes
pub record Pass : Type 0 where
  pub number : ℕ
  pub made : List ℕ
  pub gone : List ℕ

abbrev pub calls_of : List Pass → List Call
calls_of [] = []
calls_of (pass ∷ passes) = claim_calls pass.number pass.made pass.gone ++ calls_of passes

-- each claims some of these files, from a number on that is free behind those before
abbrev pub ArePasses : ℕ → List ℕ → List Pass → Type 0
ArePasses next drops [] = Unit {0}
ArePasses next drops (pass ∷ passes) =
    (next ≤ pass.number) × (AreOf pass.made drops × (AreOf pass.gone pass.made × ArePasses (pass.number + length pass.made) drops passes))

-- ---- what was claimed: numbers and places

abbrev pub claimed : ℕ → ℕ → Claimed
claimed number drop = record { number = number; drop = drop }

abbrev pub numbered : ℕ → List ℕ → List Claimed
numbered n [] = []
numbered n (drop ∷ drops) = claimed n drop ∷ numbered (suc n) drops

abbrev pub claimed_in : List Pass → List Claimed
claimed_in [] = []
claimed_in (pass ∷ passes) = numbered pass.number pass.made ++ claimed_in passes

pub record ClaimsAll {D : Type 0} (calls : D → List Call) (first : ℕ) (drops : List ℕ) (all : List Claimed) (old new : D) : Type 0 where
  pub passes : List Pass
  pub are : ArePasses first drops passes
  pub did : Did calls (calls_of passes) old new
  pub is : all ≡ claimed_in passes
