-- How files are claimed where the system may refuse one: it stays where it is, and the others are claimed (own).
use Rattle.std.specs.Prelude.{◌≡◌, ◌⊎◌, ℕ, ◌+◌, List, [], ◌∷◌, ◌++◌, length}
use Rattle.ledger_disk.specs.Disks.{Call}
use Rattle.ledger_disk.specs.Plans.{Did, Began}
use Rattle.ledger_laws.specs.Claims.{links, claim_calls, AreOf}

-- this was done with these of those files, whatever is done with files
pub record DoesSome {D : Type 0} (calls : D → List Call) (plan : List ℕ → List Call) (drops some : List ℕ) (old new : D) : Type 0 where
  pub are : AreOf some drops
  pub did : Did calls (plan some) old new

-- with some of them
pub record DidSome {D : Type 0} (calls : D → List Call) (plan : List ℕ → List Call) (drops : List ℕ) (old new : D) : Type 0 where
  pub some : List ℕ
  pub does : DoesSome calls plan drops some old new

-- or it began
pub record BeganSome {D : Type 0} (calls : D → List Call) (plan : List ℕ → List Call) (drops : List ℕ) (old new : D) : Type 0 where
  pub some : List ℕ
  pub are : AreOf some drops
  pub began : Began calls (plan some) old new

-- it was done with one file more, or not
pub record DoesNext {D : Type 0} (calls : D → List Call) (plan : List ℕ → List Call) (drop : ℕ) (so_far some : List ℕ) (old new : D) : Type 0 where
  pub more : List ℕ
  pub one : (more ≡ []) ⊎ (more ≡ drop ∷ [])
  pub is : some ≡ so_far ++ more
  pub did : Did calls (plan more) old new

-- a file more has this number, or not; then this one is free
pub record LinksNext {D : Type 0} (calls : D → List Call) (number next drop : ℕ) (so_far some : List ℕ) (old new : D) : Type 0 where
  pub does : DoesNext calls (links number) drop so_far some old new
  pub count : next ≡ number + length does.more

-- of these files some were claimed, from this number on, and of them some left their boxes: those
pub record ClaimsSome {D : Type 0} (calls : D → List Call) (number : ℕ) (drops made gone : List ℕ) (old new : D) : Type 0 where
  pub are : AreOf made drops
  pub left : AreOf gone made
  pub did : Did calls (claim_calls number made gone) old new

-- or that began
pub record ClaimsBegun {D : Type 0} (calls : D → List Call) (number : ℕ) (drops : List ℕ) (old new : D) : Type 0 where
  pub made : List ℕ
  pub gone : List ℕ
  pub are : AreOf made drops
  pub left : AreOf gone made
  pub began : Began calls (claim_calls number made gone) old new
