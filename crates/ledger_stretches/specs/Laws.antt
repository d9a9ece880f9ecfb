-- What holds of stretches: each is the contract of a function in `laws`.
use Rattle.std.specs.Prelude.{◌≡◌, ◌⊎◌, List, [], ◌∷◌, ◌++◌}
use Rattle.std.specs.List.{AllByRecursion}
use Rattle.ledger_laws.specs.Course.{Machine, Record, Kept, folded, AreHonest}
use Rattle.ledger_stretches.specs.Stretches.{run_all, IsStretch, outs_of, texts_in, takes_of}

-- Where this was kept, the texts of these records ran one after the other, each under its number, over the state as it was: so much was
-- printed, and is left.
pub record RunsSo {Text Out State Change : Type 0} (machine : Machine Text Out State Change) (records : List (Record Text Out Change))
    (kept : Kept Text Out State) : Type 0 where
  pub printed : outs_of records ≡ (run_all machine (texts_in machine records kept) kept.state).printed
  pub state : (folded machine records kept).state ≡ (run_all machine (texts_in machine records kept) kept.state).state

-- so does each stretch of an honest ledger, behind all that stands before it
abbrev pub EachStretchRuns : Type 0 → Type 0 → Type 0 → Type 0 → Type 0
EachStretchRuns Text Out State Change = (machine : Machine Text Out State Change) (before stretch behind : List (Record Text Out Change))
    (start : Kept Text Out State) → AreHonest machine (before ++ (stretch ++ behind)) start → IsStretch stretch
    → RunsSo machine stretch (folded machine before start)

-- one of these
abbrev pub IsIn : {A : Type 0} → A → List A → Type 0
IsIn x [] = ⊥
IsIn x (y ∷ ys) = (x ≡ y) ⊎ IsIn x ys

-- Each text that ran was taken, as it ran and under its number.
abbrev pub RunsWereTaken : Type 0 → Type 0 → Type 0 → Type 0 → Type 0
RunsWereTaken Text Out State Change = (machine : Machine Text Out State Change) (records : List (Record Text Out Change))
    (start : Kept Text Out State) → start.waiting ≡ []
    → AllByRecursion (λ one. IsIn one (takes_of records)) (texts_in machine records start)
