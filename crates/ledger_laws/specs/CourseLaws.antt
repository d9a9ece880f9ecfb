-- What holds of the records (own): each is the contract of a function in `course_laws`.
use Rattle.std.specs.Prelude.{◌≡◌, ◌<◌, ℕ, ◌+◌, ◌++◌, List, length, take}
use Rattle.ledger_laws.specs.Course.{Machine, Record, Kept, folded, AreHonest, Verdict, intake, AreBeyond, batch, times, takes, numbers_taken, EachOnce}
use Rattle.ledger_laws.specs.Places.{how_often}

-- whoever appends intakes and batches of what waits to an honest ledger has an honest one
pub record StaysHonest {Text Out State Change : Type 0} (machine : Machine Text Out State Change) (records : List (Record Text Out Change))
    (start : Kept Text Out State) : Type 0 where
  pub with_intake : (claimed : List (ℕ × Verdict machine)) → AreBeyond machine (folded machine records start).next claimed
      → AreHonest machine (records ++ intake machine claimed) start
  pub with_batch : (k : ℕ)
      → AreHonest machine (records ++ batch machine (take k (folded machine records start).waiting) (folded machine records start).state) start

-- so honesty is kept
abbrev pub Honest : Type 0 → Type 0 → Type 0 → Type 0 → Type 0
Honest Text Out State Change = (machine : Machine Text Out State Change) (records : List (Record Text Out Change)) (start : Kept Text Out State)
    → AreHonest machine records start → StaysHonest machine records start

-- in an honest ledger each number that was taken is answered or waits, and that once: so it was taken by one record at most
pub record IsOnce {Text Out State Change : Type 0} (machine : Machine Text Out State Change) (records : List (Record Text Out Change))
    (start : Kept Text Out State) (n : ℕ) : Type 0 where
  pub once : EachOnce (folded machine records start) n
  pub counted : times n (folded machine records start).answers + times n (folded machine records start).waiting
      ≡ times n start.answers + times n start.waiting + takes n records

-- of each number, if it was so at the start
abbrev pub Once : Type 0 → Type 0 → Type 0 → Type 0 → Type 0
Once Text Out State Change = (machine : Machine Text Out State Change) (records : List (Record Text Out Change)) (start : Kept Text Out State)
    → AreHonest machine records start
    → (n : ℕ) → EachOnce start n → IsOnce machine records start n

-- a batch runs so many of the texts that wait; those that it leaves wait as before
abbrev pub Progress : Type 0 → Type 0 → Type 0 → Type 0 → Type 0
Progress Text Out State Change = (machine : Machine Text Out State Change) (kept : Kept Text Out State) (k : ℕ) → 0 < k → 0 < length kept.waiting
    → length (folded machine (batch machine (take k kept.waiting) kept.state) kept).waiting < length kept.waiting

-- a number is among those that the records take as often as they take a file under it
abbrev pub TakenAsRecorded : Type 0 → Type 0 → Type 0 → Type 0
TakenAsRecorded Text Out Change = (records : List (Record Text Out Change)) (taken : List ℕ) (n : ℕ)
    → how_often n (numbers_taken records taken) ≡ how_often n taken + takes n records
