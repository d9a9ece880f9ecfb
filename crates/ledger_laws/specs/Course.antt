-- What the commits say, one record after the other (own). A text is claimed under a number that is beyond all before it (a crash may
-- leave a gap); texts run in the order of their numbers' records; each record of a run has what it printed and what it changed.
use Rattle.std.specs.Prelude.{◌≡◌, ◌≤◌, ℕ, suc, ◌+◌, ◌==◌, if◌then◌else◌, List, [], ◌∷◌, ◌++◌}

-- what a text prints and changes over a state, and what that change makes of a state
pub record Machine (Text Out State Change : Type 0) : Type 0 where
  pub step : Text → State → Out × Change
  pub change : Change → State → State

-- a text was taken, or refused with a reply, or ran, or was dropped with a reply; or the operator changed the state, or nothing changed
pub data Record (Text Out Change : Type 0) : Type 0 where
  Took : ℕ → Text → Record Text Out Change
  Refused : ℕ → Out → Record Text Out Change
  Ran : ℕ → Out → Change → Record Text Out Change
  Dropped : ℕ → Out → Record Text Out Change
  Edited : Change → Record Text Out Change
  Noted : Record Text Out Change

-- the state, the texts that wait, the answers so far, the next number
pub record Kept (Text Out State : Type 0) : Type 0 where
  pub state : State
  pub waiting : List (ℕ × Text)
  pub answers : List (ℕ × Out)
  pub next : ℕ

-- the first text that waits has this number
pub record IsFirst {Text Out State : Type 0} (n : ℕ) (kept : Kept Text Out State) : Type 0 where
  pub text : Text
  pub rest : List (ℕ × Text)
  pub first : kept.waiting ≡ (n, text) ∷ rest

-- without the first
abbrev pub behind_first : {A : Type 0} → List A → List A
behind_first [] = []
behind_first (x ∷ xs) = xs

module _ {Text Out State Change : Type 0} (machine : Machine Text Out State Change) where
  -- a checkpoint, and then this record
  abbrev pub with_record : Record Text Out Change → Kept Text Out State → Kept Text Out State
  with_record (Took n text) kept = record { state = kept.state; waiting = kept.waiting ++ (n, text) ∷ []; answers = kept.answers; next = suc n }
  with_record (Refused n reply) kept = record { state = kept.state; waiting = kept.waiting; answers = kept.answers ++ (n, reply) ∷ []; next = suc n }
  with_record (Ran n out change) kept = record {
    state = machine.change change kept.state;
    waiting = behind_first kept.waiting;
    answers = kept.answers ++ (n, out) ∷ [];
    next = kept.next;
  }
  with_record (Dropped n out) kept = record {
    state = kept.state;
    waiting = behind_first kept.waiting;
    answers = kept.answers ++ (n, out) ∷ [];
    next = kept.next;
  }
  with_record (Edited change) kept = record { state = machine.change change kept.state; waiting = kept.waiting; answers = kept.answers; next = kept.next }
  with_record Noted kept = kept

  -- these records, one after the other
  abbrev pub folded : List (Record Text Out Change) → Kept Text Out State → Kept Text Out State
  folded [] kept = kept
  folded (r ∷ records) kept = folded records (with_record r kept)

  -- the first text that waits is this one, and this is what it comes to over the state
  pub record IsRun (n : ℕ) (out : Out) (change : Change) (kept : Kept Text Out State) : Type 0 where
    pub text : Text
    pub rest : List (ℕ × Text)
    pub first : kept.waiting ≡ (n, text) ∷ rest
    pub told : machine.step text kept.state ≡ (out, change)

  -- a record follows on what is kept
  abbrev pub Follows : Record Text Out Change → Kept Text Out State → Type 0
  Follows (Took n text) kept = kept.next ≤ n
  Follows (Refused n reply) kept = kept.next ≤ n
  Follows (Ran n out change) kept = IsRun n out change kept
  Follows (Dropped n out) kept = IsFirst n kept
  Follows (Edited change) kept = Unit {0}
  Follows Noted kept = Unit {0}

  -- each record follows on those before it
  abbrev pub AreHonest : List (Record Text Out Change) → Kept Text Out State → Type 0
  AreHonest [] kept = Unit {0}
  AreHonest (r ∷ records) kept = Follows r kept × AreHonest records (with_record r kept)

  -- what a run commits: the files that it took, each with its verdict; and a batch of texts
  pub data Verdict : Type 0 where
    Admits : Text → Verdict
    Refuses : Out → Verdict

  -- the record of a file that was taken
  abbrev pub verdict_record : ℕ → Verdict → Record Text Out Change
  verdict_record n (Admits text) = Took n text
  verdict_record n (Refuses reply) = Refused n reply

  abbrev pub intake : List (ℕ × Verdict) → List (Record Text Out Change)
  intake [] = []
  intake (claimed ∷ rest) = verdict_record claimed.0 claimed.1 ∷ intake rest

  -- numbers from this one on, each beyond the one before
  abbrev pub AreBeyond : ℕ → List (ℕ × Verdict) → Type 0
  AreBeyond n [] = Unit {0}
  AreBeyond n (claimed ∷ rest) = (n ≤ claimed.0) × AreBeyond (suc claimed.0) rest

  -- the records of texts that run one after the other, from a state on
  abbrev pub batch : List (ℕ × Text) → State → List (Record Text Out Change)
  batch [] state = []
  batch (one ∷ waiting) state = let told = machine.step one.1 state in Ran one.0 told.0 told.1 ∷ batch waiting (machine.change told.1 state)

-- how often a number is among these
abbrev pub one_if : ℕ → ℕ → ℕ
one_if n m = if n == m then 1 else 0

abbrev pub times : {A : Type 0} → ℕ → List (ℕ × A) → ℕ
times n [] = 0
times n (x ∷ xs) = one_if n x.0 + times n xs

-- how many records take a file under this number
abbrev pub takes : {Text Out Change : Type 0} → ℕ → List (Record Text Out Change) → ℕ
takes n [] = 0
takes n (Took m text ∷ records) = one_if n m + takes n records
takes n (Refused m reply ∷ records) = one_if n m + takes n records
takes n (Ran m out change ∷ records) = takes n records
takes n (Dropped m out ∷ records) = takes n records
takes n (Edited change ∷ records) = takes n records
takes n (Noted ∷ records) = takes n records

-- the numbers of the files that they take, behind those that were taken before; the last first
abbrev pub numbers_taken : {Text Out Change : Type 0} → List (Record Text Out Change) → List ℕ → List ℕ
numbers_taken [] taken = taken
numbers_taken (Took m text ∷ records) taken = numbers_taken records (m ∷ taken)
numbers_taken (Refused m reply ∷ records) taken = numbers_taken records (m ∷ taken)
numbers_taken (Ran m out change ∷ records) taken = numbers_taken records taken
numbers_taken (Dropped m out ∷ records) taken = numbers_taken records taken
numbers_taken (Edited change ∷ records) taken = numbers_taken records taken
numbers_taken (Noted ∷ records) taken = numbers_taken records taken

-- no number is answered twice, or answered and waits, or waits twice; none of those to come
pub record EachOnce {Text Out State : Type 0} (kept : Kept Text Out State) (n : ℕ) : Type 0 where
  pub at_most : times n kept.answers + times n kept.waiting ≤ 1
  pub none_beyond : kept.next ≤ n → times n kept.answers + times n kept.waiting ≡ 0
