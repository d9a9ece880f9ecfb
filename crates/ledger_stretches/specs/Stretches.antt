-- Records between two acts of the operator (own): which texts ran there, what they printed, and what such texts print that run one after the
-- other.
use Rattle.std.specs.Prelude.{ℕ, List, [], ◌∷◌, ◌++◌}
use Rattle.std.specs.List.{AllByRecursion}
use Rattle.ledger_laws.specs.Course.{Machine, Record, Took, Refused, Ran, Dropped, Edited, Noted, Kept, with_record}

-- ---- texts that run

-- what texts print, each under its number, and the state that the last one leaves
pub record Course (Out State : Type 0) : Type 0 where
  pub printed : List (ℕ × Out)
  pub state : State

abbrev pub and_printed : {Out State : Type 0} → ℕ × Out → Course Out State → Course Out State
and_printed out later = record { printed = out ∷ later.printed; state = later.state }

-- one after the other, each over what those before it left
abbrev pub run_all : {Text Out State Change : Type 0} → Machine Text Out State Change → List (ℕ × Text) → State → Course Out State
run_all machine [] state = record { printed = []; state = state }
run_all machine (one ∷ texts) state =
    let told = machine.step one.1 state in and_printed (one.0, told.0) (run_all machine texts (machine.change told.1 state))

-- ---- records

-- the operator changes nothing by it
abbrev pub IsNoEdit : {Text Out Change : Type 0} → Record Text Out Change → Type 0
IsNoEdit (Took n text) = Unit {0}
IsNoEdit (Refused n reply) = Unit {0}
IsNoEdit (Ran n out change) = Unit {0}
IsNoEdit (Dropped n out) = Unit {0}
IsNoEdit (Edited change) = ⊥
IsNoEdit Noted = Unit {0}

abbrev pub IsStretch : {Text Out Change : Type 0} → List (Record Text Out Change) → Type 0
IsStretch records = AllByRecursion IsNoEdit records

-- what it says was printed
abbrev pub out_of : {Text Out Change : Type 0} → Record Text Out Change → List (ℕ × Out)
out_of (Took n text) = []
out_of (Refused n reply) = []
out_of (Ran n out change) = (n, out) ∷ []
out_of (Dropped n out) = []
out_of (Edited change) = []
out_of Noted = []

abbrev pub outs_of : {Text Out Change : Type 0} → List (Record Text Out Change) → List (ℕ × Out)
outs_of [] = []
outs_of (r ∷ records) = out_of r ++ outs_of records

-- the first of those that wait
abbrev pub first_of : {A : Type 0} → List A → List A
first_of [] = []
first_of (x ∷ xs) = x ∷ []

-- the text that it says ran
abbrev pub text_in : {Text Out State Change : Type 0} → Record Text Out Change → Kept Text Out State → List (ℕ × Text)
text_in (Took n text) kept = []
text_in (Refused n reply) kept = []
text_in (Ran n out change) kept = first_of kept.waiting
text_in (Dropped n out) kept = []
text_in (Edited change) kept = []
text_in Noted kept = []

-- those that ran, in order, where this was kept before
abbrev pub texts_in : {Text Out State Change : Type 0} → Machine Text Out State Change → List (Record Text Out Change) → Kept Text Out State → List (ℕ × Text)
texts_in machine [] kept = []
texts_in machine (r ∷ records) kept = text_in r kept ++ texts_in machine records (with_record machine r kept)

-- what the ledger took
abbrev pub take_of : {Text Out Change : Type 0} → Record Text Out Change → List (ℕ × Text)
take_of (Took n text) = (n, text) ∷ []
take_of (Refused n reply) = []
take_of (Ran n out change) = []
take_of (Dropped n out) = []
take_of (Edited change) = []
take_of Noted = []

abbrev pub takes_of : {Text Out Change : Type 0} → List (Record Text Out Change) → List (ℕ × Text)
takes_of [] = []
takes_of (r ∷ records) = take_of r ++ takes_of records
