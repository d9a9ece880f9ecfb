-- Texts that take marks from one list, as the turns of a run do (own).
use Rattle.std.specs.Prelude.{◌≡◌, ℕ, Bool, List, [], ◌∷◌, ◌++◌, map}
use Rattle.parts_laws.specs.Runs.{Machine, Numbered, Ran, and_ran}

-- what a text prints, the sets that it leaves, and the marks that it did not take
pub record Taken (Name Set Out Mark : Type 0) : Type 0 where
  pub out : Out
  pub sets : List (Name × Set)
  pub marks : List Mark

pub record Taking (Name Set Text Out Mark : Type 0) : Type 0 where
  pub takes : Text → List Mark → List (Name × Set) → Taken Name Set Out Mark
  pub same : Name → Name → Bool
  pub reaches : Text → Name → Bool
  pub makes : Text → ℕ
  pub most : ℕ

-- each text with marks of its own
abbrev pub machine_of : {Name Set Text Out Mark : Type 0} → Taking Name Set Text Out Mark → Machine Name Set (Text × List Mark) Out
machine_of taking = record {
  step = λ t sets. let r = taking.takes t.0 t.1 sets in record { out = r.out; sets = r.sets };
  same = taking.same;
  reaches = λ t. taking.reaches t.0;
  makes = λ t. taking.makes t.0;
  most = taking.most;
}

-- a text takes some first marks; whatever stands behind these, it does the same, and leaves that
abbrev pub TakesFirst : {Name Set Text Out Mark : Type 0} → Taking Name Set Text Out Mark → Type 0
TakesFirst {Name} {Set} {Text} {Out} {Mark} taking = (text : Text) (marks : List Mark) (sets : List (Name × Set))
    → (used : List Mark) × ((rest : List Mark) → taking.takes text (used ++ rest) sets ≡ record (taking.takes text marks sets) { marks = rest })

-- one after the other, each with the marks that the one before it left
abbrev pub threaded : {Name Set Text Out Mark : Type 0} → Taking Name Set Text Out Mark → List (Numbered Text) → List Mark → List (Name × Set)
    → Ran Name Set Out
threaded taking [] marks sets = record { printed = []; sets = sets }
threaded taking (t ∷ texts) marks sets = let r = taking.takes t.text marks sets in and_ran t.number r.out (threaded taking texts r.marks r.sets)

abbrev pub with_marks : {Text Mark : Type 0} → (ℕ → List Mark) → Numbered Text → Numbered (Text × List Mark)
with_marks own t = record { number = t.number; text = (t.text, own t.number) }

abbrev pub owning : {Text Mark : Type 0} → (ℕ → List Mark) → List (Numbered Text) → List (Numbered (Text × List Mark))
owning own texts = map (with_marks own) texts
