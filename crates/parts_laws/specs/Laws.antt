-- What holds of runs in parts: each is the contract of a function in `laws`.
use Rattle.std.specs.Prelude.{◌≡◌, ℕ, ◌==◌, Bool, List, Option, filter}
use Rattle.std.specs.List.{IsDistinct}
use Rattle.std.specs.Map.{keys_of}
use Rattle.parts_laws.specs.Picking.{Decides, part_of, picked, shown}
use Rattle.parts_laws.specs.Threads.{Taking, machine_of, TakesFirst, threaded}
use Rattle.parts_laws.specs.Runs.{Ran, Machine, IsLocal, Numbered, Split, ran, part_ran, GoWithNames, AreReady, numbers}

pub record IsItsPart {Name Set Text Out : Type 0} (machine : Machine Name Set Text Out) (split : Split Name) (texts : List (Numbered Text))
    (sets : List (Name × Set)) (k : ℕ) : Type 0 where
  pub printed : (part_ran machine split texts sets k).printed ≡ part_of split.of_text k (ran machine texts sets).printed
  pub sets_are : (part_ran machine split texts sets k).sets ≡ part_of split.of_name k (ran machine texts sets).sets

abbrev pub EachItsPart : Type 0 → Type 0 → Type 0 → Type 0 → Type 0
EachItsPart Name Set Text Out = (machine : Machine Name Set Text Out) → IsLocal machine
    → (split : Split Name) (texts : List (Numbered Text)) (sets : List (Name × Set))
    → GoWithNames machine.reaches split texts → AreReady machine.same machine.makes machine.most texts sets → (k : ℕ) → IsItsPart machine split texts sets k

-- what is shown of a whole, picked from the parts in the order of the whole's keys, is what is shown of it
abbrev pub PickedIsAll : Type 0 → Type 0 → Type 0 → Type 0
PickedIsAll Key Value Shown = (same : Key → Key → Bool) → Decides same → (goes : Key → ℕ) (view : Key × Value → Option Shown)
    (entries : List (Key × Value)) → IsDistinct same (keys_of entries)
    → picked same goes (λ k. part_of goes k (shown view entries)) (keys_of entries) ≡ shown view entries

-- Text by text, each printout is picked from the text's part; name by name, in the order that the whole's have, each set from the name's.
pub record IsPicked {Name Set Text Out : Type 0} (machine : Machine Name Set Text Out) (split : Split Name) (texts : List (Numbered Text))
    (sets : List (Name × Set)) : Type 0 where
  pub printed : picked (λ n m. n == m) split.of_text (λ k. (part_ran machine split texts sets k).printed) (numbers texts) ≡ (ran machine texts sets).printed
  pub sets_are : picked machine.same split.of_name (λ k. (part_ran machine split texts sets k).sets) (keys_of (ran machine texts sets).sets)
      ≡ (ran machine texts sets).sets

abbrev pub PickedIsWhole : Type 0 → Type 0 → Type 0 → Type 0 → Type 0
PickedIsWhole Name Set Text Out = (machine : Machine Name Set Text Out) → IsLocal machine → Decides machine.same
    → (split : Split Name) (texts : List (Numbered Text)) (sets : List (Name × Set))
    → GoWithNames machine.reaches split texts → AreReady machine.same machine.makes machine.most texts sets
    → IsDistinct (λ n m. n == m) (numbers texts) → IsPicked machine split texts sets

-- a part takes marks from a list of its own
abbrev pub part_threaded : {Name Set Text Out Mark : Type 0} → Taking Name Set Text Out Mark → Split Name → List (Numbered Text) → List (Name × Set)
    → (ℕ → List Mark) → ℕ → Ran Name Set Out
part_threaded taking split texts sets marks k = threaded taking (filter (λ t. split.of_text t.number == k) texts) (marks k) (part_of split.of_name k sets)

-- Each part takes marks from a list of its own: there are marks for the whole with which it is what is picked from the parts.
pub record WholeHasMarks {Name Set Text Out Mark : Type 0} (taking : Taking Name Set Text Out Mark) (split : Split Name)
    (texts : List (Numbered Text)) (sets : List (Name × Set)) (marks : ℕ → List Mark) : Type 0 where
  pub all : List Mark
  pub printed : picked (λ n m. n == m) split.of_text (λ k. (part_threaded taking split texts sets marks k).printed) (numbers texts)
      ≡ (threaded taking texts all sets).printed
  pub sets_are : picked taking.same split.of_name (λ k. (part_threaded taking split texts sets marks k).sets)
      (keys_of (threaded taking texts all sets).sets) ≡ (threaded taking texts all sets).sets

abbrev pub MarksPicked : Type 0 → Type 0 → Type 0 → Type 0 → Type 0 → Type 0
MarksPicked Name Set Text Out Mark = (taking : Taking Name Set Text Out Mark) → IsLocal (machine_of taking) → TakesFirst taking → Decides taking.same
    → (split : Split Name) (texts : List (Numbered Text)) (sets : List (Name × Set))
    → GoWithNames taking.reaches split texts → AreReady taking.same taking.makes taking.most texts sets → IsDistinct (λ n m. n == m) (numbers texts)
    → (marks : ℕ → List Mark) → WholeHasMarks taking split texts sets marks
