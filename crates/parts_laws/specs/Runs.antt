-- Texts one after the other, and in parts (own).
use Rattle.std.specs.Prelude.{◌≡◌, ℕ, ◌+◌, ◌≤◌, ◌==◌, Bool, true, not, List, [], ◌∷◌, length, filter}
use Rattle.std.specs.List.{AllByRecursion, IsDistinct}
use Rattle.std.specs.Map.{keys_of}
use Rattle.parts_laws.specs.Picking.{part_of}

pub record Done (Name Set Out : Type 0) : Type 0 where
  pub out : Out
  pub sets : List (Name × Set)

pub record Machine (Name Set Text Out : Type 0) : Type 0 where
  pub step : Text → List (Name × Set) → Done Name Set Out
  pub same : Name → Name → Bool
  pub reaches : Text → Name → Bool
  pub makes : Text → ℕ
  pub most : ℕ

abbrev pub of_names : {Name Set : Type 0} → (Name → Bool) → List (Name × Set) → List (Name × Set)
of_names p sets = filter (λ named. p named.0) sets

pub record IsReady {Name Set Text Out : Type 0} (machine : Machine Name Set Text Out) (text : Text) (sets : List (Name × Set)) : Type 0 where
  pub apart : IsDistinct machine.same (keys_of sets)
  pub room : length sets + machine.makes text ≤ machine.most

pub record IsFramed {Name Set Text Out : Type 0} (machine : Machine Name Set Text Out) (p : Name → Bool) (text : Text) (sets : List (Name × Set)) : Type 0 where
  pub out : (machine.step text (of_names p sets)).out ≡ (machine.step text sets).out
  pub own : (machine.step text (of_names p sets)).sets ≡ of_names p (machine.step text sets).sets
  pub others : of_names (λ name. not (p name)) (machine.step text sets).sets ≡ of_names (λ name. not (p name)) sets

pub record IsLocal {Name Set Text Out : Type 0} (machine : Machine Name Set Text Out) : Type 0 where
  pub frame : (p : Name → Bool) (text : Text) (sets : List (Name × Set)) → ((name : Name) → machine.reaches text name ≡ true → p name ≡ true)
      → IsReady machine text sets → IsFramed machine p text sets
  pub apart : (text : Text) (sets : List (Name × Set)) → IsReady machine text sets → IsDistinct machine.same (keys_of (machine.step text sets).sets)
  pub few : (text : Text) (sets : List (Name × Set)) → length (machine.step text sets).sets ≤ length sets + machine.makes text

-- a text with its number; and what each text printed, by its number
pub record Numbered (Text : Type 0) : Type 0 where
  pub number : ℕ
  pub text : Text

pub record Ran (Name Set Out : Type 0) : Type 0 where
  pub printed : List (ℕ × Out)
  pub sets : List (Name × Set)

abbrev pub and_ran : {Name Set Out : Type 0} → ℕ → Out → Ran Name Set Out → Ran Name Set Out
and_ran number out later = record { printed = (number, out) ∷ later.printed; sets = later.sets }

abbrev pub ran : {Name Set Text Out : Type 0} → Machine Name Set Text Out → List (Numbered Text) → List (Name × Set) → Ran Name Set Out
ran machine [] sets = record { printed = []; sets = sets }
ran machine (t ∷ texts) sets = let here = machine.step t.text sets in and_ran t.number here.out (ran machine texts here.sets)

pub record Split (Name : Type 0) : Type 0 where
  pub of_text : ℕ → ℕ
  pub of_name : Name → ℕ

-- a part runs its texts over its sets alone
abbrev pub part_ran : {Name Set Text Out : Type 0} → Machine Name Set Text Out → Split Name → List (Numbered Text) → List (Name × Set) → ℕ → Ran Name Set Out
part_ran machine split texts sets k = ran machine (filter (λ t. split.of_text t.number == k) texts) (part_of split.of_name k sets)

-- each name that a text speaks of is in the text's part
abbrev pub GoWithNames : {Name Text : Type 0} → (Text → Name → Bool) → Split Name → List (Numbered Text) → Type 0
GoWithNames {Name} reaches split texts = AllByRecursion (λ t. (name : Name) → reaches t.text name ≡ true → split.of_name name ≡ split.of_text t.number) texts

abbrev pub made_by : {Text : Type 0} → (Text → ℕ) → List (Numbered Text) → ℕ
made_by makes [] = 0
made_by makes (t ∷ texts) = makes t.text + made_by makes texts

-- no two sets have one name; and with all that the texts may make they are as many as there may be at most
pub record AreReady {Name Set Text : Type 0} (same : Name → Name → Bool) (makes : Text → ℕ) (most : ℕ)
    (texts : List (Numbered Text)) (sets : List (Name × Set)) : Type 0 where
  pub apart : IsDistinct same (keys_of sets)
  pub room : length sets + made_by makes texts ≤ most

abbrev pub numbers : {Text : Type 0} → List (Numbered Text) → List ℕ
numbers [] = []
numbers (t ∷ texts) = t.number ∷ numbers texts
