-- What holds of a text over some of the data sets: each law is the contract of a function in `laws`.
use Rattle.std.specs.Prelude.{◌≡◌, ℕ, nat_eq, ◌==◌, ◌+◌, ◌≤◌, Bool, true, not, List, length}
use Rattle.std.specs.List.{IsDistinct}
use Rattle.std.specs.Map.{keys_of}
use Rattle.std.specs.Cmp.Lexicographic.{pointwise}
use Rattle.mon_access.specs.declared.account.Account.{Account}
use Rattle.mon_catalogue.specs.Sets.{Sets, NamesDiffer}
use Rattle.scheduler.specs.Marks.{Marks}
use Rattle.mon_monitor.specs.SystemStates.{first_system}
use Rattle.mon_monitor.specs.Events.{Event}
use Rattle.mon_monitor.specs.Played.{Played, played}
use Rattle.parts_laws.specs.Picking.{picked}
use Rattle.parts_laws.specs.Runs.{Numbered, Split, GoWithNames, AreReady, numbers}
use Rattle.parts_laws.specs.Threads.{threaded}
use Rattle.parts_laws.specs.Laws.{part_threaded}
use Rattle.frame_laws.specs.Owners.{owners_of, owners_after}
use Rattle.frame_laws.specs.Texts.{texts_of, owners_behind_texts}
use Rattle.frame_laws.specs.Naming.{of_names, speak_of, makes}

-- the same printouts, and jobs in their slots; of the data sets whose names pass the same is left; and the others are left as they were
pub record PlayedBeside (p : List ℕ → Bool) (sets : Sets) (whole alone : Played) : Type 0 where
  pub printouts : alone.printouts ≡ whole.printouts
  pub marks : alone.marks ≡ whole.marks
  pub slots : alone.after.scheduler.slots ≡ whole.after.scheduler.slots
  pub own : alone.after.scheduler.sets ≡ of_names p whole.after.scheduler.sets
  pub others : of_names (λ name. not (p name)) whole.after.scheduler.sets ≡ of_names (λ name. not (p name)) sets

-- A text over the data sets whose names pass, and over all, wherever memory breaks turns off. All that it names has to pass, and the
-- data sets and those that it makes have to be 1,000 at most: a catalogue that is full is the one thing that all texts share.
abbrev pub TextsAreFramed : Type 0
TextsAreFramed = (slots : ℕ) (accounts : List Account) (events : List Event) (m : Marks) (sets : Sets) (p : List ℕ → Bool)
    → ((name : List ℕ) → speak_of events name ≡ true → p name ≡ true) → length sets + makes events ≤ 1000
    → PlayedBeside p sets (played events m (first_system slots accounts sets)) (played events m (first_system slots accounts (of_names p sets)))

-- The names behind a text, their order and their owners are those that its commands make of the ones before it.
abbrev pub NamesAreKnown : Type 0
NamesAreKnown = (slots : ℕ) (accounts : List Account) (events : List Event) (m : Marks) (sets : Sets)
    → owners_of (played events m (first_system slots accounts sets)).after.scheduler.sets ≡ owners_after accounts events (owners_of sets)

abbrev pub NamesStayApart : Type 0
NamesStayApart = (slots : ℕ) (accounts : List Account) (events : List Event) (m : Marks) (sets : Sets)
    → NamesDiffer sets → NamesDiffer (played events m (first_system slots accounts sets)).after.scheduler.sets

-- Texts in parts, each part with marks of its own, and all of them, with some marks: each text prints what it prints in its part; and the
-- data sets are those of the parts, in the order that the commands tell.
pub record IsInParts (slots : ℕ) (accounts : List Account) (split : Split (List ℕ)) (texts : List (Numbered (List Event))) (sets : Sets)
    (marks : ℕ → Marks) : Type 0 where
  pub all : Marks
  pub printed : picked (λ n m. n == m) split.of_text (λ k. (part_threaded (texts_of slots accounts) split texts sets marks k).printed) (numbers texts)
      ≡ (threaded (texts_of slots accounts) texts all sets).printed
  pub sets_are : picked (pointwise nat_eq) split.of_name (λ k. (part_threaded (texts_of slots accounts) split texts sets marks k).sets)
      (keys_of (owners_behind_texts accounts texts (owners_of sets)))
      ≡ (threaded (texts_of slots accounts) texts all sets).sets

-- where each name that a text speaks of is in the text's part
abbrev pub TextsRunInParts : Type 0
TextsRunInParts = (slots : ℕ) (accounts : List Account) (split : Split (List ℕ)) (texts : List (Numbered (List Event))) (sets : Sets)
    → GoWithNames speak_of split texts → AreReady (pointwise nat_eq) makes 1000 texts sets → IsDistinct (λ n m. n == m) (numbers texts)
    → (marks : ℕ → Marks) → IsInParts slots accounts split texts sets marks
