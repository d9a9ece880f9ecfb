-- What holds of the audits of texts over some of the data sets: each law is the contract of a function in `laws`.
use Rattle.std.specs.Prelude.{◌≡◌, ℕ, nat_eq, ◌==◌, ◌+◌, ◌≤◌, Bool, true, List, length}
use Rattle.std.specs.List.{IsDistinct}
use Rattle.std.specs.Map.{keys_of}
use Rattle.std.specs.Cmp.Lexicographic.{pointwise}
use Rattle.mon_access.specs.declared.account.Account.{Account}
use Rattle.mon_catalogue.specs.Sets.{Sets}
use Rattle.scheduler.specs.Marks.{Marks}
use Rattle.mon_monitor.specs.SystemStates.{first_system}
use Rattle.mon_monitor.specs.Events.{Event}
use Rattle.mon_monitor.specs.Audit.{audit_of}
use Rattle.parts_laws.specs.Picking.{picked}
use Rattle.parts_laws.specs.Runs.{Numbered, Split, GoWithNames, AreReady, numbers}
use Rattle.parts_laws.specs.Threads.{threaded}
use Rattle.parts_laws.specs.Laws.{part_threaded}
use Rattle.frame_laws.specs.Naming.{of_names, speak_of, makes}
use Rattle.frame_laws.specs.Owners.{owners_of}
use Rattle.frame_laws.specs.Texts.{owners_behind_texts}
use Rattle.frame_audit.specs.Texts.{audited_texts}

-- The audit of a text over the data sets whose names pass is that over all, where all that it names passes, and the data sets and those
-- that it makes are 1,000 at most.
abbrev pub AuditsAreFramed : Type 0
AuditsAreFramed = (slots : ℕ) (accounts : List Account) (events : List Event) (m : Marks) (sets : Sets) (p : List ℕ → Bool)
    → ((name : List ℕ) → speak_of events name ≡ true → p name ≡ true) → length sets + makes events ≤ 1000
    → audit_of events m (first_system slots accounts (of_names p sets)) ≡ audit_of events m (first_system slots accounts sets)

-- Texts in parts, each part with marks of its own, and all of them, with some marks: each text prints and is audited as in its part; and
-- the data sets are those of the parts, in the order that the commands tell.
pub record AreInParts (slots : ℕ) (accounts : List Account) (split : Split (List ℕ)) (texts : List (Numbered (List Event))) (sets : Sets)
    (marks : ℕ → Marks) : Type 0 where
  pub all : Marks
  pub told : picked (λ n m. n == m) split.of_text (λ k. (part_threaded (audited_texts slots accounts) split texts sets marks k).printed) (numbers texts)
      ≡ (threaded (audited_texts slots accounts) texts all sets).printed
  pub sets_are : picked (pointwise nat_eq) split.of_name (λ k. (part_threaded (audited_texts slots accounts) split texts sets marks k).sets)
      (keys_of (owners_behind_texts accounts texts (owners_of sets)))
      ≡ (threaded (audited_texts slots accounts) texts all sets).sets

-- where each name that a text speaks of is in the text's part
abbrev pub TextsRunInParts : Type 0
TextsRunInParts = (slots : ℕ) (accounts : List Account) (split : Split (List ℕ)) (texts : List (Numbered (List Event))) (sets : Sets)
    → GoWithNames speak_of split texts → AreReady (pointwise nat_eq) makes 1000 texts sets → IsDistinct (λ n m. n == m) (numbers texts)
    → (marks : ℕ → Marks) → AreInParts slots accounts split texts sets marks
