-- A round in parts (own): each part runs its texts over its data sets alone.
use Rattle.std.specs.Prelude.{◌≡◌, ℕ, suc, nat_eq, ◌==◌, ◌+◌, List, [], ◌∷◌, map}
use Rattle.std.specs.Map.{keys_of}
use Rattle.std.specs.Cmp.Lexicographic.{pointwise}
use Rattle.mon_access.specs.declared.account.Account.{Account}
use Rattle.mon_catalogue.specs.declared.data_set.DataSet.{DataSet}
use Rattle.mon_catalogue.specs.Sets.{Sets}
use Rattle.scheduler.specs.Marks.{Marks}
use Rattle.mon_monitor.specs.Events.{Event}
use Rattle.mon_monitor.specs.Printouts.{Printout, printouts_text}
use Rattle.deck_run.specs.Laws.{jobs_in}
use Rattle.preflight.specs.Rounds.{Handed}
use Rattle.parts_laws.specs.Picking.{picked}
use Rattle.parts_laws.specs.Runs.{Numbered, Ran, Split, GoWithNames, AreReady, numbers}
use Rattle.parts_laws.specs.Laws.{part_threaded}
use Rattle.frame_laws.specs.Naming.{speak_of, makes}
use Rattle.frame_laws.specs.Owners.{owners_of}
use Rattle.frame_laws.specs.Texts.{texts_of, owners_behind_texts}
use Rattle.rounds.specs.Delivery.{text_events, delivered}

-- the texts of a round, from this number on, behind so many jobs
abbrev pub numbered : ℕ → ℕ → List Handed → List (Numbered (List Event))
numbered n jobs [] = []
numbered n jobs (text ∷ texts) = record { number = n; text = text_events jobs text } ∷ numbered (suc n) (jobs + jobs_in text.asked) texts

-- what a part prints and leaves
abbrev pub part : ℕ → List Account → Split (List ℕ) → List Handed → Sets → (ℕ → Marks) → ℕ → Ran (List ℕ) DataSet (List Printout)
part slots accounts split texts sets marks k = part_threaded (texts_of slots accounts) split (numbered 0 0 texts) sets marks k

-- With some marks for the whole round: each text prints what it prints in its part, and the data sets are those of the parts, in the order
-- that the commands tell.
pub record IsInParts (slots : ℕ) (accounts : List Account) (split : Split (List ℕ)) (texts : List Handed) (sets : Sets) (marks : ℕ → Marks) : Type 0 where
  pub all : Marks
  pub printed : map (λ e. printouts_text e.1) (picked (λ n m. n == m) split.of_text (λ k. (part slots accounts split texts sets marks k).printed)
      (numbers (numbered 0 0 texts)))
      ≡ (delivered slots accounts 0 all sets texts).printed
  pub sets_are : picked (pointwise nat_eq) split.of_name (λ k. (part slots accounts split texts sets marks k).sets)
      (keys_of (owners_behind_texts accounts (numbered 0 0 texts) (owners_of sets)))
      ≡ (delivered slots accounts 0 all sets texts).sets

-- where each name that a text speaks of is in the text's part, and the catalogue has room for all that the texts may make
abbrev pub RoundsRunInParts : Type 0
RoundsRunInParts = (slots : ℕ) (accounts : List Account) (split : Split (List ℕ)) (texts : List Handed) (sets : Sets)
    → GoWithNames speak_of split (numbered 0 0 texts) → AreReady (pointwise nat_eq) makes 1000 (numbered 0 0 texts) sets
    → (marks : ℕ → Marks) → IsInParts slots accounts split texts sets marks
