-- What holds of changes: each is the contract of a function in `laws`.
use Rattle.std.specs.Prelude.{◌≡◌, ◌<◌, ◌^◌, ℕ, List, ◌∷◌, ◌++◌, map, Some, None}
use Rattle.std.specs.List.{AllByRecursion}
use Rattle.mon_catalogue.specs.Sets.{Sets}
use Rattle.mon_catalogue.specs.Stored.{IsStored, ArePrintable}
use Rattle.ledger_text.specs.Text.{AreShort}
use Rattle.ledger_text.specs.Records.{Said, fields_of, numbers_of}
use Rattle.ledger_sets.specs.Changes.{changes_between, run_changes, said_text, change_text}
use Rattle.ledger_sets.specs.Applying.{Site, with_sets, with_jobs, after_all, after_change}

-- THE LAW: the changes between two catalogues make the one of the other
abbrev pub ChangesLead : Type 0
ChangesLead = (site : Site) (after : Sets) → IsStored site.sets → ArePrintable site.sets → IsStored after → ArePrintable after
    → after_all (changes_between site.sets after) site ≡ Some (with_sets site after)

-- numbers and lengths that a machine can have
pub record AreSmall (changes : List Said) : Type 0 where
  pub numbers : AllByRecursion (λ said. AllByRecursion (λ n. n < 2 ^ 63) (numbers_of said)) changes
  pub fields : AllByRecursion (λ said. AreShort (fields_of 0 said)) changes
  pub texts : AreShort (map said_text changes)

-- what is written of changes does what they do
abbrev pub TextsLead : Type 0
TextsLead = (changes : List Said) (site : Site) → AreSmall changes → after_change (change_text changes) site ≡ after_all changes site

-- so behind what is written of a text's run there are so many jobs, and the data sets that it left
abbrev pub RunsLead : Type 0
RunsLead = (site : Site) (jobs : ℕ) (audit : List ℕ) (after : Sets) → IsStored site.sets → ArePrintable site.sets → IsStored after → ArePrintable after
    → AreSmall (run_changes jobs audit site.sets after)
    → after_change (change_text (run_changes jobs audit site.sets after)) site ≡ Some (with_jobs (with_sets site after) jobs)

-- and cut off anywhere it does nothing
abbrev pub PartsAreRefused : Type 0
PartsAreRefused = (changes : List Said) (site : Site) (c : ℕ) (front : List ℕ) (d : ℕ) (lost : List ℕ) → AreSmall changes
    → change_text changes ≡ (c ∷ front) ++ d ∷ lost → after_change (c ∷ front) site ≡ None
