-- A text that makes no data set, over some of the data sets and over all (own): the law is the contract of a function in `laws`.
use Rattle.std.specs.Prelude.{◌≡◌, ℕ, Bool, true, List}
use Rattle.mon_access.specs.declared.account.Account.{Account}
use Rattle.mon_catalogue.specs.Sets.{Sets}
use Rattle.mon_catalogue.specs.Stored.{IsStored, ArePrintable}
use Rattle.scheduler.specs.Marks.{Marks}
use Rattle.mon_monitor.specs.SystemStates.{SystemState, first_system}
use Rattle.mon_monitor.specs.Events.{Event}
use Rattle.mon_monitor.specs.Audit.{audit_of}
use Rattle.mon_monitor.specs.Played.{Played, played}
use Rattle.frame_laws.specs.Naming.{of_names, speak_of, makes}
use Rattle.ledger_sets.specs.Changes.{changes_between}

-- What a text does over all, it does over those whose names pass: it prints and tells the same, and changes the same. What it leaves of them
-- can be written; so can all that it leaves.
pub record DoesTheSame (p : List ℕ → Bool) (sets : Sets) (events : List Event) (m : Marks) (all some : SystemState) : Type 0 where
  pub printouts : (played events m some).printouts ≡ (played events m all).printouts
  pub told : audit_of events m some ≡ audit_of events m all
  pub changes : changes_between (of_names p sets) (played events m some).after.scheduler.sets ≡ changes_between sets (played events m all).after.scheduler.sets
  pub stored : IsStored (played events m some).after.scheduler.sets → IsStored (played events m all).after.scheduler.sets
  pub printable : ArePrintable sets → ArePrintable (played events m some).after.scheduler.sets → ArePrintable (played events m all).after.scheduler.sets

-- THE LAW
abbrev pub SomeAreEnough : Type 0
SomeAreEnough = (slots : ℕ) (accounts : List Account) (events : List Event) (m : Marks) (sets : Sets) (p : List ℕ → Bool)
    → ((name : List ℕ) → speak_of events name ≡ true → p name ≡ true) → makes events ≡ 0 → IsStored sets
    → DoesTheSame p sets events m (first_system slots accounts sets) (first_system slots accounts (of_names p sets))
