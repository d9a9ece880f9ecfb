-- What holds of the numbers of jobs: each law is the contract of a function in `laws`.
use Rattle.std.specs.Prelude.{◌≡◌, ℕ, ◌+◌, List, map}
use Rattle.mon_access.specs.declared.account.Account.{Account}
use Rattle.mon_catalogue.specs.Sets.{Sets}
use Rattle.scheduler.specs.Marks.{Marks}
use Rattle.mon_monitor.specs.SystemStates.{SystemState, first_system}
use Rattle.mon_monitor.specs.Events.{Event}
use Rattle.mon_monitor.specs.Played.{played}
use Rattle.mon_monitor.specs.History.{history}
use Rattle.preflight.specs.Rounds.{Handed}
use Rattle.rounds.specs.Delivery.{text_events}
use Rattle.job_numbers.specs.Numbers.{event_as, printout_as, entry_as}

-- the same happens, but for these numbers
pub record IsTheSame (f : ℕ → ℕ) (events others : List Event) (m : Marks) (w : SystemState) : Type 0 where
  pub printouts : (played others m w).printouts ≡ map (printout_as f) (played events m w).printouts
  pub sets : (played others m w).after.scheduler.sets ≡ (played events m w).after.scheduler.sets
  pub marks : (played others m w).marks ≡ (played events m w).marks
  pub history : history others m w ≡ map (entry_as f) (history events m w)

abbrev pub NumbersAreTold : Type 0
NumbersAreTold = (f : ℕ → ℕ) (slots : ℕ) (accounts : List Account) (events : List Event) (m : Marks) (sets : Sets)
    → IsTheSame f events (map (event_as f) events) m (first_system slots accounts sets)

abbrev pub TextsAreNumbered : Type 0
TextsAreNumbered = (jobs : ℕ) (text : Handed) → text_events jobs text ≡ map (event_as (λ n. jobs + n)) (text_events 0 text)
