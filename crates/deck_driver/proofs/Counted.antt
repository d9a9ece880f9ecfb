-- How a card counts: as a job, as a command, or as neither.
use Rattle.deck_syntax.specs.Decks.{Asked, Commands, Enters}
use Rattle.deck_driver.specs.{declared.options.Counts.{Counts}, RunStates.{nothing_counted}}

abbrev pub one_counted : Asked → Counts
one_counted (Commands command) = record { jobs = 0; commands = 1 }
one_counted (Enters job) = record { jobs = 1; commands = 0 }
one_counted asked = nothing_counted
