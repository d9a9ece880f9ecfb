-- A deck as it is understood (own): its account table, its data sets, what its stream asks for in order, and how it ends.
use Rattle.std.specs.Prelude.{ℕ, List}
use Rattle.mon_access.specs.declared.account.Account.{Account}
use Rattle.mon_catalogue.specs.Sets.{Sets}
use Rattle.deck_lines.specs.declared.command.Command.{Command}
use Rattle.deck_lines.specs.declared.deck_error.DeckError.{DeckError}
use Rattle.deck_syntax.specs.declared.job.OpenJob.{OpenJob}
use Rattle.deck_lines.specs.declared.turn.Turn.{Turn}

-- what a card of the stream asks for, with the lines behind it that are its own
pub data Asked : Type 0 where
  -- a command is carried out
  Commands : Command → Asked
  -- a job is loaded
  Enters : OpenJob → Asked
  -- a slot is given turns
  Gives : Turn → Asked
  -- turns are given until all slots are empty
  Drains : Asked

pub data Ending : Type 0 where
  -- by its `$STOP`
  Stopped : Ending
  -- refused at this line, counted from 1
  Refused : ℕ → DeckError → Ending

-- what a stream says, up to its `$STOP` or up to the line at which the deck is refused
pub record Cards : Type 0 where
  pub asked : List Asked
  pub ending : Ending

-- the stream's cards are served over the accounts and data sets that come before it
pub record Deck : Type 0 where
  pub accounts : List Account
  pub catalogue : Sets
  pub cards : Cards
