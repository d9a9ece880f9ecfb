-- What may happen in a monitor (own).
use Rattle.std.specs.Prelude.{ℕ}
use Rattle.deck_lines.specs.declared.command.Command.{Command}
use Rattle.deck_syntax.specs.declared.job_deck.JobDeck.{JobDeck}

pub data Event : Type 0 where
  -- an owner command is served
  Serve : Command → Event
  -- a job is loaded, once a slot is free
  Load : JobDeck → Event
  -- a slot is given so many turns
  Give : ℕ → ℕ → Event
  -- turns are given until all slots are empty
  Drain : Event
