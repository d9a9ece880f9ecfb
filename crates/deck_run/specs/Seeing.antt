-- What is written is read (own), over the list of a whole deck.
use Rattle.std.specs.Prelude.{ℕ, List}
use Rattle.scheduler.specs.Marks.{Marks}
use Rattle.mon_monitor.specs.Seeing.{SeesWrites}
use Rattle.deck_driver.specs.declared.options.Options.{Options}
use Rattle.deck_run.specs.Headline.{history_of}

-- For every deck, wherever memory breaks its turns off.
abbrev pub ReadsSeeWrites : Type 0
ReadsSeeWrites = (options : Options) (m : Marks) (bytes : List ℕ) → SeesWrites (history_of options m bytes)
