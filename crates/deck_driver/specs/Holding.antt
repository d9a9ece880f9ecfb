-- Which job in a slot holds most, as far as a deck was read (own).
use Rattle.std.specs.Prelude.{Option}
use Rattle.scheduler.specs.declared.largest_printout.Holder.{Holder}
use Rattle.scheduler.specs.Holding.{most_held}
use Rattle.mon_monitor.specs.Abstraction.{system_of}
use Rattle.deck_syntax.specs.declared.stream_reader.StreamReader.TheVariants.{Cards}
use Rattle.deck_driver.specs.declared.section.Section.TheVariants as section
use Rattle.deck_driver.specs.declared.section.DeckState.{DeckState}
use Rattle.deck_driver.specs.declared.section.DeckState.TheVariants as state

-- where a card is due, the one that holds most then; else the one that was noted before
abbrev pub most_at : DeckState → Option Holder → Option Holder
most_at (state.Reading (section.Stream Cards monitor)) noted = most_held (system_of monitor).scheduler.slots
most_at _ noted = noted
