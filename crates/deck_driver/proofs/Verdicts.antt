-- How a deck ends: what is said of one that is only read, and which event comes last.
use Rattle.std.specs.Prelude.{List, [], ◌∷◌, ℕ, codes}
use Rattle.mon_monitor.specs.Events.{Event, Drain}
use Rattle.deck_syntax.specs.Decks.{Ending, Stopped, Refused}

-- `$STOP` gives all turns that there are to give; a refusal gives none
abbrev pub at_end : Ending → List Event
at_end Stopped = Drain ∷ []
at_end (Refused n code) = []

-- a deck that is only read: whether it is refused
abbrev pub verdict : Ending → List ℕ
verdict Stopped = codes "DECK OK\n"
verdict (Refused n code) = []
