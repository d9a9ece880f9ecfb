-- Parts of the definitions by names of their own.
use Rattle.std.specs.Prelude.{ℕ, List, [], ◌∷◌, ◌++◌, Result, Ok, Err}
use Rattle.mon_monitor.proofs.Common.{Printout, OfRefused, Played, JobDeck, LoadError}

abbrev pub and_played : List Printout → Played → Played
and_played printouts p = record { printouts = printouts ++ p.printouts; after = p.after; marks = p.marks }

-- of a job that was to be loaded
abbrev pub of_load : JobDeck → Result ℕ LoadError → List Printout
of_load deck (Ok slot) = []
of_load deck (Err refusal) = OfRefused deck.number deck.account refusal ∷ []
