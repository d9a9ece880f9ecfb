-- What is told at first is told.
use Rattle.std.specs.Prelude.{is_some}
use Rattle.snomon_library.proofs.streams.run_streams.Given as goal

abbrev pub ghosts-run_told-I-Telling : goal.ghosts-run_told-I-Telling
ghosts-run_told-I-Telling g a = record { tells = is_some (g.R.Read.remaining a.input) }

abbrev pub ghosts-run_told-O-Telling : goal.ghosts-run_told-O-Telling
ghosts-run_told-O-Telling g a = record { tells = is_some (g.W.Write.contents a.output) }
