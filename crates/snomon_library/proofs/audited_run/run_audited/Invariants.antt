-- What the file tells at first is told, and somebody listens where there is one.
use Rattle.std.specs.{Prelude.{is_some}, Option.{option_and_then}}
use Rattle.snomon_library.proofs.audited_run.run_audited.Given as goal

abbrev pub ghosts-run_into-T-Telling : goal.ghosts-run_into-T-Telling
ghosts-run_into-T-Telling g a = record { tells = is_some (option_and_then g.F.Write.contents a.file) }

abbrev pub ghosts-run_into-H-Heeding : goal.ghosts-run_into-H-Heeding
ghosts-run_into-H-Heeding g a = record { heeds = is_some a.file }
