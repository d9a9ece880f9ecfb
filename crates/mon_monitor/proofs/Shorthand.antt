-- Parts of the definitions by names of their own.
use Rattle.std.specs.Prelude.{List, map}
use Rattle.mon_monitor.proofs.Common.{JobEnd, Printout, OfJob}

-- the printouts of the jobs that ended, in order
abbrev pub of_ends : List JobEnd → List Printout
of_ends ends = map OfJob ends
