-- The texts so far were read.
use Rattle.std.proofs.Common.{take}
use Rattle.round_cut.specs.Cuts.{AreReadFrom}
use Rattle.round_cut.proofs.cutting.read_all.Given as goal

abbrev pub invariant-loop-place : goal.invariant-loop-place
invariant-loop-place l = AreReadFrom 0 (take l.place l.submissions) l.texts.items
