-- So many there are with those of the texts so far, if that is no more than can be told.
use Rattle.std.proofs.Common.{◌≡◌, ◌+◌, ◌-◌, ◌^◌, min, take}
use Rattle.round_cut.specs.Cuts.{creations}
use Rattle.round_cut.proofs.cutting.have_room.Given as goal

abbrev pub invariant-loop-submission : goal.invariant-loop-submission
invariant-loop-submission l = l.all ≡ min (l.sets + creations (take l.submission-index l.submissions)) (2 ^ 64 - 1)
