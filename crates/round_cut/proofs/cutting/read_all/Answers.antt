use Rattle.std.proofs.Common.{arith}
use Rattle.round_cut.proofs.Reading.{so_far}
use Rattle.round_cut.proofs.cutting.read_all.Goals as goal

pub loop-place-preserved : goal.loop-place-preserved
loop-place-preserved c =
    so_far c.loop-place.place c.args.submissions.now c.index-submissions-place.result c.loop-place.texts.items c.read_one.new.texts.items
    (omega (arith, c.loop-place-test.true)) c.index-submissions-place.is c.loop-place.invariant c.in_ok-read_one.ensures
