use Rattle.ledger_checkpoint.proofs.Taken.{none_taken, taken_more}
use Rattle.ledger_checkpoint.proofs.applying.take_sets.Goals as goal

pub loop-entry-init : goal.loop-entry-init
loop-entry-init g c = none_taken (g.M.Machine.behind c.args.machine.now)

pub loop-entry-preserved : goal.loop-entry-preserved
loop-entry-preserved g c =
    taken_more c.args.entries.now c.loop-entry.entry-index _ (g.M.Machine.behind c.args.machine.now) (g.M.Machine.behind c.loop-entry.machine)
    (g.M.Machine.behind c.take_set.new.machine) c.loop-entry-test.true c.loop-entry.invariant c.in_ok-take_set.ensures
