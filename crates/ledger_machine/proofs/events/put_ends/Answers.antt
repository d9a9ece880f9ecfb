use Rattle.std.proofs.Common.{◌++◌, flat_map, refl}
use Rattle.job_end.specs.Printouts.{printout}
use Rattle.ledger_machine.proofs.Going.{put_more, put_all, whole_more, whole_all}
use Rattle.ledger_machine.proofs.events.put_ends.Goals as goal

pub loop-end-init : goal.loop-end-init
loop-end-init c = record { printed = refl; whole = λ all. all }

pub loop-end-preserved : goal.loop-end-preserved
loop-end-preserved c =
    let ends = c.args.ends.now in
    let i = c.loop-end.end-index in record {
      printed =
          put_more printout ends i c.end-item.result c.loop-end.out.items c.put_end.new.out.items (c.args.out.now.items ++ flat_map printout ends) c.loop-end-test.true c.end-item.is
          c.loop-end.invariant.printed c.in_ok-put_end.ensures.printed;
      whole = whole_more ends i c.end-item.result c.loop-end-test.true c.end-item.is c.in_ok-put_end.ensures.whole c.loop-end.invariant.whole;
    }

pub returns-clause-printed : goal.returns-clause-printed
returns-clause-printed c =
    put_all printout c.args.ends.now c.loop-end.end-index c.loop-end.out.items (c.args.out.now.items ++ flat_map printout c.args.ends.now) c.loop-end-test.false
    c.loop-end.invariant.printed

pub returns-clause-whole : goal.returns-clause-whole
returns-clause-whole c = whole_all c.args.ends.now c.loop-end.end-index c.loop-end-test.false c.loop-end.invariant.whole
