-- The parts of a run are its text.
use Rattle.programs.proofs.Runs.{run_put}
use Rattle.programs.proofs.reading.expression.+printing.Goals as goal

pub put_run-returns : goal.put_run-returns
put_run-returns t c =
    run_put c.put_ends.result c.args.operands.now c.as_slice-run.result.now c.args.out.now.items c.put_lefts.new.out.items c.put_expression.new.out.items
    c.put_ends.new.out.items c.as_slice-run.ensures.value c.in_ok-put_lefts.ensures c.in_ok-put_expression.ensures c.put_ends.ensures
