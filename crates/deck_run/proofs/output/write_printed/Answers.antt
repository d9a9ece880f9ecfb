use Rattle.std.proofs.Common.{rules, append-nil}
use Rattle.mon_device.proofs.Putting.{begun_put, puts_then, puts_same}
use Rattle.deck_run.proofs.output.write_printed.Goals as goal

pub returns-clause-taken : goal.returns-clause-taken
returns-clause-taken g c =
    let begun = begun_put _ _ _ (puts_same _ _ _ _ (append-nil c.args.printed.now) (puts_then _ _ _ _ _ c.print.ensures c.settle.ensures.puts)) (search rules) in
    search (rules, begun)
