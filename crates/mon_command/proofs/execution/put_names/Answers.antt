use Rattle.std.proofs.Common.{◌<◌, length, arith}
use Rattle.mon_command.proofs.Names.{names_more, count_more, few_more}
use Rattle.mon_command.proofs.execution.put_names.Goals as goal

pub loop-index-preserved : goal.loop-index-preserved
loop-index-preserved c =
    let account = c.args.account.now in
    let sets = c.args.catalogue.now in
    let index = c.loop-index.index in
    let inside : index < length sets = omega arith in (
      names_more account sets index inside _ _ _ c.loop-index.invariant.0 c.in_ok-count.ensures.names,
      count_more account sets index inside _ _ c.loop-index.invariant.1 c.in_ok-count.ensures.count,
      few_more account sets index _ _ c.loop-index.invariant.2 c.in_ok-count.ensures.count,
    )
