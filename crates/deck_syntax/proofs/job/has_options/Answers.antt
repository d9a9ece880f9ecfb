use Rattle.std.proofs.Common.{sym, ap, ◌∙◌}
use Rattle.deck_syntax.{specs.Jobs.{are_options}, proofs.Options.{of_four}}
use Rattle.deck_syntax.proofs.job.has_options.Goals as goal

pub returns-in-4 : goal.returns-in-4
returns-in-4 c =
    let four = sym c.len.ensures ∙ c.in-4.is in
    let are = of_four c.args.words.now c.at-in-4.result.now c.at-in-4-2.result.now four c.at-in-4.ensures c.at-in-4-2.ensures in
    c.are_two_options.ensures ∙ ap are_options (sym are)
