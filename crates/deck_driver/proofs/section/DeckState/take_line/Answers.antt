use Rattle.std.proofs.Common.{refl}
use Rattle.deck_driver.proofs.section.DeckState.take_line.Goals as goal

pub returns-then-take_inner_line-clause-reads_back : goal.returns-then-take_inner_line-clause-reads_back
returns-then-take_inner_line-clause-reads_back g c = λ known. c.if-take_inner_line.ensures.reads_back refl c.args.options.check
