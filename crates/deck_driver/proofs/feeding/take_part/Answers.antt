use Rattle.deck_driver.proofs.Parts.{some_taken}
use Rattle.deck_driver.proofs.feeding.take_part.Goals as goal

pub returns-clause-some : goal.returns-clause-some
returns-clause-some c = some_taken c.take.result c.args.piece.now c.requires c.take.ensures.used
