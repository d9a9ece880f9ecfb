use Rattle.deck_run.proofs.Beginning.{refused_prints_as_good}
use Rattle.deck_run.proofs.laws.refused_prints_as_good.Goals as goal

pub returns : goal.returns
returns c = refused_prints_as_good c.card_by_card.ensures
