use Rattle.deck_run.proofs.Isolated.{decks_isolated}
use Rattle.deck_run.proofs.laws.decks_isolated.Goals as goal

pub returns : goal.returns
returns c = decks_isolated c.reading_spells.ensures c.good_beginnings.ensures c.isolated.ensures
