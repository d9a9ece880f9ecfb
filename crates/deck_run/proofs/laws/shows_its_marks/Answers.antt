use Rattle.deck_run.proofs.Shown.{shows_its_marks}
use Rattle.deck_run.proofs.laws.shows_its_marks.Goals as goal

pub returns : goal.returns
returns c = shows_its_marks c.unmarked.ensures
