use Rattle.deck_run.proofs.ShownRecords.{denials_say_why}
use Rattle.deck_run.proofs.laws.denials_say_why.Goals as goal

pub returns : goal.returns
returns c = denials_say_why
