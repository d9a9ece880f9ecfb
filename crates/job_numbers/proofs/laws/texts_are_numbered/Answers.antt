use Rattle.job_numbers.proofs.Telling.{texts_are_numbered}
use Rattle.job_numbers.proofs.laws.texts_are_numbered.Goals as goal

pub returns : goal.returns
returns c = texts_are_numbered
