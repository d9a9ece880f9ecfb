use Rattle.job_numbers.proofs.Telling.{numbers_are_told}
use Rattle.job_numbers.proofs.laws.numbers_are_told.Goals as goal

pub returns : goal.returns
returns c = numbers_are_told
