use Rattle.sno_value.proofs.Lawful.{numbers_read_back}
use Rattle.sno_value.proofs.laws.numbers_read_back.Goals as goal

pub returns : goal.returns
returns c = numbers_read_back
