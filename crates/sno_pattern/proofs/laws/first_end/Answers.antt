use Rattle.sno_pattern.proofs.Finding.{first_end as law}
use Rattle.sno_pattern.proofs.laws.first_end.Goals as goal

pub returns : goal.returns
returns c = law
