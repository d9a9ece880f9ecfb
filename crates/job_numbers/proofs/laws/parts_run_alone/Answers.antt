use Rattle.job_numbers.proofs.Alone.{parts_run_alone}
use Rattle.job_numbers.proofs.laws.parts_run_alone.Goals as goal

pub returns : goal.returns
returns c = parts_run_alone c.each_its_part.ensures
