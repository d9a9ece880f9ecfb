use Rattle.mon_unit.proofs.Looks.{run_keeps_to_ties, cut_keeps_to_ties}
use Rattle.mon_unit.proofs.laws.jobs_keep_to_ties.Goals as goal

pub returns : goal.returns
returns g c = λ account talk reach. (run_keeps_to_ties account reach talk, λ k. cut_keeps_to_ties account reach k talk)
