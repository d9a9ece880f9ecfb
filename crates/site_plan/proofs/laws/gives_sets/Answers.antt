use Rattle.site_plan.proofs.Catalogues.{gives_sets}
use Rattle.site_plan.proofs.laws.gives_sets.Goals as goal

pub returns : goal.returns
returns c = gives_sets
