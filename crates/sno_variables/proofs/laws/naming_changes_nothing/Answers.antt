use Rattle.sno_variables.proofs.Looking.{naming_changes_nothing}
use Rattle.sno_variables.proofs.laws.naming_changes_nothing.Goals as goal

pub returns : goal.returns
returns c = naming_changes_nothing
