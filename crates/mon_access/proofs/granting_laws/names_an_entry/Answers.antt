use Rattle.mon_access.proofs.Rightness.{an_entry}
use Rattle.mon_access.proofs.granting_laws.names_an_entry.Goals as goal

pub returns : goal.returns
returns c = an_entry
