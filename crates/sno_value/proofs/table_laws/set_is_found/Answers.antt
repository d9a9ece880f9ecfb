use Rattle.sno_value.proofs.TableLawful.{set_is_found}
use Rattle.sno_value.proofs.table_laws.set_is_found.Goals as goal

pub returns : goal.returns
returns c = set_is_found
