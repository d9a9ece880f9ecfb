use Rattle.sno_value.proofs.TableLawful.{same_where_identical}
use Rattle.sno_value.proofs.table_laws.same_where_identical.Goals as goal

pub returns : goal.returns
returns c = same_where_identical
