use Rattle.sno_value.proofs.TableLawful.{others_stay}
use Rattle.sno_value.proofs.table_laws.others_stay.Goals as goal

pub returns : goal.returns
returns c = others_stay
