use Rattle.mon_catalogue.proofs.Back.{catalogue_reads_back}
use Rattle.mon_catalogue.proofs.laws.reads_back.Goals as goal

pub returns : goal.returns
returns c = catalogue_reads_back
