use Rattle.mon_catalogue.proofs.Back.{bytes_read_back}
use Rattle.mon_catalogue.proofs.laws.bytes_read_back.Goals as goal

pub returns : goal.returns
returns c = bytes_read_back
