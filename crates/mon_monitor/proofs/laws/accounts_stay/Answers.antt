use Rattle.mon_monitor.proofs.Histories.{accounts_stay}
use Rattle.mon_monitor.proofs.laws.accounts_stay.Goals as goal

pub returns : goal.returns
returns c = accounts_stay
