use Rattle.mon_monitor.proofs.Taking.{turns_come}
use Rattle.mon_monitor.proofs.laws.turns_come.Goals as goal

pub returns : goal.returns
returns c = turns_come c.room_is_made.ensures c.slots_stay.ensures
