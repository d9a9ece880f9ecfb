use Rattle.mon_monitor.proofs.Histories.{load_has_room}
use Rattle.mon_monitor.proofs.laws.load_has_room.Goals as goal

pub returns : goal.returns
returns c = load_has_room c.room_is_made.ensures
