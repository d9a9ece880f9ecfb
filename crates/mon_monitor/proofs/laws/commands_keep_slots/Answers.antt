use Rattle.std.proofs.Common.{refl}
use Rattle.mon_monitor.proofs.laws.commands_keep_slots.Goals as goal

pub returns : goal.returns
returns c = λ command m w. record { slots = refl; marks = refl }
