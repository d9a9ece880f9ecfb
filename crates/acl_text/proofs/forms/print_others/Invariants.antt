use Rattle.std.proofs.Common.{take}
use Rattle.std.specs.Prelude.{flat_map}
use Rattle.mon_device.specs.Putting.{Puts}
use Rattle.acl_text.specs.Printing.{next_text}
use Rattle.acl_text.proofs.forms.print_others.Given as goal

abbrev pub invariant-loop-other : goal.invariant-loop-other
invariant-loop-other g l = Puts (g.S.Sink.standing l.fn.sink) (g.S.Sink.standing l.sink) (flat_map next_text (take l.other-index l.others))
