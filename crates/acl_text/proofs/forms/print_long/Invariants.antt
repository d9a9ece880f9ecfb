use Rattle.std.proofs.Common.{take}
use Rattle.std.specs.Prelude.{flat_map}
use Rattle.mon_device.specs.Putting.{Puts}
use Rattle.mon_acl.specs.Entries.{mask_of}
use Rattle.acl_text.specs.Printing.{long_line}
use Rattle.acl_text.proofs.forms.print_long.Given as goal

abbrev pub invariant-loop-entry : goal.invariant-loop-entry
invariant-loop-entry g l = Puts (g.S.Sink.standing l.fn.sink) (g.S.Sink.standing l.sink) (flat_map (long_line (mask_of l.acl)) (take l.entry-index l.acl))
