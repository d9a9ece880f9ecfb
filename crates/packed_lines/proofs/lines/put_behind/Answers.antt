-- The line is gathered, or what was gathered is put and then the line.
use Rattle.std.proofs.Common.{[]}
use Rattle.mon_device.proofs.Putting.{puts_nothing}
use Rattle.packed_lines.proofs.Gathering.{line_put}
use Rattle.packed_lines.proofs.lines.put_behind.Goals as goal

pub returns-then-length-filled-clause-put : goal.returns-then-length-filled-clause-put
returns-then-length-filled-clause-put g c = ([], puts_nothing _, c.gather.ensures)

pub returns-clause-put : goal.returns-clause-put
returns-clause-put g c = line_put _ _ _ _ _ _ _ c.put.ensures c.put-2.ensures c.put-3.ensures
