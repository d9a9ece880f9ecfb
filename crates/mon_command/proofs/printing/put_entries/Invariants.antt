-- The lines of the entries so far were appended.
use Rattle.std.proofs.Common.{◌≡◌, ◌++◌, take}
use Rattle.std.specs.List.{flat_map}
use Rattle.acl_text.specs.Printing.{long_line}
use Rattle.mon_command.specs.Printouts.{word}
use Rattle.mon_command.proofs.printing.put_entries.Given as goal

abbrev pub invariant-loop-entry : goal.invariant-loop-entry
invariant-loop-entry l = l.out.items ≡ l.fn.out.items ++ flat_map (λ entry. word (long_line l.mask entry)) (take l.entry-index l.entries)
