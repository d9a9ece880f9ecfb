-- After the lines so far the rest of the text stands where the reader says.
use Rattle.std.proofs.Common.{length}
use Rattle.deck_syntax.specs.Events.{open_in}
use Rattle.text_names.proofs.Reached.{Reached}
use Rattle.text_names.proofs.reading.names_in.Given as goal

abbrev pub invariant-lines : goal.invariant-lines
invariant-lines l = Reached l.fn.bytes (open_in l.reader) l.found.names.items l.found.all l.rest

abbrev pub decreases-lines : goal.decreases-lines
decreases-lines l = length l.rest
