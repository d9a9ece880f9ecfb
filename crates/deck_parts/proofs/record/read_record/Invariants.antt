use Rattle.std.proofs.Common.{length}
use Rattle.deck_parts.proofs.record.read_record.Given as goal

abbrev pub decreases-lines : goal.decreases-lines
decreases-lines l = length l.rest
