-- One operator fewer is open in each call.
use Rattle.std.proofs.Common.{vec_len}
use Rattle.sno_expression.proofs.pushing.+grow.Given as goal

abbrev pub decreases-grow : goal.decreases-grow
decreases-grow l = vec_len l.pending
