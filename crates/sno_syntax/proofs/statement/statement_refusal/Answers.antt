use Rattle.std.proofs.Common.{sym}
use Rattle.sno_statement.specs.Abstraction.{statement_of}
use Rattle.sno_syntax.proofs.Spelled.{no_refusal}
use Rattle.sno_syntax.proofs.statement.statement_refusal.Goals as goal

pub returns-in-Ok : goal.returns-in-Ok
returns-in-Ok c = sym (no_refusal c.args.labels.now c.args.text.now (statement_of c.read_statement-read.new.statement) c.in-Ok.ensures.spelled)
