use Rattle.sno_syntax.proofs.reading.read_next.Goals as goal

pub returns-clause-spelled : goal.returns-clause-spelled
returns-clause-spelled c = (c.read_statement.new.statement, c.in_ok-push.ensures, c.in_ok-read_statement.ensures.spelled)
