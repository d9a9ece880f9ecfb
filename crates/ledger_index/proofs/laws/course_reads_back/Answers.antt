use Rattle.ledger_index.proofs.Back.{course_back}
use Rattle.ledger_index.proofs.laws.course_reads_back.Goals as goal

pub returns : goal.returns
returns c = course_back c.reads_back.ensures c.reads_records.ensures
