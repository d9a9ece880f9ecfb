use Rattle.ledger_tables.proofs.UsersBack.{reads_users}
use Rattle.ledger_tables.proofs.laws.reads_users.Goals as goal

pub returns : goal.returns
returns c = reads_users
