use Rattle.std.proofs.Common.{◌≡◌, map, take}
use Rattle.site_plan.specs.Tables.{ended_lines}
use Rattle.ledger_tables.specs.Users.{user_line}
use Rattle.ledger_tables.proofs.users.users_text.Given as goal

abbrev pub invariant-loop-user : goal.invariant-loop-user
invariant-loop-user l = l.text.items ≡ ended_lines (map user_line (take l.user-index l.users))
