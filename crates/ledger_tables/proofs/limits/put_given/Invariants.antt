use Rattle.std.proofs.Common.{◌≡◌, ◌++◌, map, take}
use Rattle.site_plan.specs.Tables.{ended_lines}
use Rattle.ledger_tables.specs.Limits.{given_line}
use Rattle.ledger_tables.proofs.limits.put_given.Given as goal

abbrev pub invariant-loop-given : goal.invariant-loop-given
invariant-loop-given l = l.text.items ≡ l.fn.text.items ++ ended_lines (map given_line (take l.given-index l.all))
