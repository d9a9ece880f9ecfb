use Rattle.std.proofs.Common.{◌≡◌, ◌+◌, ◌++◌, drop}
use Rattle.sno_cards.specs.Statements.{numbered, statements_on}
use Rattle.sno_cards.proofs.reading.statements_on.Given as goal

-- the statements so far and those of the cards that are left are the whole's
abbrev pub invariant-loop-index : goal.invariant-loop-index
invariant-loop-index l =
    statements_on (numbered 1 l.lines) ≡ l.statements.items ++ statements_on (numbered (l.index + 1) (drop l.index l.lines))
