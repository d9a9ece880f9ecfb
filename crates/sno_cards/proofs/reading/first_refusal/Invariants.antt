use Rattle.std.proofs.Common.{◌≡◌, ◌+◌, false, drop}
use Rattle.sno_cards.specs.Statements.{first_refusal, numbered}
use Rattle.sno_cards.proofs.reading.first_refusal.Given as goal

-- the cards that are left have the whole's first refusal
abbrev pub invariant-loop-index : goal.invariant-loop-index
invariant-loop-index l = first_refusal false (numbered 1 l.lines) ≡ first_refusal l.begun (numbered (l.index + 1) (drop l.index l.lines))
