-- Those of the texts so far.
use Rattle.std.proofs.Common.{◌≡◌, take}
use Rattle.ledger_service.specs.Ties.{parts_of}
use Rattle.ledger_service.proofs.ties.parts_of.Given as goal

abbrev pub invariant-loop-text : goal.invariant-loop-text
invariant-loop-text l = l.parts.items ≡ parts_of l.split (take l.text-index l.texts)
