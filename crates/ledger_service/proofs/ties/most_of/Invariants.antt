-- With those that are left it comes to the greatest of all.
use Rattle.std.proofs.Common.{◌≡◌, drop}
use Rattle.std.specs.Prelude.{max}
use Rattle.ledger_service.specs.Ties.{most_of}
use Rattle.ledger_service.proofs.ties.most_of.Given as goal

abbrev pub invariant-loop-part : goal.invariant-loop-part
invariant-loop-part l = max l.most (most_of l.parts (drop l.part-index l.parts)) ≡ most_of l.parts l.parts
