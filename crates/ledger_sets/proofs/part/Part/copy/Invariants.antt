-- Those before this place are copied.
use Rattle.ledger_sets.specs.Parts.{IsCopied}
use Rattle.ledger_sets.proofs.part.Part.copy.Given as goal

abbrev pub invariant-loop-place : goal.invariant-loop-place
invariant-loop-place l = IsCopied l.self.which.now l.self.catalogue.now l.place l.some
