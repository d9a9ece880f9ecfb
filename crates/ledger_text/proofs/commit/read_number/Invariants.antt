-- What is left is read on from the number so far.
use Rattle.std.proofs.Common.{◌≡◌, drop}
use Rattle.ledger_text.specs.Text.{read_number}
use Rattle.ledger_text.proofs.commit.read_number.Given as goal

abbrev pub invariant-loop-index : goal.invariant-loop-index
invariant-loop-index l = read_number 0 l.text ≡ read_number l.number (drop l.index l.text)
