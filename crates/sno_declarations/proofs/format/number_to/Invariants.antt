-- What has been read, and what is left of the text, give the value of all of it.
use Rattle.std.proofs.Common.{◌≡◌, ◌≤◌, drop}
use Rattle.mon_text.{specs.Counts.{value_of}, proofs.Digits.{read_on}}
use Rattle.sno_declarations.proofs.format.number_to.Given as goal

abbrev pub invariant-loop-digit : goal.invariant-loop-digit
invariant-loop-digit l = (read_on l.number (drop l.digit-index l.text) ≡ value_of l.text) × (l.number ≤ l.most)
