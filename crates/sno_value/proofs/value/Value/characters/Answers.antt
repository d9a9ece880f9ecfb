-- A number in decimal is a text.
use Rattle.std.proofs.Common.{rules}
use Rattle.sno_text.proofs.Printable.{line_of_number}
use Rattle.sno_value.proofs.value.Value.characters.Goals as goal

pub returns-in-Integer-clause-printable : goal.returns-in-Integer-clause-printable
returns-in-Integer-clause-printable c = rw (c.as_bytes-in-Integer.ensures.value, c.format.ensures.text) (search (rules, line_of_number))
