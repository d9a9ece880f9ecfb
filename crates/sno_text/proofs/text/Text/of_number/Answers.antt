-- A number in decimal is a text.
use Rattle.std.proofs.Common.{rules}
use Rattle.sno_text.proofs.Printable.{line_of_number}
use Rattle.sno_text.proofs.text.Text.of_number.Goals as goal

pub of_slice-requires : goal.of_slice-requires
of_slice-requires c = rw (c.as_bytes.ensures.value, c.format.ensures.text) (search (rules, line_of_number))
