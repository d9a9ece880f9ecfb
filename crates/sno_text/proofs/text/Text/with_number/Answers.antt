-- A number in decimal behind a text is one.
use Rattle.std.proofs.Common.{rules}
use Rattle.sno_text.proofs.Printable.{line_of_join, line_of_number}
use Rattle.sno_text.proofs.text.Text.with_number.Goals as goal

pub of_bytes-requires : goal.of_bytes-requires
of_bytes-requires c = search (rules, line_of_join, line_of_number)
