-- Texts one after the other are one.
use Rattle.std.proofs.Common.{rules}
use Rattle.sno_text.proofs.Printable.{line_of_take, line_of_drop, line_of_join}
use Rattle.sno_text.proofs.text.Text.replaced.Goals as goal

pub of_bytes-requires : goal.of_bytes-requires
of_bytes-requires c = search (rules, line_of_take, line_of_drop, line_of_join)
