-- An identifier is a text.
use Rattle.std.proofs.Common.{rules}
use Rattle.sno_declarations.proofs.Identifiers.{line_of_identifier}
use Rattle.sno_declarations.proofs.prototype.read_parts.Goals as goal

pub of_slice-requires : goal.of_slice-requires
of_slice-requires c = search (rules, line_of_identifier)
