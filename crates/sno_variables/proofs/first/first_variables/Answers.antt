-- One after the other.
use Rattle.std.proofs.Common.{◌∙◌, ap}
use Rattle.sno_variables.{specs.First.{with_patterns}, proofs.Steps.{first_by}}
use Rattle.sno_variables.proofs.first.first_variables.Goals as goal

pub returns : goal.returns
returns c =
    first_by c.hold_patterns.new.variables c.read_input.new.variables c.write_to.new.variables c.write_to-2.new.variables
    (c.in_ok-hold_patterns.ensures ∙ ap with_patterns c.in_ok-variables.ensures)
    c.in_ok-read_input.ensures
    c.in_ok-write_to.ensures
    c.in_ok-write_to-2.ensures
