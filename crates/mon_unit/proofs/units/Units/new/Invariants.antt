-- The ties so far are those of the first units.
use Rattle.std.proofs.Common.{◌≡◌, map}
use Rattle.std.specs.List.{range_with_len}
use Rattle.mon_unit.proofs.Changed.{first_tie}
use Rattle.mon_unit.proofs.units.Units.new.Given as goal

abbrev pub invariant-loop-unit : goal.invariant-loop-unit
invariant-loop-unit l = l.ties.items ≡ map first_tie (range_with_len 0 l.unit)
