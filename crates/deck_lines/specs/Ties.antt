-- Which units can be tied (own): units are 1 to 99, and each is tied once.
use Rattle.std.specs.Prelude.{ℕ, nat_lt, Bool, false, ◌==◌, ◌||◌, List, Option, Some, None, if◌then◌else◌, slice_index_or}
use Rattle.deck_lines.specs.declared.unit_error.UnitError.{UnitError}
use Rattle.deck_lines.specs.declared.unit_error.UnitError.TheVariants.{UnitRange, UnitTwice}

-- one card, told by which units are tied already
abbrev pub refused_by : ℕ → List Bool → Option UnitError
refused_by u tied = if (u == 0) || nat_lt 99 u then Some (UnitRange u) else if slice_index_or tied u false then Some (UnitTwice u) else None
