-- What units are tied to (own): units are 1 to 99; unit 5 is the deck's data and unit 6 the spool unless they are tied to
-- data sets. There is a tie for each number below 100, so that 0 is one, too, which is tied to nothing.
use Rattle.std.specs.Prelude.{ℕ, nat_lt, Bool, true, false, ◌==◌, ◌||◌, List, [], map, Option, None, Some, if◌then◌else◌, slice_get, slice_set}
use Rattle.std.specs.List.{list_any, range_with_len}
use Rattle.std.specs.Cmp.Lexicographic.{pointwise}
use Rattle.std.specs.Prelude.{nat_eq}
use Rattle.mon_unit.specs.declared.tie.Target.{Target}
use Rattle.mon_unit.specs.declared.tie.Target.TheVariants.{Untied, Data, Spool, Set}
use Rattle.mon_unit.specs.declared.tie.Tie.{Tie}
use Rattle.deck_lines.specs.declared.unit_error.UnitError.{UnitError}
use Rattle.deck_lines.specs.declared.unit_error.UnitError.TheVariants.{UnitRange, UnitTwice}
use Rattle.mon_unit.specs.State.{UnitState}
use Rattle.std.specs.Option.{unwrap_or}

abbrev pub tied_to : Target → Tie
tied_to target = record { target = target; position = 0 }

abbrev pub first_target : ℕ → Target
first_target u = if u == 5 then Data else if u == 6 then Spool else Untied

-- the units of a job before any card ties one
abbrev pub new_units : List (List ℕ) → UnitState
new_units deck = record { ties = map (λ u. tied_to (first_target u)) (range_with_len 0 100); deck = deck; spool = []; notes = [] }

-- the tie of a unit
abbrev pub tie_at : UnitState → ℕ → Tie
tie_at units u = unwrap_or (slice_get units.ties u) (tied_to Untied)

abbrev pub is_a_set : Target → Bool
is_a_set (Set name) = true
is_a_set target = false

-- why a unit can't be tied to a data set: there is no such unit, or else it is tied to one
abbrev pub tie_refusal : ℕ → UnitState → Option UnitError
tie_refusal u units =
    if (u == 0) || nat_lt 99 u then Some (UnitRange u) else if is_a_set (tie_at units u).target then Some (UnitTwice u) else None

-- the unit has this tie, and the others keep theirs
abbrev pub with_tie : ℕ → Tie → UnitState → UnitState
with_tie u tie units = record units { ties = slice_set units.ties u tie }

-- whether both are tied to one data set
abbrev pub is_set : List ℕ → Target → Bool
is_set name Untied = false
is_set name Data = false
is_set name Spool = false
is_set name (Set other) = pointwise nat_eq name other

abbrev pub meets : Target → List Tie → Bool
meets Untied ties = false
meets Data ties = false
meets Spool ties = false
meets (Set name) ties = list_any (λ tie. is_set name tie.target) ties

abbrev pub share : UnitState → UnitState → Bool
share units others = list_any (λ tie. meets tie.target others.ties) units.ties
