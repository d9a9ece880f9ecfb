-- Which job in a slot holds most of its printout (own).
use Rattle.std.specs.Prelude.{ℕ, ◌+◌, ◌*◌, min, Bool, true, nat_lt, List, [], ◌∷◌, length, Option, Some, None, if◌then◌else◌}
use Rattle.std.specs.List.{concat}
use Rattle.scheduler.specs.declared.largest_printout.Holder.{Holder}
use Rattle.scheduler.specs.States.{SlotState}

-- how many bytes a job's printout takes so far, as far as the numbers of 64 bits tell: the characters of each spooled line and 5 more,
-- and 96 for each note
abbrev pub held_by : SlotState → ℕ
held_by slot = min (length (concat slot.units.spool) + length slot.units.spool * 5 + length slot.units.notes * 96) 18446744073709551615

abbrev pub holder_of : SlotState → Holder
holder_of slot = record { number = slot.number; account = slot.account.name; bytes = held_by slot }

-- so many bytes are more than what a job holds, or there is none
abbrev pub is_more : ℕ → Option Holder → Bool
is_more bytes None = true
is_more bytes (Some most) = nat_lt most.bytes bytes

-- the job that holds more: that of the seat, or the one before it, also where both hold as much
abbrev pub more_held : Option Holder → Option SlotState → Option Holder
more_held most None = most
more_held most (Some slot) = if is_more (held_by slot) most then Some (holder_of slot) else most

abbrev pub most_from : Option Holder → List (Option SlotState) → Option Holder
most_from most [] = most
most_from most (seat ∷ seats) = most_from (more_held most seat) seats

-- the job in a slot that holds most, if some slot has a job: the one in the lowest slot of those that hold as much
abbrev pub most_held : List (Option SlotState) → Option Holder
most_held slots = most_from None slots
