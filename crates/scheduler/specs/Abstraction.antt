-- The slots of the program, as definitions see them.
use Rattle.std.specs.Prelude.{List, map, Option, option_map}
use Rattle.sno_run.specs.Abstraction.{job_of}
use Rattle.scheduler.specs.declared.slot.Slot.{Slot}
use Rattle.scheduler.specs.declared.slots.Slots.{Slots}
use Rattle.scheduler.specs.States.{SlotState}

abbrev pub slot_of : Slot → SlotState
slot_of s = record { number = s.number; account = s.account; job = job_of s.job; units = s.units }

abbrev pub seat_of : Option Slot → Option SlotState
seat_of seat = option_map slot_of seat

abbrev pub seats_of : List (Option Slot) → List (Option SlotState)
seats_of slots = map seat_of slots

abbrev pub slots_in : Slots → List (Option SlotState)
slots_in s = seats_of s.items.items
