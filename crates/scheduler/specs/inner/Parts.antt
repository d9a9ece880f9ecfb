-- Parts of the definitions by names of their own: for the code and for proofs.
use Rattle.std.specs.Prelude.{ℕ, Bool, if◌then◌else◌, List, ◌++◌, take, Option, option_map, option_and_then}
use Rattle.mon_catalogue.specs.Sets.{Sets}
use Rattle.scheduler.specs.States.{SlotState}
use Rattle.scheduler.specs.Marks.{Mark, exchanges_at, Past}
use Rattle.scheduler.specs.Exchanged.{Exchanged, whole_turn}
use Rattle.sno_syntax.specs.Programs.{Program}
use Rattle.mon_access.specs.declared.account.Account.{Account}
use Rattle.deck_syntax.specs.declared.job_deck.JobDeck.{JobDeck}
use Rattle.scheduler.specs.Loads.{loaded_slot}
use Rattle.job_end.specs.declared.job_end.JobEnd.{JobEnd}

-- so much of it as was answered, where memory broke the turn off
abbrev pub broken_turn : Bool → Mark → SlotState → Sets → List Exchanged
broken_turn breaks m slot sets = if breaks then take (exchanges_at m slot sets) (whole_turn slot sets) else whole_turn slot sets

abbrev pub slot_by : JobDeck → Option Account → Option Program → Option SlotState
slot_by deck account program = option_and_then (λ a. option_map (loaded_slot a deck) program) account

abbrev pub ends_then : List (ℕ × JobEnd) → Past → Past
ends_then ends p = record { ends = ends ++ p.ends; after = p.after; marks = p.marks }
