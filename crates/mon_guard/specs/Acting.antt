-- What a job does to the records of a data set: it reads at a position, writes a line, or ends the set at a position (own).
-- Reading asks r; writing and ending ask w. Positions are counted from 0. A set of mode SEQ is written at the position; one of
-- mode APPEND is written at its end, and can't be ended.
use Rattle.std.specs.Prelude.{ℕ, ◌+◌, List, length, Option, None, Some, Ok, Err, slice_get}
use Rattle.std.specs.Option.{option_map_or}
use Rattle.mon_acl.specs.declared.entries.Perms.{Perms}
use Rattle.mon_access.specs.declared.account.Account.{Account}
use Rattle.mon_catalogue.specs.declared.mode.Mode.TheVariants.{Seq, Append}
use Rattle.mon_catalogue.specs.declared.data_set.DataSet.{DataSet}
use Rattle.mon_catalogue.specs.declared.data_set.SetFull.{SetFull}
use Rattle.mon_catalogue.specs.Sets.{Sets, find_set}
use Rattle.mon_catalogue.specs.Changes.{with_changed}
use Rattle.mon_catalogue.specs.Writing.{Change, Put, Cut, Add, writing, change_refusal, recorded, records_after}
use Rattle.interaction.specs.declared.answer.Reason.TheVariants as reason
use Rattle.interaction.specs.declared.answer.Answer.{Answer}
use Rattle.interaction.specs.declared.answer.Answer.TheVariants.{Done, Got, EndOfFile, Denied, Full}
use Rattle.mon_guard.specs.declared.answer.Answered.{Answered}
use Rattle.mon_guard.specs.Deciding.{to_read, to_write, where_granted}

pub data Act : Type 0 where
  Read : (position : ℕ) → Act
  Write : (position : ℕ) (line : List ℕ) → Act
  End : (position : ℕ) → Act

-- what an act comes to: its answer, where the position moves to, and what is done to the records
pub record Acted : Type 0 where
  pub answer : Answer
  pub position : Option ℕ
  pub change : Option Change

-- nothing moves and nothing changes
abbrev pub only_answered : Answer → Acted
only_answered answer = record { answer = answer; position = None; change = None }

-- the record at the position, which then is the next one's
abbrev pub read_at : ℕ → Option (List ℕ) → Acted
read_at position None = only_answered EndOfFile
read_at position (Some line) = record { answer = Got line; position = Some (position + 1); change = None }

-- a change of these records, where there is room for it; the position moves behind what was put there, or behind what is left,
-- and where a line was added it stays
abbrev pub changing : Change → List (List ℕ) → Acted
changing change records =
    option_map_or (λ _. only_answered Full) (change_refusal change records)
    (record { answer = Done; position = elim change [ Add line ↦ None | put ↦ Some (length (records_after put records)) ]; change = Some change })

abbrev pub asks : Act → Perms
asks asked = elim asked [ Read position ↦ to_read | act ↦ to_write ]

-- what is granted, by the set's mode: at the end of a set the records before the position stay; of a set that is only added to all
abbrev pub done : Act → DataSet → Acted
done (Read position) set = read_at position (slice_get set.records position)
done (Write position line) set = changing (writing set.mode position line) set.records
done (End position) set = elim set.mode [ Seq ↦ changing (Cut position) set.records | Append ↦ only_answered (Denied reason.Mode) ]

-- an act on a set: done where the access check grants it on the list as it stands, and else denied
abbrev pub acted_on : Account → Act → Option DataSet → Acted
acted_on account act found =
    option_map_or (λ set. elim (where_granted account (asks act) set (done act set)) [ Ok acted ↦ acted | Err why ↦ only_answered (Denied why) ]) found
    (only_answered (Denied reason.NoSet))

-- on the set of this name
abbrev pub acted : Account → Act → Sets → List ℕ → Acted
acted account act sets name = acted_on account act (find_set name sets)

-- the set as the act leaves it
abbrev pub left : Option Change → DataSet → DataSet
left None set = set
left (Some change) set = recorded change set

-- the sets as the act leaves them: no other set than that of the name changes
abbrev pub changed : List ℕ → Option Change → Sets → Sets
changed name change sets = option_map_or (λ c. with_changed name (recorded c) sets) change sets

abbrev pub moved : ℕ → Option ℕ → ℕ
moved position None = position
moved position (Some next) = next

-- what is told of it
abbrev pub told : ℕ → Acted → Answered
told position acted = record { answer = acted.answer; position = moved position acted.position }
