-- How a request is answered (own). It looks at one data set at the most, as that stands then, and changes that one at the most.
use Rattle.std.specs.Prelude.{ℕ, List, [], ◌∷◌, ◌++◌, Option, Some, None, slice_get}
use Rattle.mon_access.specs.declared.account.Account.{Account}
use Rattle.mon_catalogue.specs.declared.data_set.DataSet.{DataSet}
use Rattle.mon_catalogue.specs.Sets.{Sets, find_set}
use Rattle.interaction.specs.declared.answer.Reason.TheVariants.{NoUnit, InStream, SpoolUnit}
use Rattle.interaction.specs.declared.answer.Answer.{Answer}
use Rattle.interaction.specs.declared.answer.Answer.TheVariants.{Done, Denied, Full}
use Rattle.mon_guard.specs.Acting as acting
use Rattle.mon_guard.specs.Acting.{Acted, only_answered, read_at, acted_on, changed}
use Rattle.interaction.specs.declared.request.Act.{Act}
use Rattle.interaction.specs.declared.request.Act.TheVariants.{Read, Write, Endfile, Rewind}
use Rattle.interaction.specs.declared.request.Request.{Request}
use Rattle.mon_unit.specs.declared.tie.Target.{Target}
use Rattle.mon_unit.specs.declared.tie.Target.TheVariants.{Untied, Data, Spool, Set}
use Rattle.mon_unit.specs.declared.note.NoteAct.{NoteAct}
use Rattle.mon_unit.specs.declared.note.NoteAct.TheVariants as act
use Rattle.mon_unit.specs.declared.note.NoteTarget.{NoteTarget}
use Rattle.mon_unit.specs.declared.note.NoteTarget.TheVariants as of
use Rattle.mon_unit.specs.declared.note.Why.TheVariants as why
use Rattle.mon_unit.specs.declared.note.Note.{Note}
use Rattle.mon_unit.specs.State.{UnitState}
use Rattle.mon_unit.specs.Tying.{tie_at, with_tie}
use Rattle.std.specs.Option.{option_and_then, option_map_or}

-- what a job's requests reach: the data sets, and its own units
pub record Reach : Type 0 where
  pub sets : Sets
  pub units : UnitState

abbrev pub unit_of : Act → ℕ
unit_of act = elim act [ Read u ↦ u | Write u line ↦ u | Endfile u ↦ u | Rewind u ↦ u ]

abbrev pub note_act : Act → NoteAct
note_act asked = elim asked [ Read u ↦ act.Read | Write u line ↦ act.Write | Endfile u ↦ act.Endfile | Rewind u ↦ act.Rewind ]

-- a note names the data set, or the unit where that is tied to none
abbrev pub note_target : ℕ → Target → NoteTarget
note_target u tied = elim tied [ Set name ↦ of.Set name | target ↦ of.Unit u ]

abbrev pub with_note : Note → UnitState → UnitState
with_note note units = record units { notes = units.notes ++ note ∷ [] }

-- what is denied and what there is no room for adds one note
abbrev pub noted : ℕ → NoteAct → NoteTarget → Answer → UnitState → UnitState
noted statement act target (Denied reason) units = with_note (record { statement = statement; act = act; target = target; why = why.Denied reason }) units
noted statement act target Full units = with_note (record { statement = statement; act = act; target = target; why = why.Full }) units
noted statement act target answer units = units

-- the unit's position, where it moves
abbrev pub moved : ℕ → Option ℕ → UnitState → UnitState
moved u position units = option_map_or (λ p. with_tie u (record (tie_at units u) { position = p }) units) position units

-- a line that is written to the spool is its last one
abbrev pub spooled : Act → Target → UnitState → UnitState
spooled (Write u line) Spool units = record units { spool = units.spool ++ line ∷ [] }
spooled act target units = units

-- back to the first record
abbrev pub rewound : Acted
rewound = record { answer = Done; position = Some 0; change = None }

-- a data set is asked for by the guard; to go back it isn't looked up
abbrev pub on_set : Account → Act → ℕ → Option DataSet → Acted
on_set account (Read u) position set = acted_on account (acting.Read position) set
on_set account (Write u line) position set = acted_on account (acting.Write position line) set
on_set account (Endfile u) position set = acted_on account (acting.End position) set
on_set account (Rewind u) position set = rewound

-- what an act comes to, by what its unit is tied to: the deck's data are read alone, and the spool is written alone
abbrev pub acted_at : Account → Act → UnitState → ℕ → Target → Option DataSet → Acted
acted_at account act units position Untied set = only_answered (Denied NoUnit)
acted_at account act units position Data set =
    elim act [ Read u ↦ read_at position (slice_get units.deck position) | Rewind u ↦ rewound | other ↦ only_answered (Denied InStream) ]
acted_at account act units position Spool set =
    elim act [ Read u ↦ only_answered (Denied SpoolUnit) | Endfile u ↦ only_answered (Denied SpoolUnit) | other ↦ only_answered Done ]
acted_at account act units position (Set name) set = on_set account act position set

-- the one data set that a request looks at: that of its unit's tie, but to go back none
abbrev pub set_at : Act → Target → Option (List ℕ)
set_at act target = elim target [ Set name ↦ elim act [ Rewind u ↦ None | other ↦ Some name ] | other ↦ None ]

abbrev pub set_of : UnitState → Request → Option (List ℕ)
set_of units q = set_at q.act (tie_at units (unit_of q.act)).target

-- AN EXCHANGE: the answer to an account's request, and what the requests reach then
abbrev pub serve : Account → Reach → Request → Answer × Reach
serve account reach q =
    let u = unit_of q.act in
    let tie = tie_at reach.units u in
    let acted = acted_at account q.act reach.units tie.position tie.target (option_and_then (λ name. find_set name reach.sets) (set_of reach.units q)) in
    let sets = option_map_or (λ name. changed name acted.change reach.sets) (set_of reach.units q) reach.sets in
    let units = noted q.statement (note_act q.act) (note_target u tie.target) acted.answer (moved u acted.position (spooled q.act tie.target reach.units)) in
    (acted.answer, record { sets = sets; units = units })
