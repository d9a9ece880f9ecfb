-- What holds of every exchange, whatever the account, the sets and the units: each is the contract of a function in `laws`.
use Rattle.std.specs.Prelude.{◌≡◌, ◌≢◌, ℕ, ◌⊎◌, ◌↔◌, List, map, None, Some, slice_get}
use Rattle.std.specs.Map.{keys_of}
use Rattle.mon_access.specs.declared.account.Account.{Account}
use Rattle.mon_catalogue.specs.declared.mode.Mode.TheVariants.{Seq}
use Rattle.mon_catalogue.specs.declared.data_set.DataSet.{DataSet}
use Rattle.mon_catalogue.specs.Sets.{Sets, find_set}
use Rattle.mon_catalogue.specs.Writing.{Change, Cut, writing, change_refusal}
use Rattle.interaction.specs.declared.answer.Reason.{Reason}
use Rattle.interaction.specs.declared.answer.Reason.TheVariants.{NoUnit, InStream, SpoolUnit}
use Rattle.mon_guard.specs.Acting as acting
use Rattle.mon_guard.specs.Acting.{changed}
use Rattle.mon_guard.specs.Deciding.{to_read, to_write}
use Rattle.mon_guard.specs.Laws.{IsThere, IsGranted, WhyNotAct}
use Rattle.interaction.specs.declared.request.Act.{Act}
use Rattle.interaction.specs.declared.request.Act.TheVariants.{Read, Write, Endfile, Rewind}
use Rattle.interaction.specs.declared.request.Request.{Request}
use Rattle.interaction.specs.declared.answer.Answer.TheVariants.{Done, Got, EndOfFile, Denied, Full}
use Rattle.interaction.specs.Asking.{Asking}
use Rattle.mon_unit.specs.declared.tie.Target.{Target}
use Rattle.mon_unit.specs.declared.tie.Target.TheVariants.{Untied, Data, Spool, Set}
use Rattle.mon_unit.specs.declared.note.Why.{Why}
use Rattle.mon_unit.specs.declared.note.Why.TheVariants as why
use Rattle.mon_unit.specs.State.{UnitState}
use Rattle.mon_unit.specs.Tying.{tie_at}
use Rattle.mon_unit.specs.Serving.{Reach, unit_of, note_act, note_target, with_note, set_of, serve}
use Rattle.mon_unit.specs.Runs.{run, run_cut}
use Rattle.std.specs.Option.{option_and_then}

-- what the unit that is asked of is tied to, and its position
abbrev pub target_of : UnitState → Request → Target
target_of units q = (tie_at units (unit_of q.act)).target

abbrev pub position_of : UnitState → Request → ℕ
position_of units q = (tie_at units (unit_of q.act)).position

-- what the units are tied to, by number
abbrev pub targets : UnitState → List Target
targets units = map (λ tie. tie.target) units.ties

-- some unit is tied to the data set of this name
abbrev pub TiedTo : UnitState → List ℕ → Type 0
TiedTo units name = (u : ℕ) × (slice_get (targets units) u ≡ Some (Set name))

abbrev pub IsRead : Act → Type 0
IsRead (Read u) = Unit {0}
IsRead (Write u line) = ⊥
IsRead (Endfile u) = ⊥
IsRead (Rewind u) = ⊥

-- a line of the deck's data, or a record of a set, is got exactly where it is asked for; of a set only where the access check
-- grants r on the set as it stands
abbrev pub ReadsDeck : UnitState → Request → List ℕ → Type 0
ReadsDeck units q line =
    IsRead q.act × (target_of units q ≡ Data) × (slice_get units.deck (position_of units q) ≡ Some line)

abbrev pub ReadsSet : Account → Reach → Request → List ℕ → Type 0
ReadsSet account reach q line = (name : List ℕ) × (set : DataSet) × IsRead q.act × (target_of reach.units q ≡ Set name)
    × IsThere name reach.sets set × IsGranted account set to_read × (slice_get set.records (position_of reach.units q) ≡ Some line)

abbrev pub GotWhereGranted : Type 0
GotWhereGranted = (account : Account) (reach : Reach) (q : Request) (line : List ℕ)
    → ((serve account reach q).0 ≡ Got line) ↔ (ReadsDeck reach.units q line ⊎ ReadsSet account reach q line)

-- what an act at a position asks to be done to a set, by its mode; nothing is asked where there is no room
abbrev pub AsksChange : Act → ℕ → DataSet → Change → Type 0
AsksChange (Read u) position set change = ⊥
AsksChange (Write u line) position set change =
    (change_refusal (writing set.mode position line) set.records ≡ None) × (change ≡ writing set.mode position line)
AsksChange (Endfile u) position set change = (set.mode ≡ Seq) × (change ≡ Cut position)
AsksChange (Rewind u) position set change = ⊥

-- a set is changed exactly where that is asked and the access check grants w on the set as it stands
abbrev pub Changes : Account → Reach → Request → List ℕ → Change → Type 0
Changes account reach q name change = (set : DataSet) × (target_of reach.units q ≡ Set name)
    × IsThere name reach.sets set × IsGranted account set to_write × AsksChange q.act (position_of reach.units q) set change

pub record ChangesExactly (account : Account) (reach : Reach) (q : Request) : Type 0 where
  pub where_asked : (name : List ℕ) (change : Change) → Changes account reach q name change
      → ((serve account reach q).0 ≡ Done) × ((serve account reach q).1.sets ≡ changed name (Some change) reach.sets)
  pub else_none : ((serve account reach q).1.sets ≡ reach.sets) ⊎ ((name : List ℕ) × (change : Change) × Changes account reach q name change)

abbrev pub ChangedWhereGranted : Type 0
ChangedWhereGranted = (account : Account) (reach : Reach) (q : Request) → ChangesExactly account reach q

-- the act on the set of this name that the guard is asked for
abbrev pub AsksGuard : Act → ℕ → acting.Act → Type 0
AsksGuard (Read u) position act = act ≡ acting.Read position
AsksGuard (Write u line) position act = act ≡ acting.Write position line
AsksGuard (Endfile u) position act = act ≡ acting.End position
AsksGuard (Rewind u) position act = ⊥

abbrev pub IsOfData : Act → Type 0
IsOfData (Read u) = Unit {0}
IsOfData (Write u line) = ⊥
IsOfData (Endfile u) = ⊥
IsOfData (Rewind u) = Unit {0}

abbrev pub IsOfSpool : Act → Type 0
IsOfSpool (Read u) = ⊥
IsOfSpool (Write u line) = Unit {0}
IsOfSpool (Endfile u) = ⊥
IsOfSpool (Rewind u) = Unit {0}

-- Why not: the unit is not tied, or is none for such an act; or there is no such set, or an entry of its list
-- or its mode decides so
abbrev pub WhyDenied : Account → Reach → Request → Reason → Type 0
WhyDenied account reach q reason =
    ((target_of reach.units q ≡ Untied) × (reason ≡ NoUnit))
    ⊎ (((target_of reach.units q ≡ Data) × (¬ IsOfData q.act) × (reason ≡ InStream))
    ⊎ (((target_of reach.units q ≡ Spool) × (¬ IsOfSpool q.act) × (reason ≡ SpoolUnit))
    ⊎ ((name : List ℕ) × (act : acting.Act) × (target_of reach.units q ≡ Set name)
    × AsksGuard q.act (position_of reach.units q) act × WhyNotAct account act reach.sets name reason)))

abbrev pub DenialsSayWhy : Type 0
DenialsSayWhy = (account : Account) (reach : Reach) (q : Request) (reason : Reason)
    → ((serve account reach q).0 ≡ Denied reason) ↔ WhyDenied account reach q reason

-- one note more, and nothing else
abbrev pub IsNotedAlone : Account → Reach → Request → Why → Type 0
IsNotedAlone account reach q why = (serve account reach q).1 ≡ record reach {
  units = with_note (record { statement = q.statement; act = note_act q.act; target = note_target (unit_of q.act) (target_of reach.units q); why = why }) reach.units;
}

-- what is denied, what there is no room for and what is past the end changes nothing; the first two are noted
pub record LeavesAll (account : Account) (reach : Reach) (q : Request) : Type 0 where
  pub denied : (reason : Reason) → (serve account reach q).0 ≡ Denied reason → IsNotedAlone account reach q (why.Denied reason)
  pub full : (serve account reach q).0 ≡ Full → IsNotedAlone account reach q why.Full
  pub past : (serve account reach q).0 ≡ EndOfFile → (serve account reach q).1 ≡ reach

abbrev pub DenialsChangeNothing : Type 0
DenialsChangeNothing = (account : Account) (reach : Reach) (q : Request) → LeavesAll account reach q

-- both have the same set of this name, or none
abbrev pub Same : List ℕ → Sets → Sets → Type 0
Same name sets others = find_set name sets ≡ find_set name others

-- One look: where the one set that the request looks at is the same, so is the answer, and so are the units then; and what was
-- the same stays so. One change: no other set than that changes, and neither do the names.
pub record LooksOnce (account : Account) (own : UnitState) (q : Request) (sets others : Sets) : Type 0 where
  pub answer : (serve account (record { sets = sets; units = own }) q).0 ≡ (serve account (record { sets = others; units = own }) q).0
  pub units : (serve account (record { sets = sets; units = own }) q).1.units ≡ (serve account (record { sets = others; units = own }) q).1.units
  pub same : (name : List ℕ) → Same name sets others
      → Same name (serve account (record { sets = sets; units = own }) q).1.sets (serve account (record { sets = others; units = own }) q).1.sets

abbrev pub OneLook : Type 0
OneLook = (account : Account) (units : UnitState) (q : Request) (sets others : Sets)
    → option_and_then (λ name. find_set name sets) (set_of units q) ≡ option_and_then (λ name. find_set name others) (set_of units q)
    → LooksOnce account units q sets others

abbrev pub OneChange : Type 0
OneChange = (account : Account) (reach : Reach) (q : Request)
    → ((name : List ℕ) → set_of reach.units q ≢ Some name → Same name (serve account reach q).1.sets reach.sets)
    × (keys_of (serve account reach q).1.sets ≡ keys_of reach.sets)

-- whatever a job asks, and wherever it is broken off: its units stay tied to what they were, and a set that none is tied to is
-- not touched
pub record KeepsToTies (before after : Reach) : Type 0 where
  pub targets : targets after.units ≡ targets before.units
  pub others : (name : List ℕ) → (¬ TiedTo before.units name) → Same name after.sets before.sets
  pub names : keys_of after.sets ≡ keys_of before.sets

abbrev pub JobsKeepToTies : Type 0 → Type 0
JobsKeepToTies A = (account : Account) (talk : Asking A) (reach : Reach)
    → KeepsToTies reach (run (serve account) talk reach).1
    × ((k : ℕ) → KeepsToTies reach (run_cut (serve account) k talk reach))
