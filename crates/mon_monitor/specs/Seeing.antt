-- What is written is read (own): a line that a job wrote, and was told to be done, is what whoever may read gets at its place, until
-- the data set is written again, ended or deleted. The law `reads_see_writes` says it of all events.
use Rattle.std.specs.Prelude.{◌≡◌, ◌≢◌, ◌↔◌, ℕ, List, ◌∷◌, ◌++◌}
use Rattle.std.specs.List.{AllByRecursion}
use Rattle.interaction.specs.declared.request.Act.TheVariants.{Write}
use Rattle.interaction.specs.declared.answer.Answer.TheVariants.{Done, Got}
use Rattle.mon_catalogue.specs.declared.data_set.DataSet.{DataSet}
use Rattle.mon_guard.specs.Deciding.{to_read}
use Rattle.mon_guard.specs.Laws.{IsThere, IsGranted}
use Rattle.mon_unit.specs.declared.note.NoteAct.TheVariants as note
use Rattle.mon_unit.specs.declared.tie.Target.TheVariants.{Set}
use Rattle.mon_unit.specs.Serving.{note_act}
use Rattle.mon_unit.specs.Laws.{target_of, position_of, IsRead}
use Rattle.scheduler.specs.Marks.{Marks}
use Rattle.mon_monitor.specs.SystemStates.{SystemState}
use Rattle.mon_monitor.specs.Events.{Event}
use Rattle.scheduler.specs.Exchanged.{Exchanged}
use Rattle.mon_monitor.specs.History.{Entry, Asked, Ordered, history}
use Rattle.mon_monitor.specs.Answering.{before}
use Rattle.mon_monitor.specs.Appending.{HasDeleted}

-- it wrote this line to the data set of this name, to this place, and was told that it is done
abbrev pub Wrote : List ℕ → List ℕ → ℕ → Exchanged → Type 0
Wrote name line place e = (u : ℕ) × (set : DataSet) × (e.request.act ≡ Write u line) × (target_of e.reach.units e.request ≡ Set name)
    × IsThere name e.reach.sets set × (place ≡ before set.mode (position_of e.reach.units e.request) set.records) × (e.answer ≡ Done)

-- it reads the data set of this name at this place
abbrev pub ReadsAt : List ℕ → ℕ → Exchanged → Type 0
ReadsAt name place e = IsRead e.request.act × (target_of e.reach.units e.request ≡ Set name) × (position_of e.reach.units e.request ≡ place)

-- the data set of this name is written, ended or deleted: that is asked, and done
abbrev pub Overwrites : List ℕ → Entry → Type 0
Overwrites name (Asked e) = (target_of e.reach.units e.request ≡ Set name) × (note_act e.request.act ≢ note.Rewind) × (e.answer ≡ Done)
Overwrites name (Ordered known sets command answer) = HasDeleted name command answer
Overwrites name _ = ⊥

-- Wherever one of these entries wrote a line, and a later one reads at that place with nothing between that overwrites the data set,
-- the data set is there, and the line is got exactly where r is granted by the list that it has then.
abbrev pub SeesWrites : List Entry → Type 0
SeesWrites entries = (before between after : List Entry) (wrote reads : Exchanged) (name line : List ℕ) (place : ℕ)
    → entries ≡ before ++ Asked wrote ∷ (between ++ Asked reads ∷ after)
    → Wrote name line place wrote → AllByRecursion (λ entry. ¬ Overwrites name entry) between → ReadsAt name place reads
    → (set : DataSet) × IsThere name reads.reach.sets set × ((reads.answer ≡ Got line) ↔ IsGranted reads.account set to_read)

-- From any system on, wherever memory breaks turns off.
abbrev pub ReadsSeeWrites : Type 0
ReadsSeeWrites = (events : List Event) (m : Marks) (w : SystemState) → SeesWrites (history events m w)
