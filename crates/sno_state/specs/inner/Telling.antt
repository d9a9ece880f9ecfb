-- How a match is told of the state of a job, beside the service: both go from a first pair to a second.
use Rattle.std.specs.Prelude.{◌≡◌, Result, Ok, Err}
use Rattle.sno_pattern.specs.declared.host.Looked.{Looked}
use Rattle.sno_pattern.specs.declared.host.Stop.{Stop}
use Rattle.sno_pattern.specs.declared.host.Stop.TheVariants as stop
use Rattle.interaction.specs.declared.request.Request.{Request}
use Rattle.interaction.specs.declared.answer.Answer.{Answer}
use Rattle.interaction.specs.Asking.{RunsTo, StopsIn}
use Rattle.sno_pattern.specs.Looks.{Look, Told, Found, Faulty, Refused}
use Rattle.sno_store.specs.declared.store.Store.{Store as State}
use Rattle.sno_state.specs.Matching.{looking}

-- what a value that is looked up tells, or why none does; nothing where memory was short
abbrev pub Looks : Result Looked Stop → Told → Type 0
Looks (Ok looked) told = told ≡ Found looked
Looks (Err (stop.Fault f)) told = told ≡ Faulty f
Looks (Err stop.Fail) told = told ≡ Refused
Looks (Err stop.Memory) told = Unit {0}

abbrev pub StateTells : {S : Type 0} → (S → Request → Answer → S → Type 0) → State × S → Look → Told → State × S → Type 0
StateTells answers p look told q = RunsTo answers (looking look p.0) p.1 (told, q.0) q.1

abbrev pub StateBroken : {S : Type 0} → (S → Request → Answer → S → Type 0) → State × S → Look → State × S → Type 0
StateBroken answers p look q = StopsIn answers (looking look p.0) p.1 q.1
