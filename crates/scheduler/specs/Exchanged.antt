-- What jobs ask in their turns (own): each request over the data sets as they stand then, with what was answered.
use Rattle.std.specs.Prelude.{ℕ, List, [], ◌∷◌, take, if◌then◌else◌, Option, Some, None}
use Rattle.interaction.specs.Interactions.{Returns, Asks}
use Rattle.interaction.specs.Asking.{Asking}
use Rattle.interaction.specs.declared.request.Request.{Request}
use Rattle.interaction.specs.declared.answer.Answer.{Answer}
use Rattle.sno_run.specs.Jobs.{turn_of}
use Rattle.mon_access.specs.declared.account.Account.{Account}
use Rattle.mon_catalogue.specs.Sets.{Sets}
use Rattle.mon_unit.specs.Serving.{Reach, serve}
use Rattle.scheduler.specs.States.{SlotState}
use Rattle.scheduler.specs.Turns.{reached}
use Rattle.scheduler.specs.Marks.{Mark, exchanges_at, may_break}

-- a request of a job: the job's number, the account that it is for, what its requests reach then, what it asks, and the answer
pub record Exchanged : Type 0 where
  pub number : ℕ
  pub account : Account
  pub reach : Reach
  pub request : Request
  pub answer : Answer

-- all that a program asks, each answered by `serve`
abbrev pub asked_by : {A : Type 0} → ℕ → Account → Asking A → Reach → List Exchanged
asked_by n account (Returns a) reach = []
asked_by n account (Asks q f) reach =
    record { number = n; account = account; reach = reach; request = q; answer = (serve account reach q).0 }
    ∷ asked_by n account (f (serve account reach q).0) (serve account reach q).1

-- what a job asks in a turn
abbrev pub whole_turn : SlotState → Sets → List Exchanged
whole_turn slot sets = asked_by slot.number slot.account (turn_of slot.job) (reached sets slot)

-- what is asked in a turn of a slot: nothing, where no job sits there; where a mark says that memory breaks it off, what was answered
abbrev pub asked_in : Option Mark → Option SlotState → Sets → List Exchanged
asked_in m None sets = []
asked_in None (Some slot) sets = whole_turn slot sets
asked_in (Some m) (Some slot) sets = if may_break slot.job then take (exchanges_at m slot sets) (whole_turn slot sets) else whole_turn slot sets
