-- What an account may neither read nor count does not show in what it is answered, and in what is printed for it (own).
-- Nothing is claimed of other accounts' events between its own. Each law is the contract of a function in `isolation`.
use Rattle.std.specs.Prelude.{◌≡◌, ℕ, List, Option}
use Rattle.std.specs.List.{AllByRecursion}
use Rattle.mon_access.specs.declared.account.Account.{Account}
use Rattle.interaction.specs.declared.request.Request.{Request}
use Rattle.deck_lines.specs.declared.command.Command.{Command}
use Rattle.deck_lines.specs.Commands.{account_of}
use Rattle.mon_command.specs.Commanded.{commanded}
use Rattle.deck_syntax.specs.declared.job_deck.JobDeck.{JobDeck}
use Rattle.mon_unit.specs.Serving.{Reach, serve}
use Rattle.mon_unit.specs.Laws.{Same}
use Rattle.scheduler.specs.Marks.{Mark, Marks, turn_as}
use Rattle.mon_monitor.specs.SystemStates.{SystemState, with_scheduler, with_sets}
use Rattle.mon_monitor.specs.Events.{Event, Serve, Load, Give, Drain}
use Rattle.mon_monitor.specs.Played.{loading, played}
use Rattle.mon_monitor.specs.Agreeing.{ReachesAgree, Agree}

-- one request of a job of the account: one answer in both, which agree again; and what was the same stays so
pub record RequestAgrees (account : Account) (reach other : Reach) (q : Request) : Type 0 where
  pub answer : (serve account reach q).0 ≡ (serve account other q).0
  pub after : ReachesAgree account (serve account reach q).1 (serve account other q).1
  pub same : (name : List ℕ) → Same name reach.sets other.sets → Same name (serve account reach q).1.sets (serve account other q).1.sets

abbrev pub RequestsAgree : Type 0
RequestsAgree = (account : Account) (reach other : Reach) → ReachesAgree account reach other → (q : Request) → RequestAgrees account reach other q

-- one command of the account: one printout in both, which agree again
pub record CommandAgrees (account : Account) (w v : SystemState) (command : Command) : Type 0 where
  pub printout : (commanded w.accounts w.scheduler.sets command).printout ≡ (commanded v.accounts v.scheduler.sets command).printout
  pub after : Agree account (with_sets w (commanded w.accounts w.scheduler.sets command).sets) (with_sets v (commanded v.accounts v.scheduler.sets command).sets)

abbrev pub CommandsAgree : Type 0
CommandsAgree = (account : Account) (w v : SystemState) → Agree account w v → (command : Command) → account_of command ≡ account.name
    → CommandAgrees account w v command

-- a job of the account that is loaded: into one slot, or refused alike
pub record LoadAgrees (account : Account) (w v : SystemState) (deck : JobDeck) : Type 0 where
  pub answer : (loading deck w).0 ≡ (loading deck v).0
  pub after : Agree account (loading deck w).1 (loading deck v).1

abbrev pub LoadsAgree : Type 0
LoadsAgree = (account : Account) (w v : SystemState) → Agree account w v → (deck : JobDeck) → deck.account ≡ account.name → LoadAgrees account w v deck

-- a turn, also one that memory breaks off: it ends the job alike, or not
pub record TurnAgrees (account : Account) (w v : SystemState) (m : Option Mark) (s : ℕ) : Type 0 where
  pub answer : (turn_as m s w.scheduler).0 ≡ (turn_as m s v.scheduler).0
  pub after : Agree account (with_scheduler w (turn_as m s w.scheduler).1) (with_scheduler v (turn_as m s v.scheduler).1)

abbrev pub TurnsAgree : Type 0
TurnsAgree = (account : Account) (w v : SystemState) → Agree account w v → (m : Option Mark) (s : ℕ) → TurnAgrees account w v m s

-- an event of the account's own: its command, its job that is loaded, and turns, as all jobs are its own
abbrev pub IsOwn : Account → Event → Type 0
IsOwn account (Serve command) = account_of command ≡ account.name
IsOwn account (Load deck) = deck.account ≡ account.name
IsOwn account (Give slot count) = Unit {0}
IsOwn account Drain = Unit {0}

-- Any events of its own, wherever memory breaks turns off: the same printouts are printed, the same marks are left, and the systems
-- agree again.
pub record PlayedAlike (account : Account) (w v : SystemState) (E : List Event) (m : Marks) : Type 0 where
  pub printouts : (played E m w).printouts ≡ (played E m v).printouts
  pub marks : (played E m w).marks ≡ (played E m v).marks
  pub after : Agree account (played E m w).after (played E m v).after

abbrev pub Isolated : Type 0
Isolated = (account : Account) (w v : SystemState) → Agree account w v → (E : List Event) → AllByRecursion (IsOwn account) E → (m : Marks)
    → PlayedAlike account w v E m
