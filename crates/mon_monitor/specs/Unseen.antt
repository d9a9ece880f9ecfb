-- What one call promises of what an account may not see (own): nothing of it shows in the answer, and nothing later. Here a call on
-- the system w has answered `told` and left w'; v is any system that the account can't tell from w.
use Rattle.std.specs.Prelude.{◌≡◌, ℕ, List, Option, Result}
use Rattle.mon_access.specs.declared.account.Account.{Account}
use Rattle.deck_lines.specs.declared.command.Command.{Command}
use Rattle.deck_lines.specs.Commands.{account_of}
use Rattle.mon_command.specs.Commanded.{commanded}
use Rattle.deck_syntax.specs.declared.job_deck.JobDeck.{JobDeck}
use Rattle.load_refusal.specs.declared.load_error.LoadError.{LoadError}
use Rattle.job_end.specs.declared.turned.Turned.{Turned}
use Rattle.scheduler.specs.Marks.{Mark, turn_as}
use Rattle.mon_monitor.specs.SystemStates.{SystemState, with_scheduler, with_sets}
use Rattle.mon_monitor.specs.Played.{loading}
use Rattle.mon_monitor.specs.Agreeing.{Agree}

-- a command: its printout, and the system then
abbrev pub commanding : Command → SystemState → List ℕ × SystemState
commanding command w =
    let c = commanded w.accounts w.scheduler.sets command in
    (c.printout, with_sets w c.sets)

-- one turn, perhaps broken off: what it did, and the system then
abbrev pub turning : Option Mark → ℕ → SystemState → Turned × SystemState
turning m s w =
    let t = turn_as m s w.scheduler in
    (t.0, with_scheduler w t.1)

-- the same answer, and a system that the account can't tell from w'
pub record SameAgain {A : Type 0} (account : Account) (told : A) (w' : SystemState) (again : A × SystemState) : Type 0 where
  pub answer : again.0 ≡ told
  pub after : Agree account w' again.1

-- a command of the account
pub record CommandIsolated (command : Command) (w : SystemState) (told : List ℕ) (w' : SystemState) : Type 0 where
  pub same : (account : Account) (v : SystemState) → Agree account w v → account_of command ≡ account.name → SameAgain account told w' (commanding command v)

-- a job of the account, which was loaded or refused
pub record LoadIsolated (deck : JobDeck) (w : SystemState) (told : Result ℕ LoadError) (w' : SystemState) : Type 0 where
  pub same : (account : Account) (v : SystemState) → Agree account w v → deck.account ≡ account.name → SameAgain account told w' (loading deck v)

-- One turn, which took this mark: where memory broke it off, it is broken off in v, too, at the same place. The job is the
-- account's, as all are in systems that agree for it.
pub record TurnIsolated (s : ℕ) (w : SystemState) (told : Turned) (w' : SystemState) : Type 0 where
  pub mark : Option Mark
  pub is : turning mark s w ≡ (told, w')
  pub same : (account : Account) (v : SystemState) → Agree account w v → SameAgain account told w' (turning mark s v)
