-- What the calls promise: what happens is what the definitions say, with some marks.
use Rattle.std.specs.Prelude.{◌≡◌, ℕ, List, [], ◌++◌}
use Rattle.mon_device.specs.Putting.{Standing, Puts}
use Rattle.scheduler.specs.Marks.{Marks}
use Rattle.mon_monitor.specs.SystemStates.{SystemState}
use Rattle.mon_catalogue.specs.Sets.{Sets}
use Rattle.mon_monitor.specs.Events.{Event, Drain}
use Rattle.mon_monitor.specs.Printouts.{Printout, printouts_text}
use Rattle.mon_monitor.specs.Printed.{given_back}
use Rattle.mon_monitor.specs.Played.{Played, happened}
use Rattle.mon_monitor.specs.Audit.{event_lines}

-- With some marks, and whatever marks come behind these: these printouts are printed behind what was there before, this system is
-- left, and so are the marks behind; and what this tells an audit was put to one, whose sink stands as a says before and as b says then.
pub record Does (act : Marks → SystemState → Played) (tell : Marks → SystemState → List ℕ) (w : SystemState) (before : List ℕ) (w' : SystemState) (after : List ℕ)
    (a b : Standing) : Type 0 where
  pub marks : Marks
  pub printouts : List Printout
  pub is : (rest : Marks) → act (marks ++ rest) w ≡ record { printouts = printouts; after = w'; marks = rest }
  pub printed : after ≡ before ++ printouts_text printouts
  pub lines : List ℕ
  pub tells : (rest : Marks) → tell (marks ++ rest) w ≡ lines
  pub audited : Puts a b lines

-- an event has happened
abbrev pub Happens : Event → SystemState → List ℕ → SystemState → List ℕ → Standing → Standing → Type 0
Happens event w before w' after a b = Does (happened event) (event_lines event) w before w' after a b

-- and it took no mark
abbrev pub HappensUnmarked : Event → SystemState → List ℕ → SystemState → List ℕ → Standing → Standing → Type 0
HappensUnmarked event w before w' after a b = (h : Happens event w before w' after a b) × (h.marks ≡ [])

-- Where memory ran out: with some marks, and whatever marks come behind these, a beginning of what this tells an audit was put to one.
pub record Breaks (tell : Marks → SystemState → List ℕ) (w : SystemState) (a b : Standing) : Type 0 where
  pub marks : Marks
  pub lines : List ℕ
  pub begins : (rest : Marks) → (more : List ℕ) × (tell (marks ++ rest) w ≡ lines ++ more)
  pub audited : Puts a b lines

-- The slots were emptied, and behind what that printed these data sets are given back, which are those that stood then.
pub record Closes (w : SystemState) (before : List ℕ) (sets : Sets) (after : List ℕ) (a b : Standing) : Type 0 where
  pub left : SystemState
  pub text : List ℕ
  pub drained : Happens Drain w before left text a b
  pub same : sets ≡ left.scheduler.sets
  pub printed : after ≡ text ++ given_back sets
