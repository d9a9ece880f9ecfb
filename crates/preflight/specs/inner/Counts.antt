-- What was counted of a text so far, and what a line more makes of that.
use Rattle.std.specs.Prelude.{◌≡◌, ℕ, ◌+◌, ◌*◌, ◌<◌, ◌≤◌, ◌^◌, max, List, ◌++◌, Option, Some, None, Result, Ok, Err}
use Rattle.mon_text.specs.declared.stop.Stop.{Stop}
use Rattle.mon_text.specs.declared.stop.Stop.TheVariants as stop
use Rattle.sno_cards.specs.declared.limits.Limits.{Limits}
use Rattle.deck_syntax.specs.Decks.{Asked}
use Rattle.deck_syntax.specs.Sections.{Open, Closed}
use Rattle.preflight.specs.declared.tally.Tally.{Tally}
use Rattle.preflight.specs.declared.intake.Counts.{Counts}
use Rattle.preflight.specs.declared.why.Why.{Why}
use Rattle.preflight.specs.declared.why.Why.TheVariants.{Unfinished}
use Rattle.preflight.specs.declared.why.Refusal.{Refusal}
use Rattle.preflight.specs.Submissions.{IfStopped}
use Rattle.preflight.specs.Tallies.{tally_of}

-- lines give so much at the most
pub record IsBelow (lines : ℕ) (tally : Tally) : Type 0 where
  pub jobs : tally.jobs < lines
  pub creates : tally.creates < lines
  pub statements : tally.statements ≤ 10000000 * lines
  pub largest : tally.largest ≤ 100000000000000
  pub work : tally.work ≤ 100000000000000 * lines

-- one more line can be counted
pub record HasRoom (counts : Counts) : Type 0 where
  pub few : counts.number < 2 ^ 63
  pub below : IsBelow counts.number counts.tally

-- one line more, which asks for nothing that is counted
abbrev pub one_line : Counts → Counts
one_line counts = record counts { number = counts.number + 1 }

-- the line of a `$CREATE` card
abbrev pub one_creation : Counts → Counts
one_creation counts = record { number = counts.number + 1; tally = record counts.tally { creates = counts.tally.creates + 1 } }

-- the last line of a job with these limits
abbrev pub one_job : Counts → Limits → Counts
one_job counts limits =
    let work = limits.statements * limits.steps in
    record {
      number = counts.number + 1;
      tally = record counts.tally {
        jobs = counts.tally.jobs + 1;
        statements = counts.tally.statements + limits.statements;
        largest = max counts.tally.largest work;
        work = counts.tally.work + work;
      };
    }

-- one line further on, with this asked, the tally is still of all that is asked
pub record Counted (before after : Counts) (asked : List Asked) : Type 0 where
  pub number : after.number ≡ before.number + 1
  pub below : IsBelow before.number before.tally → IsBelow after.number after.tally
  pub tally : (front : List Asked) → before.tally ≡ tally_of front 0 → after.tally ≡ tally_of (front ++ asked) 0

-- what was answered is what this refusal says, unless memory ran out
abbrev pub Answers : {T : Type 0} → Option Why → Result T (Stop Why) → Type 0
Answers refusal (Ok x) = refusal ≡ None
Answers refusal (Err stop) = IfStopped (λ why. refusal ≡ Some why) stop

-- a refusal of line n, or want of memory
abbrev pub refusal_at : ℕ → Stop Why → Stop Refusal
refusal_at n stop.Memory = stop.Memory
refusal_at n (stop.Refused why) = stop.Refused (record { line = n; why = why })

-- what is answered at the end of a text
abbrev pub ended : Open → Counts → Result Tally (Stop Refusal)
ended Closed counts = Ok counts.tally
ended _ counts = Err (stop.Refused (record { line = counts.number; why = Unfinished }))
