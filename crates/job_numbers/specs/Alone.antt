-- A part of a round as a deck by itself (own): it numbers its jobs from 1, where the round numbers them behind those of all texts before.
use Rattle.std.specs.Prelude.{◌≡◌, ℕ, suc, ◌+◌, ◌==◌, false, List, [], ◌∷◌, ◌++◌, map, if◌then◌else◌}
use Rattle.mon_access.specs.declared.account.Account.{Account}
use Rattle.mon_catalogue.specs.Sets.{Sets}
use Rattle.scheduler.specs.Marks.{Marks}
use Rattle.mon_monitor.specs.Printed.{given_back}
use Rattle.mon_monitor.specs.Printouts.{Printout, printouts_text}
use Rattle.deck_driver.specs.declared.options.Options.{Options}
use Rattle.deck_driver.specs.Printouts.{output_of}
use Rattle.deck_run.specs.Laws.{jobs_in}
use Rattle.preflight.specs.declared.submission.Submission.{Submission}
use Rattle.preflight.specs.Rounds.{Handed}
use Rattle.parts_laws.specs.Picking.{part_of}
use Rattle.parts_laws.specs.Runs.{Split}
use Rattle.rounds.specs.Compositions.{round_text, IsGoodRound, ends_of, cut_at}
use Rattle.round_parts.specs.Outputs.{part}
use Rattle.job_numbers.specs.Numbers.{printout_as}

-- the texts of a part, of those from this place on
abbrev pub texts_of_part : Split (List ℕ) → ℕ → ℕ → List Handed → List Handed
texts_of_part split k n [] = []
texts_of_part split k n (text ∷ texts) = if split.of_text n == k then text ∷ texts_of_part split k (suc n) texts else texts_of_part split k (suc n) texts

-- how many jobs stand before each of them in the round
abbrev pub jobs_before : Split (List ℕ) → ℕ → ℕ → ℕ → List Handed → List ℕ
jobs_before split k n jobs [] = []
jobs_before split k n jobs (text ∷ texts) =
    if split.of_text n == k then jobs ∷ jobs_before split k (suc n) (jobs + jobs_in text.asked) texts
    else jobs_before split k (suc n) (jobs + jobs_in text.asked) texts

-- how many stand before each text of a deck
abbrev pub jobs_ahead : ℕ → List Handed → List ℕ
jobs_ahead jobs [] = []
jobs_ahead jobs (text ∷ texts) = jobs ∷ jobs_ahead (jobs + jobs_in text.asked) texts

-- of each text its printouts, with the numbers of its jobs behind so many
abbrev pub printed_behind : List ℕ → List (List Printout) → List (List ℕ)
printed_behind [] told = []
printed_behind (jobs ∷ before) [] = []
printed_behind (jobs ∷ before) (printouts ∷ told) = printouts_text (map (printout_as (λ n. jobs + n)) printouts) ∷ printed_behind before told

-- With the printouts of the part's texts, each by itself: cut where they end, the output of the part's own deck has them behind the jobs
-- before them in it, and then the data sets that the part leaves; and behind the jobs before them in the round they are what is told of
-- the part in the round.
pub record RunsAlone (options : Options) (accounts : List Account) (split : Split (List ℕ)) (handed : List Handed) (sets : Sets) (marks : ℕ → Marks)
    (k : ℕ) (head : List ℕ) (submissions : List Submission) : Type 0 where
  pub alone : List (List Printout)
  pub own : cut_at 0 (ends_of options (marks k) head submissions) (output_of options (marks k) (round_text head submissions))
      ≡ printed_behind (jobs_ahead 0 (texts_of_part split k 0 handed)) alone
      ++ given_back (part options.slots.number accounts split handed sets marks k).sets ∷ []
  pub whole : map (λ e. printouts_text e.1.printouts) (part options.slots.number accounts split handed sets marks k).printed
      ≡ printed_behind (jobs_before split k 0 0 handed) alone

-- of each part, by a good deck of its data sets and texts
abbrev pub PartsRunAlone : Type 0
PartsRunAlone = (options : Options) (accounts : List Account) (split : Split (List ℕ)) (handed : List Handed) (sets : Sets) (marks : ℕ → Marks)
    (k : ℕ) (head : List ℕ) (submissions : List Submission) (table : List (List ℕ)) → options.check ≡ false
    → IsGoodRound head submissions table accounts (part_of split.of_name k sets) (texts_of_part split k 0 handed)
    → RunsAlone options accounts split handed sets marks k head submissions
