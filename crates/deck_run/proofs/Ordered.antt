-- What the cards of a deck print stands one after the other.
use Rattle.std.proofs.Common.{◌≡◌, ℕ, suc, ◌+◌, Bool, true, false, if◌then◌else◌, List, [], ◌∷◌, ◌++◌, refl, ap, ◌∙◌, arith, append_assoc}
use Rattle.std.proofs.lemmas.List.Concat.{flat_map-append}
use Rattle.scheduler.specs.Marks.{Marks}
use Rattle.mon_monitor.specs.{SystemStates.{SystemState}, Events.{Event, Serve, Load, Give, Drain}, Printouts.{Printout, printout_text, printouts_text}}
use Rattle.mon_monitor.specs.{Played.{Played, played}, Laws.{AsUnmarked, CardByCard, PlayedUnmarked}}
use Rattle.deck_syntax.specs.{Decks.{Asked, Commands, Enters, Gives, Drains, Ending}, Jobs.{job_deck_of}}
use Rattle.deck_driver.specs.{declared.options.Options.{Options}, RunStates.{RunState, events_of, events_in, played_run_state}}
use Rattle.deck_driver.{proofs.Verdicts.{at_end, verdict}, specs.Printouts.{closing, answer_to, output_of_run_state, output_of}}
use Rattle.deck_run.specs.{Runs.{run_state_of}, Laws.{done, jobs_in, rest_of_output, InOrder, InItsPlace, Unmarked}}

jobs_both : (xs ys : List Asked) → jobs_in (xs ++ ys) ≡ jobs_in xs + jobs_in ys
jobs_both [] ys = omega arith
jobs_both (Commands command ∷ xs) ys = omega (arith, jobs_both xs ys)
jobs_both (Enters job ∷ xs) ys = omega (arith, jobs_both xs ys)
jobs_both (Gives turn ∷ xs) ys = omega (arith, jobs_both xs ys)
jobs_both (Drains ∷ xs) ys = omega (arith, jobs_both xs ys)

-- jobs are numbered in order
pub events_both : (xs ys : List Asked) (k n : ℕ) → n ≡ k + jobs_in xs → events_of k (xs ++ ys) ≡ events_of k xs ++ events_of n ys
events_both [] ys k n is = let same : k ≡ n = omega (arith, is) in ap (λ i. events_of i ys) same
events_both (Commands command ∷ xs) ys k n is = ap (λ (es : List Event). Serve command ∷ es) (events_both xs ys k n (omega (arith, is)))
events_both (Enters job ∷ xs) ys k n is = ap (λ (es : List Event). Load (job_deck_of k job) ∷ es) (events_both xs ys (suc k) n (omega (arith, is)))
events_both (Gives turn ∷ xs) ys k n is = ap (λ (es : List Event). Give turn.slot turn.count ∷ es) (events_both xs ys k n (omega (arith, is)))
events_both (Drains ∷ xs) ys k n is = ap (λ (es : List Event). Drain ∷ es) (events_both xs ys k n (omega (arith, is)))

-- what events print, and then the catalogue
abbrev pub output_with : Played → Ending → List ℕ
output_with p ending = printouts_text p.printouts ++ closing p.after.scheduler.sets ending

module _ (card_by_card : CardByCard) where
  -- what some cards print, and then what the others do
  pub in_two : (jobs n : ℕ) (m : Marks) (w : SystemState) (xs ys : List Asked) (ending : Ending) → n ≡ jobs + jobs_in xs
      → (let first = done jobs xs m w in
      rest_of_output jobs m w (xs ++ ys) ending ≡ printouts_text first.printouts ++ rest_of_output n first.marks first.after ys ending)
  in_two jobs n m w xs ys ending is =
      let first = done jobs xs m w in
      let E = events_of (suc jobs) xs in
      let F = events_of (suc n) ys ++ at_end ending in
      let others = played F first.marks first.after in
      let events : events_of (suc jobs) (xs ++ ys) ++ at_end ending ≡ E ++ F =
      ap (λ (es : List Event). es ++ at_end ending) (events_both xs ys (suc jobs) (suc n) (omega (arith, is))) ∙ append_assoc E (events_of (suc n) ys) (at_end ending) in
      ap (λ (es : List Event). output_with (played es m w) ending) events
      ∙ ap (λ (p : Played). output_with p ending) (card_by_card E F m w)
      ∙ ap (λ (t : List ℕ). t ++ closing others.after.scheduler.sets ending) (flat_map-append printout_text first.printouts others.printouts)
      ∙ append_assoc (printouts_text first.printouts) (printouts_text others.printouts) (closing others.after.scheduler.sets ending)

-- a deck that is run
pub is_run : (options : Options) (m : Marks) (bytes : List ℕ) → options.check ≡ false → output_of options m bytes ≡ output_of_run_state 0 m (run_state_of options bytes)
is_run options m bytes run =
    let run_state = run_state_of options bytes in
    ap (λ b. if b then verdict run_state.cards.ending else output_of_run_state 0 m run_state) run

pub in_order : CardByCard → InOrder
in_order card_by_card options m bytes before after one run same =
    let run_state = run_state_of options bytes in
    let ending = run_state.cards.ending in
    let earlier = done 0 before m run_state.system in
    let here = done (jobs_in before) (one ∷ []) earlier.marks earlier.after in
    is_run options m bytes run
    ∙ ap (λ (asked : List Asked). rest_of_output 0 m run_state.system asked ending) same
    ∙ in_two card_by_card 0 (jobs_in before) m run_state.system before (one ∷ after) ending (omega arith)
    ∙ ap (λ (t : List ℕ). printouts_text earlier.printouts ++ t)
    (in_two card_by_card (jobs_in before) (jobs_in (before ++ one ∷ [])) earlier.marks earlier.after (one ∷ []) after ending (jobs_both before (one ∷ [])))

pub in_its_place : CardByCard → InItsPlace
in_its_place card_by_card options m bytes before after one run same =
    let run_state = run_state_of options bytes in
    let earlier = done 0 before m run_state.system in
    let here = done (jobs_in before) (one ∷ []) earlier.marks earlier.after in (
      printouts_text earlier.printouts,
      rest_of_output (jobs_in (before ++ one ∷ [])) here.marks here.after after run_state.cards.ending,
      in_order card_by_card options m bytes before after one run same,
    )

-- without marks
same_output : (p q : Played) (ending : Ending) → AsUnmarked p q → output_with p ending ≡ output_with q ending
same_output p q ending same =
    ap (λ (printouts : List Printout). printouts_text printouts ++ closing p.after.scheduler.sets ending) same.printouts
    ∙ ap (λ (w : SystemState). printouts_text q.printouts ++ closing w.scheduler.sets ending) same.after

pub unmarked : PlayedUnmarked → Unmarked
unmarked played_unmarked options m bytes never =
    by options.check (same_output (played_run_state 0 m run_state) (played_run_state 0 [] run_state) run_state.cards.ending (played_unmarked (events_in 0 run_state) m run_state.system never))
  where
    run_state : RunState
    run_state = run_state_of options bytes

    by : (check : Bool) → output_of_run_state 0 m run_state ≡ output_of_run_state 0 [] run_state → answer_to check 0 m run_state ≡ answer_to check 0 [] run_state
    by true same = refl
    by false same = same
