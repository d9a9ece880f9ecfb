-- The list of a deck tells all of it.
use Rattle.std.proofs.Common.{◌≡◌, ◌≢◌, ◌<◌, ◌==◌, ℕ, suc, Bool, true, false, List, [], ◌∷◌, ◌++◌, Some, None, refl, ap, ◌∙◌, arith}
use Rattle.std.{specs.Prelude.{if◌then◌else◌}, specs.Str.Lines.{lines}, proofs.lemmas.Bool.{eqb-true}}
use Rattle.scheduler.specs.{States.{job_in}, Marks.{Marks}}
use Rattle.mon_monitor.specs.{SystemStates.{SystemState}, Events.{Event, Drain}, Printouts.{Printout, printouts_text}, Played.{Played, played}}
use Rattle.mon_monitor.specs.{Laws.{CardByCard, DrainEmpties}, Headline.{job_of, NumbersDiffer, HistoryTells}, Turns.{TurnsCome}}
use Rattle.deck_syntax.specs.{Decks.{Asked, Commands, Enters, Gives, Drains, Ending, Stopped, Refused}, Jobs.{job_deck_of}, Sections.{deck_of}}
use Rattle.deck_driver.{specs.RunStates.{events_of, played_run_state}, proofs.Verdicts.{at_end}, specs.Printouts.{closing}}
use Rattle.deck_run.{specs.Runs.{run_state_of}, specs.Headline.{asked_of, Headline}, proofs.Ordered.{is_run}}

-- JOBS ARE NUMBERED IN THEIR ORDER

not_at_end : (n : ℕ) (ending : Ending) → job_of n (at_end ending) ≡ None
not_at_end n Stopped = refl
not_at_end n (Refused line code) = refl

not_same : (k n : ℕ) → n < k → (k == n) ≡ false
not_same k n less = by (k == n) refl
  where
    by : (b : Bool) → (k == n) ≡ b → b ≡ false
    by true e = absurd (let is = eqb-true k n e in omega (arith, is, less))
    by false e = refl

not_before : (n k : ℕ) (asked : List Asked) (ending : Ending) → n < k → job_of n (events_of k asked ++ at_end ending) ≡ None
not_before n k [] ending less = not_at_end n ending
not_before n k (Commands command ∷ asked) ending less = not_before n k asked ending less
not_before n k (Gives turn ∷ asked) ending less = not_before n k asked ending less
not_before n k (Drains ∷ asked) ending less = not_before n k asked ending less
not_before n k (Enters job ∷ asked) ending less =
    ap (λ (b : Bool). if b then Some (job_deck_of k job) else job_of n (events_of (suc k) asked ++ at_end ending)) (not_same k n less)
    ∙ not_before n (suc k) asked ending (omega (arith, less))

end_differ : (ending : Ending) → NumbersDiffer (at_end ending)
end_differ Stopped = tt
end_differ (Refused line code) = tt

numbers_differ : (k : ℕ) (asked : List Asked) (ending : Ending) → NumbersDiffer (events_of k asked ++ at_end ending)
numbers_differ k [] ending = end_differ ending
numbers_differ k (Commands command ∷ asked) ending = numbers_differ k asked ending
numbers_differ k (Gives turn ∷ asked) ending = numbers_differ k asked ending
numbers_differ k (Drains ∷ asked) ending = numbers_differ k asked ending
numbers_differ k (Enters job ∷ asked) ending = (not_before k (suc k) asked ending (omega arith), numbers_differ (suc k) asked ending)

-- BEHIND `$STOP`

module _ (card_by_card : CardByCard) (drain_empties : DrainEmpties) where
  all_ended : (E : List Event) (m : Marks) (w : SystemState) (ending : Ending) → ending ≡ Stopped → (s : ℕ) → job_in s (played (E ++ at_end ending) m w).after.scheduler ≡ None
  all_ended E m w ending is s =
      let p = played E m w in
      ap (λ (e : Ending). job_in s (played (E ++ at_end e) m w).after.scheduler) is
      ∙ ap (λ (q : Played). job_in s q.after.scheduler) (card_by_card E (Drain ∷ []) m w)
      ∙ drain_empties p.marks p.after s

  pub headline : HistoryTells → TurnsCome → Headline
  headline tells come options m bytes run =
      let deck = deck_of (lines bytes) in
      let ending = deck.cards.ending in
      let some : options.slots.number ≢ 0 = (λ none. (let least = options.slots.within.0 in omega (arith, none, least))) in
      let all = tells options.slots.number deck.accounts deck.catalogue (asked_of options bytes) m some (numbers_differ 1 deck.cards.asked ending) in
      let each = come options.slots.number deck.accounts deck.catalogue (asked_of options bytes) m some in
      record {
        cards = all.cards;
        jobs = all.jobs;
        ended = λ is s. all_ended (events_of 1 deck.cards.asked) m (run_state_of options bytes).system ending is s;
        lead = all.lead;
        granted = all.granted;
        output = is_run options m bytes run ∙ ap (λ (l : List Printout). printouts_text l ++ closing (played_run_state 0 m (run_state_of options bytes)).after.scheduler.sets ending) all.printed;
        turns = each.0;
        memory = each.1;
      }
