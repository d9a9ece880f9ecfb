-- What a round writes is what its texts print, each alone.
use Rattle.std.proofs.Common.{◌≡◌, ℕ, zero, suc, ◌+◌, List, [], ◌∷◌, ◌++◌, length, None, Option, refl, sym, ap, ◌∙◌, arith, append_assoc, replicate}
use Rattle.std.specs.List.{concat}
use Rattle.mon_access.specs.declared.account.Account.{Account}
use Rattle.mon_catalogue.specs.Sets.{Sets}
use Rattle.scheduler.specs.{States.{SlotState}, Marks.{Marks}}
use Rattle.mon_monitor.specs.{SystemStates.{SystemState, first_system}, Events.{Event, Drain}, Printouts.{printouts_text}, Played.{Played, then_played, played}}
use Rattle.mon_monitor.specs.Laws.{CardByCard, DrainEmpties, AccountsStay, SlotsStay}
use Rattle.deck_syntax.specs.Decks.{Deck, Asked, Enters, Drains, Stopped}
use Rattle.deck_driver.specs.{RunStates.{events_of, opening}, Printouts.{closing, output_of_run_state}}
use Rattle.deck_run.{specs.Laws.{jobs_in, rest_of_output}, proofs.Ordered.{events_both, in_two, output_with}}
use Rattle.preflight.specs.{Rounds.{Handed, stream_asks}, Laws.{NeverRefused}}
use Rattle.rounds.{specs.Delivery.{text_events, text_played, delivered}, specs.Laws.{EachAlone, Delivers}, proofs.Empty.{nothing_left, drained}}

as_many : (slots : ℕ) → length (replicate slots (let none : Option SlotState = None in none)) ≡ slots
as_many zero = refl
as_many (suc slots) = ap suc (as_many slots)

pub no_jobs_more : (asked : List Asked) → jobs_in (asked ++ Drains ∷ []) ≡ jobs_in asked
no_jobs_more asked = jobs_with asked
  where
    jobs_with : (asked : List Asked) → jobs_in (asked ++ Drains ∷ []) ≡ jobs_in asked
    jobs_with [] = refl
    jobs_with (Enters job ∷ asked) = ap (λ (n : ℕ). 1 + n) (jobs_with asked)
    jobs_with (_ ∷ asked) = jobs_with asked

module _ (card_by_card : CardByCard) (drain_empties : DrainEmpties) (accounts_stay : AccountsStay) (slots_stay : SlotsStay) where
  pub each_alone : EachAlone
  each_alone slots accounts jobs m sets text =
      let E = events_of (suc jobs) text.asked in
      let events : text_events jobs text ≡ E ++ Drain ∷ [] = events_both text.asked (Drains ∷ []) (suc jobs) (suc jobs + jobs_in text.asked) refl in
      ap (λ (es : List Event). (played es m (first_system slots accounts sets)).after) events
      ∙ drained card_by_card drain_empties accounts_stay slots_stay slots accounts sets E m (as_many slots)
      ∙ ap (λ (es : List Event). first_system slots accounts (played es m (first_system slots accounts sets)).after.scheduler.sets) (sym events)

  all : (texts : List Handed) (slots : ℕ) (accounts : List Account) (jobs : ℕ) (m : Marks) (sets : Sets)
      → (let d = delivered slots accounts jobs m sets texts in
      rest_of_output jobs m (first_system slots accounts sets) (stream_asks texts) Stopped ≡ concat d.printed ++ closing d.sets Stopped)
  all [] slots accounts jobs m sets = ap (λ (p : Played). output_with (then_played p (played [])) Stopped) (nothing_left slots accounts sets m)
  all (text ∷ texts) slots accounts jobs m sets =
      let w = first_system slots accounts sets in
      let here = text_played slots accounts jobs m sets text in
      let after = jobs + jobs_in text.asked in
      let later = delivered slots accounts after here.marks here.after.scheduler.sets texts in
      ap (λ (a : List Asked). rest_of_output jobs m w a Stopped) (sym (append_assoc text.asked (Drains ∷ []) (stream_asks texts)))
      ∙ in_two card_by_card jobs after m w (text.asked ++ Drains ∷ []) (stream_asks texts) Stopped (let none = no_jobs_more text.asked in omega (arith, none))
      ∙ ap (λ (v : SystemState). printouts_text here.printouts ++ rest_of_output after here.marks v (stream_asks texts) Stopped) (each_alone slots accounts jobs m sets text)
      ∙ ap (λ (t : List ℕ). printouts_text here.printouts ++ t) (all texts slots accounts after here.marks here.after.scheduler.sets)
      ∙ sym (append_assoc (printouts_text here.printouts) (concat later.printed) (closing later.sets Stopped))

  pub from_start : NeverRefused → Delivers
  from_start never_refused slots m table accounts sets texts are differ stored printable handed =
      ap (λ (d : Deck). output_of_run_state 0 m (opening slots d)) (never_refused table accounts sets texts are differ stored printable handed).1
      ∙ all texts slots accounts 0 m sets

pub delivers : NeverRefused → CardByCard → DrainEmpties → AccountsStay → SlotsStay → Delivers
delivers never_refused card_by_card drain_empties accounts_stay slots_stay = from_start card_by_card drain_empties accounts_stay slots_stay never_refused
