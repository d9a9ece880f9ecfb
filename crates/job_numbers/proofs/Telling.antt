-- The numbers of jobs are told, and do nothing.
use Rattle.std.proofs.Common.{◌≡◌, ℕ, suc, ◌+◌, List, [], ◌∷◌, ◌++◌, Option, refl, sym, ap, ◌∙◌, map, arith}
use Rattle.mon_access.specs.declared.account.Account.{Account}
use Rattle.mon_catalogue.specs.Sets.{Sets}
use Rattle.scheduler.specs.States.{SlotState}
use Rattle.mon_monitor.specs.{SystemStates.{SystemState, first_system}, Events.{Event, Serve, Load, Give, Drain}, Played.{Played, played}, History.{history}}
use Rattle.deck_syntax.specs.{Decks.{Asked, Commands, Enters, Gives, Drains}, Jobs.{job_deck_of}}
use Rattle.deck_driver.specs.RunStates.{events_of}
use Rattle.job_numbers.specs.{Numbers.{event_as}, Laws.{NumbersAreTold, TextsAreNumbered}}
use Rattle.job_numbers.proofs.{Seating.{system_as, empty_as}, Playing.{all_as, history_as}}

first_as : (f : ℕ → ℕ) (slots : ℕ) (accounts : List Account) (sets : Sets) → system_as f (first_system slots accounts sets) ≡ first_system slots accounts sets
first_as f slots accounts sets =
    ap (λ (l : List (Option SlotState)). let w : SystemState = record { accounts = accounts; scheduler = record { sets = sets; slots = l } } in w) (empty_as f slots)

pub numbers_are_told : NumbersAreTold
numbers_are_told f slots accounts events m sets =
    let w = first_system slots accounts sets in
    let same = sym (first_as f slots accounts sets) in
    let all = ap (λ (v : SystemState). played (map (event_as f) events) m v) same ∙ all_as f events m w in
    record {
      printouts = ap (λ (p : Played). p.printouts) all;
      sets = ap (λ (p : Played). p.after.scheduler.sets) all;
      marks = ap (λ (p : Played). p.marks) all;
      history = ap (λ (v : SystemState). history (map (event_as f) events) m v) same ∙ history_as f events m w;
    }

module _ (jobs : ℕ) where
  later_events : (k : ℕ) (asked : List Asked) → events_of (jobs + k) asked ≡ map (event_as (λ n. jobs + n)) (events_of k asked)
  later_events k [] = refl
  later_events k (Commands command ∷ asked) = ap (λ (es : List Event). Serve command ∷ es) (later_events k asked)
  later_events k (Enters job ∷ asked) =
      let next : suc (jobs + k) ≡ jobs + suc k = omega arith in
      ap (λ (es : List Event). Load (job_deck_of (jobs + k) job) ∷ es) (ap (λ (n : ℕ). events_of n asked) next ∙ later_events (suc k) asked)
  later_events k (Gives turn ∷ asked) = ap (λ (es : List Event). Give turn.slot turn.count ∷ es) (later_events k asked)
  later_events k (Drains ∷ asked) = ap (λ (es : List Event). Drain ∷ es) (later_events k asked)

pub texts_are_numbered : TextsAreNumbered
texts_are_numbered jobs text =
    let first : suc jobs ≡ jobs + 1 = omega arith in
    ap (λ (n : ℕ). events_of n (text.asked ++ Drains ∷ [])) first ∙ later_events jobs 1 (text.asked ++ Drains ∷ [])
