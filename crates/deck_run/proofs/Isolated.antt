-- Decks that an account can't tell apart.
use Rattle.std.proofs.Common.{◌≡◌, ℕ, zero, suc, true, replicate, List, [], ◌∷◌, ◌++◌, Some, None, ◌⊎◌, inl, inr, refl, sym, ap, subst, ◌∙◌}
use Rattle.std.specs.{List.{AllByRecursion, list_all}, Str.Lines.{lines}, Prelude.{is_none}}
use Rattle.mon_access.specs.declared.account.Account.{Account}
use Rattle.mon_catalogue.specs.Sets.{NamesDiffer}
use Rattle.scheduler.{specs.States.{SlotState, seat_at}, specs.Marks.{Marks}, proofs.Seats.{none_at}}
use Rattle.mon_monitor.specs.{SystemStates.{SystemState}, Events.{Event}, Printouts.{Printout, printouts_text}, Played.{played}, Isolation.{IsOwn, Isolated}}
use Rattle.mon_monitor.specs.Agreeing.{LooksAlike, Both, Agree}
use Rattle.deck_syntax.specs.{Decks.{Deck, Asked, Commands, Enters, Gives, Drains, Ending, Stopped, Refused}, Laws.{ReadingSpells, GoodBeginnings}}
use Rattle.deck_syntax.specs.Sections.{deck_of}
use Rattle.deck_driver.{specs.RunStates.{RunState, opening, events_of, events_in}, proofs.Verdicts.{at_end}, specs.Printouts.{closing}}
use Rattle.deck_run.specs.{Runs.{deck_ending, run_state_of, catalogue_after}, Isolation.{IsOwnCard, EndAlike, DecksAlike, DecksIsolated}}
use Rattle.deck_run.proofs.Ordered.{is_run}

-- no job sits in a slot at first
empty_at_first : (n : ℕ) → list_all (is_none {T = SlotState}) (replicate n None) ≡ true
empty_at_first zero = refl
empty_at_first (suc n) = empty_at_first n

pub no_job_at_first : (n s : ℕ) (slot : SlotState) → seat_at s (replicate n None) ≡ Some slot → ⊥
no_job_at_first n s slot h = let k : None ≡ Some slot = sym (none_at (replicate n None) (empty_at_first n) s) ∙ h in cc (k)

-- a deck of which nothing is asked, or in which no two data sets have one name
abbrev pub IsSound : Deck → Type 0
IsSound deck = ((deck.cards.asked ≡ []) × (at_end deck.cards.ending ≡ [])) ⊎ NamesDiffer deck.catalogue

pub is_sound : ReadingSpells → GoodBeginnings → (ls : List (List ℕ)) → IsSound (deck_of ls)
is_sound spells begins ls = by (deck_of ls).cards.ending refl
  where
    by : (ending : Ending) → (deck_of ls).cards.ending ≡ ending → IsSound (deck_of ls)
    by Stopped is = inr ((spells ls (deck_of ls)).1 (refl, is)).text_is.1.0
    by (Refused n code) is =
        let good = begins ls n code is in
        elim good.2.over [
          | inl none ↦ inl (none, ap at_end is)
          | inr same ↦ inr (subst NamesDiffer same good.2.good.text_is.1.0)
        ]

own_events : (account : Account) (asked : List Asked) (k : ℕ) (ending : Ending) → AllByRecursion (IsOwnCard account) asked
    → AllByRecursion (IsOwn account) (events_of k asked ++ at_end ending)
own_events account [] k Stopped own = (tt, tt)
own_events account [] k (Refused n code) own = tt
own_events account (Commands command ∷ asked) k ending own = (own.0, own_events account asked k ending own.1)
own_events account (Enters job ∷ asked) k ending own = (own.0, own_events account asked (suc k) ending own.1)
own_events account (Gives turn ∷ asked) k ending own = (tt, own_events account asked k ending own.1)
own_events account (Drains ∷ asked) k ending own = (tt, own_events account asked k ending own.1)

end_alike : (ending other : Ending) → EndAlike ending other → at_end ending ≡ at_end other
end_alike Stopped Stopped h = refl
end_alike Stopped (Refused n code) h = absurd h
end_alike (Refused n code) Stopped h = absurd h
end_alike (Refused n code) (Refused k other) h = refl

-- what two systems print, and what they are then to the account
pub record Alike (account : Account) (m : Marks) (E F : List Event) (w v : SystemState) : Type 0 where
  pub printouts : (played E m w).printouts ≡ (played F m v).printouts
  pub sets : Both (LooksAlike account) (played E m w).after.scheduler.sets (played F m v).after.scheduler.sets

module _ (isolated : Isolated) (account : Account) (slots : ℕ) (m : Marks) (deck other : Deck) (alike : DecksAlike account deck other) where
  abbrev here : RunState
  here = opening slots deck

  abbrev there : RunState
  there = opening slots other

  events : events_in 0 here ≡ events_in 0 there
  events =
      ap (λ (asked : List Asked). events_of 1 asked ++ at_end deck.cards.ending) alike.asked
      ∙ ap (λ (es : List Event). events_of 1 other.cards.asked ++ es) (end_alike deck.cards.ending other.cards.ending alike.ending)

  begin : NamesDiffer deck.catalogue → Agree account here.system there.system
  begin differ = record {
    accounts = alike.accounts;
    known = alike.known;
    scheduler = record {
      slots = refl;
      own = λ s slot h. absurd (no_job_at_first slots s slot h);
      names = differ;
      sets = alike.sets;
      ties = λ s slot h. absurd (no_job_at_first slots s slot h);
    };
  }

  by_names : NamesDiffer deck.catalogue → Alike account m (events_in 0 here) (events_in 0 here) here.system there.system
  by_names differ =
      let all = isolated account here.system there.system (begin differ) (events_in 0 here) (own_events account deck.cards.asked 1 deck.cards.ending alike.own) m in
      record { printouts = all.printouts; sets = all.after.scheduler.sets }

  nothing_asked : events_in 0 here ≡ [] → Alike account m (events_in 0 here) (events_in 0 here) here.system there.system
  nothing_asked none = subst (λ (es : List Event). Alike account m es es here.system there.system) (sym none) (record { printouts = refl; sets = alike.sets })

  by_sound : IsSound deck → Alike account m (events_in 0 here) (events_in 0 here) here.system there.system
  by_sound (inl idle) =
      nothing_asked (ap (λ (asked : List Asked). events_of 1 asked ++ at_end deck.cards.ending) idle.0 ∙ idle.1)
  by_sound (inr differ) = by_names differ

  pub both_alike : IsSound deck → Alike account m (events_in 0 here) (events_in 0 there) here.system there.system
  both_alike sound = subst (λ (es : List Event). Alike account m (events_in 0 here) es here.system there.system) events (by_sound sound)

pub decks_isolated : ReadingSpells → GoodBeginnings → Isolated → DecksIsolated
decks_isolated spells begins isolated account options m bytes others run alike =
    let one = run_state_of options bytes in
    let two = run_state_of options others in
    let all = both_alike isolated account options.slots.number m (deck_of (lines bytes)) (deck_of (lines others)) alike (is_sound spells begins (lines bytes)) in
    record {
      printed = printouts_text (played (events_in 0 one) m one.system).printouts;
      here = is_run options m bytes run;
      there =
          is_run options m others run
          ∙ ap (λ (printouts : List Printout). printouts_text printouts ++ closing (catalogue_after options m others) (deck_ending others)) (sym all.printouts);
      after = all.sets;
    }
