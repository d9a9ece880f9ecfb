-- What a round has printed behind some of its texts, and what the others then print.
use Rattle.std.proofs.Common.{◌≡◌, ℕ, suc, ◌+◌, false, List, [], ◌∷◌, ◌++◌, refl, sym, ap, ap₂, ◌∙◌, arith, append_assoc, append-nil}
use Rattle.std.{specs.Str.Lines.{lines}, proofs.lemmas.List.Concat.{flat_map-append}}
use Rattle.mon_access.specs.declared.account.Account.{Account}
use Rattle.mon_catalogue.specs.Sets.{Sets}
use Rattle.scheduler.specs.Marks.{Marks}
use Rattle.mon_monitor.specs.{SystemStates.{SystemState, first_system}, Events.{Event, Drain}, Printouts.{printout_text, printouts_text}}
use Rattle.mon_monitor.specs.{Played.{Played, then_played, happened, played}, Laws.{CardByCard, DrainEmpties, AccountsStay, SlotsStay}}
use Rattle.mon_monitor.proofs.Parts.{and_played}
use Rattle.deck_lines.specs.declared.deck_error.DeckError.TheVariants.{Truncated}
use Rattle.deck_syntax.specs.{Decks.{Deck, Asked, Enters, Drains, Stopped, Refused}, Sections.{deck_of}}
use Rattle.deck_driver.specs.{declared.options.Options.{Options}, RunStates.{events_of, opening, sets_after}}
use Rattle.deck_driver.specs.Printouts.{closing, output_of_run_state, output_of}
use Rattle.deck_run.{specs.Laws.{jobs_in}, specs.Runs.{run_state_of}, proofs.Ordered.{events_both, is_run}}
use Rattle.preflight.specs.Rounds.{Handed, IsHanded, AreHanded, stream_asks, round_deck}
use Rattle.rounds.{specs.Delivery.{text_events, text_played}, proofs.Delivering.{no_jobs_more, each_alone}, proofs.Empty.{nothing_left}}

-- ---- texts that are served one after the other

-- so many jobs were entered, these marks are left, and these data sets
pub record Place : Type 0 where
  pub jobs : ℕ
  pub marks : Marks
  pub sets : Sets

asks_both : (texts : List Handed) (text : Handed) → stream_asks (texts ++ text ∷ []) ≡ stream_asks texts ++ (text.asked ++ Drains ∷ [])
asks_both [] text = refl
asks_both (one ∷ texts) text =
    ap (λ (a : List Asked). one.asked ++ (Drains ∷ a)) (asks_both texts text)
    ∙ sym (append_assoc one.asked (Drains ∷ stream_asks texts) (text.asked ++ Drains ∷ []))

pub handed_both : (texts : List Handed) (text : Handed) → AreHanded texts → IsHanded text → AreHanded (texts ++ text ∷ [])
handed_both [] text are is = (is, tt)
handed_both (one ∷ texts) text (this, are) is = (this, handed_both texts text are is)

jobs_more : (xs ys : List Asked) → jobs_in (xs ++ ys) ≡ jobs_in xs + jobs_in ys
jobs_more [] ys = omega arith
jobs_more (Enters job ∷ xs) ys = omega (arith, jobs_more xs ys)
jobs_more (_ ∷ xs) ys = jobs_more xs ys

module _ (slots : ℕ) (accounts : List Account) (m : Marks) (sets : Sets) where
  abbrev pub first : SystemState
  first = first_system slots accounts sets

  abbrev pub played_so_far : List Handed → Played
  played_so_far texts = played (events_of 1 (stream_asks texts)) m first

  -- behind these texts, so much is printed
  pub record Reached (texts : List Handed) (at : Place) (text : List ℕ) : Type 0 where
    pub printed : printouts_text (played_so_far texts).printouts ≡ text
    pub after : (played_so_far texts).after ≡ first_system slots accounts at.sets
    pub marks : (played_so_far texts).marks ≡ at.marks
    pub jobs : jobs_in (stream_asks texts) ≡ at.jobs

  abbrev pub served_at : Place → Handed → Played
  served_at at text = text_played slots accounts at.jobs at.marks at.sets text

  abbrev pub next : Place → Handed → Place
  next at text = let here = served_at at text in record { jobs = at.jobs + jobs_in text.asked; marks = here.marks; sets = here.after.scheduler.sets }

  abbrev pub start : Place
  start = record { jobs = 0; marks = m; sets = sets }

  pub reached_none : Reached [] start []
  reached_none = record { printed = refl; after = refl; marks = refl; jobs = refl }

  module _ (card_by_card : CardByCard) (drain_empties : DrainEmpties) (accounts_stay : AccountsStay) (slots_stay : SlotsStay) where
    pub reached_more : (texts : List Handed) (text : Handed) (at : Place) (before : List ℕ) → Reached texts at before
        → Reached (texts ++ text ∷ []) (next at text) (before ++ printouts_text (served_at at text).printouts)
    reached_more texts text at before so_far =
        let p = played_so_far texts in
        let here = served_at at text in
        let E = events_of 1 (stream_asks texts) in
        let F = text_events at.jobs text in
        let number : suc at.jobs ≡ 1 + jobs_in (stream_asks texts) = omega (arith, so_far.jobs) in
        let events : events_of 1 (stream_asks (texts ++ text ∷ [])) ≡ E ++ F =
        ap (λ (a : List Asked). events_of 1 a) (asks_both texts text) ∙ events_both (stream_asks texts) (text.asked ++ Drains ∷ []) 1 (suc at.jobs) number in
        let all : played_so_far (texts ++ text ∷ []) ≡ and_played p.printouts here =
        ap (λ (es : List Event). played es m first) events ∙ card_by_card E F m first
        ∙ ap₂ (λ (n : Marks) (w : SystemState). and_played p.printouts (played F n w)) so_far.marks so_far.after in record {
          printed =
              ap (λ (q : Played). printouts_text q.printouts) all ∙ flat_map-append printout_text p.printouts here.printouts
              ∙ ap (λ (t : List ℕ). t ++ printouts_text here.printouts) so_far.printed;
          after = ap (λ (q : Played). q.after) all ∙ each_alone card_by_card drain_empties accounts_stay slots_stay slots accounts at.jobs at.marks at.sets text;
          marks = ap (λ (q : Played). q.marks) all;
          jobs =
              ap jobs_in (asks_both texts text) ∙ jobs_more (stream_asks texts) (text.asked ++ Drains ∷ [])
              ∙ omega (arith, so_far.jobs, no_jobs_more text.asked);
        }

    -- a last drain finds nothing
    stops : (texts : List Handed) (at : Place) (text : List ℕ) → Reached texts at text
        → (let p = played (events_of 1 (stream_asks texts) ++ Drain ∷ []) m first in
        (printouts_text p.printouts ≡ text) × (p.after ≡ first_system slots accounts at.sets))
    stops texts at text so_far =
        let p = played_so_far texts in
        let all : played (events_of 1 (stream_asks texts) ++ Drain ∷ []) m first ≡ and_played p.printouts (record { printouts = []; after = first_system slots accounts at.sets; marks = p.marks }) =
        card_by_card (events_of 1 (stream_asks texts)) (Drain ∷ []) m first
        ∙ ap (λ (w : SystemState). and_played p.printouts (then_played (happened Drain p.marks w) (played []))) so_far.after
        ∙ ap (λ (q : Played). and_played p.printouts (then_played q (played []))) (nothing_left slots accounts at.sets p.marks) in (
          ap (λ (q : Played). printouts_text q.printouts) all ∙ ap printouts_text (append-nil p.printouts) ∙ so_far.printed,
          ap (λ (q : Played). q.after) all,
        )

    -- ---- the decks

    pub cut_output : (options : Options) (texts : List Handed) (at : Place) (text : List ℕ) (bytes : List ℕ) (n : ℕ) → options.check ≡ false → options.slots.number ≡ slots
        → deck_of (lines bytes) ≡ record { accounts = accounts; catalogue = sets; cards = record { asked = stream_asks texts; ending = Refused n Truncated } }
        → Reached texts at text → output_of options m bytes ≡ text
    cut_output options texts at text bytes n run number deck so_far =
        is_run options m bytes run
        ∙ ap₂ (λ (k : ℕ) (d : Deck). output_of_run_state 0 m (opening k d)) number deck
        ∙ append-nil (printouts_text (played (events_of 1 (stream_asks texts) ++ []) m first).printouts)
        ∙ ap (λ (es : List Event). printouts_text (played es m first).printouts) (append-nil (events_of 1 (stream_asks texts)))
        ∙ so_far.printed

    pub whole_output : (options : Options) (texts : List Handed) (at : Place) (text : List ℕ) (bytes : List ℕ) → options.check ≡ false → options.slots.number ≡ slots
        → deck_of (lines bytes) ≡ round_deck accounts sets texts → Reached texts at text
        → (output_of options m bytes ≡ text ++ closing at.sets Stopped) × (sets_after 0 m (run_state_of options bytes) ≡ at.sets)
    whole_output options texts at text bytes run number deck so_far =
        let all = stops texts at text so_far in (
          is_run options m bytes run
              ∙ ap₂ (λ (k : ℕ) (d : Deck). output_of_run_state 0 m (opening k d)) number deck
              ∙ ap₂ (λ (t : List ℕ) (w : SystemState). t ++ closing w.scheduler.sets Stopped) all.0 all.1,
          ap₂ (λ (k : ℕ) (d : Deck). sets_after 0 m (opening k d)) number deck ∙ ap (λ (w : SystemState). w.scheduler.sets) all.1,
        )
