-- The deck of a stretch prints what its texts print.
use Rattle.std.proofs.Common.{◌≡◌, ℕ, ◌+◌, Bool, false, List, [], ◌∷◌, ◌++◌, Some, refl, sym, ap, ◌∙◌, subst, arith, append_assoc}
use Rattle.std.specs.{List.{concat}, Str.Lines.{lines}}
use Rattle.mon_access.specs.declared.account.Account.{Account}
use Rattle.mon_catalogue.specs.Sets.{Sets}
use Rattle.scheduler.specs.Marks.{Marks}
use Rattle.mon_monitor.specs.{SystemStates.{SystemState, first_system}, Printouts.{printouts_text}, Printed.{given_back}, Played.{Played, then_played, played}}
use Rattle.mon_monitor.specs.Laws.{CardByCard}
use Rattle.deck_syntax.specs.{Decks.{Deck, Asked, Drains, Stopped}, Sections.{Closed, deck_of}}
use Rattle.deck_driver.specs.{declared.options.Options.{Options}, RunStates.{opening}, Printouts.{closing, answer_to}}
use Rattle.deck_run.{specs.Laws.{jobs_in, rest_of_output}, proofs.Ordered.{in_two, output_with}}
use Rattle.preflight.{specs.Examined.{Verdict, Admits, Refuses}, specs.inner.Reading.{examined}, specs.Laws.{NeverRefused}, proofs.Exactly.{admits_exactly}}
use Rattle.preflight.specs.Rounds.{Handed, IsHanded, AreHanded, stream_asks, round_deck}
use Rattle.site_plan.specs.Laws.{GivesAccounts}
use Rattle.rounds.{specs.Delivery.{text_played, delivered}, specs.Laws.{EachAlone}, proofs.Empty.{nothing_left}, proofs.Delivering.{no_jobs_more}}
use Rattle.ledger_laws.specs.Course.{with_record, folded}
use Rattle.ledger_run.specs.Meaning.{Event, State, machine_of, start}
use Rattle.ledger_sets.specs.{Applying.{Site}, Laws.{RunsLead}}
use Rattle.ledger_stretches.{specs.Stretches.{texts_in}, proofs.Running.{each_stretch_runs}}
use Rattle.ledger_machine.specs.{Steps.{slots, admitted, handed_in, site_step}, Decks.{deck_text, output_behind, StandsAt, AreFiles, site_behind}}
use Rattle.ledger_machine.{specs.Laws.{course, text_printed, AreOneDeck, StepsAreADeck, kept_behind, EachStretchIsADeck}, proofs.Stepping.{went}}

-- ---- texts that were handed in

is_handed : (ls : List (List ℕ)) (text : Handed) → handed_in ls ≡ Some text → IsHanded text
is_handed [] text is = absurd cc
is_handed (own ∷ ls) text is = by (examined own 1 Closed ls) refl is
  where
    by : (v : Verdict) → examined own 1 Closed ls ≡ v → admitted own ls v ≡ Some text → IsHanded text
    by (Admits asked) e same =
        let made : Handed = record { own = own; lines = ls; asked = asked } in
        let is_made : made ≡ text = cc (same) in subst IsHanded is_made ((admits_exactly own ls asked).0 e)
    by (Refuses n why) e same = absurd cc

are_handed : (files : List (ℕ × List ℕ)) (texts : List Handed) → AreFiles files texts → AreHanded texts
are_handed [] [] are = tt
are_handed [] (text ∷ texts) are = absurd are
are_handed (file ∷ files) [] are = absurd are
are_handed (file ∷ files) (text ∷ texts) are = (is_handed (lines file.1) text are.0, are_handed files texts are.1)

-- ---- the deck

module _ (card_by_card : CardByCard) (each_alone : EachAlone) where
  all : (texts : List Handed) (accounts : List Account) (jobs : ℕ) (m : Marks) (sets : Sets)
      → (let d = delivered slots accounts jobs m sets texts in
      rest_of_output jobs m (first_system slots accounts sets) (stream_asks texts) Stopped ≡ concat d.printed ++ closing d.sets Stopped)
  all [] accounts jobs m sets = ap (λ (p : Played). output_with (then_played p (played [])) Stopped) (nothing_left slots accounts sets m)
  all (text ∷ texts) accounts jobs m sets =
      let w = first_system slots accounts sets in
      let here = text_played slots accounts jobs m sets text in
      let after = jobs + jobs_in text.asked in
      let later = delivered slots accounts after here.marks here.after.scheduler.sets texts in
      ap (λ (a : List Asked). rest_of_output jobs m w a Stopped) (sym (append_assoc text.asked (Drains ∷ []) (stream_asks texts)))
      ∙ in_two card_by_card jobs after m w (text.asked ++ Drains ∷ []) (stream_asks texts) Stopped (let none = no_jobs_more text.asked in omega (arith, none))
      ∙ ap (λ (v : SystemState). printouts_text here.printouts ++ rest_of_output after here.marks v (stream_asks texts) Stopped) (each_alone slots accounts jobs m sets text)
      ∙ ap (λ (t : List ℕ). printouts_text here.printouts ++ t) (all texts accounts after here.marks here.after.scheduler.sets)
      ∙ sym (append_assoc (printouts_text here.printouts) (concat later.printed) (closing later.sets Stopped))

  module _ (never_refused : NeverRefused) (gives_accounts : GivesAccounts) where
    deck_is : (behind : List (List ℕ)) (site : Site) (accounts : List Account) (texts : List Handed) → StandsAt behind site accounts → AreHanded texts
        → (options : Options) → options.check ≡ false → options.slots.number ≡ slots
        → (let d = delivered slots accounts site.jobs [] site.sets texts in
        output_behind site.jobs options [] (deck_text site texts) ≡ concat d.printed ++ given_back d.sets)
    deck_is behind site accounts texts at handed options run number =
        let good = gives_accounts site.accounts accounts at.gives in
        let never = never_refused (lines site.accounts) accounts site.sets texts good.table_is good.names_differ at.stored at.printable handed in
        let deck : deck_of (lines (deck_text site texts)) ≡ round_deck accounts site.sets texts = ap deck_of never.2 ∙ never.1 in
        ap (λ (check : Bool). answer_to check site.jobs [] (opening options.slots.number (deck_of (lines (deck_text site texts))))) run
        ∙ ap (λ (n : ℕ). answer_to false site.jobs [] (opening n (deck_of (lines (deck_text site texts))))) number
        ∙ ap (λ (d : Deck). answer_to false site.jobs [] (opening slots d)) deck
        ∙ all texts accounts site.jobs [] site.sets

    module _ (runs_lead : RunsLead) where
      pub steps_are_a_deck : StepsAreADeck
      steps_are_a_deck files behind site accounts texts at are written =
          let w = went runs_lead files texts behind site accounts at are written in
          let outs = (course files behind).printed in
          let d = delivered slots accounts site.jobs [] site.sets texts in
          let printed : concat d.printed ++ given_back d.sets ≡ text_printed outs ++ given_back (site_behind site accounts texts).sets =
          ap (λ (l : List (List ℕ)). concat l ++ given_back d.sets) (sym w.each) ∙ ap (λ (sets : Sets). text_printed outs ++ given_back sets) w.sets in
          let deck : (options : Options) → options.check ≡ false → options.slots.number ≡ slots
          → output_behind site.jobs options [] (deck_text site texts) ≡ text_printed outs ++ given_back (site_behind site accounts texts).sets =
          λ options run number. deck_is behind site accounts texts at (are_handed files texts are) options run number ∙ printed in
          record {
            each = w.each;
            deck = deck;
            plain = λ options run number first.
                ap (λ (n : ℕ). output_behind n options [] (deck_text site texts)) (sym first) ∙ deck options run number;
            stands = w.stands;
          }

-- ---- a ledger

folded_both : (before stretch : List Event) (kept : State)
    → folded (machine_of site_step) (before ++ stretch) kept ≡ folded (machine_of site_step) stretch (folded (machine_of site_step) before kept)
folded_both [] stretch kept = refl
folded_both (event ∷ before) stretch kept = folded_both before stretch (with_record (machine_of site_step) event kept)

pub each_stretch_is_a_deck : StepsAreADeck → EachStretchIsADeck
each_stretch_is_a_deck law before stretch behind site accounts texts honest plain at are written =
    let kept = kept_behind before in
    let runs = each_stretch_runs (machine_of site_step) before stretch behind start honest plain in
    let files = texts_in (machine_of site_step) stretch kept in
    let state : (kept_behind (before ++ stretch)).state ≡ (course files kept.state).state =
    ap (λ (k : State). k.state) (folded_both before stretch start) ∙ runs.state in
    subst (λ (outs : List (ℕ × List ℕ)). AreOneDeck site accounts texts outs (kept_behind (before ++ stretch)).state) (sym runs.printed)
    (subst (λ (s : List (List ℕ)). AreOneDeck site accounts texts (course files kept.state).printed s) (sym state)
    (law files kept.state site accounts texts at are written))
