-- Decks that are refused, cut, or made of what was written.
use Rattle.std.proofs.Common.{◌≡◌, ℕ, ◌⊎◌, inl, inr, List, [], ◌∷◌, ◌++◌, sym, ap, subst, ◌∙◌, arith, append_assoc, append-nil}
use Rattle.std.{specs.Prelude.{codes}, specs.Str.Lines.{lines}, proofs.lemmas.Grind.{flat_map-append}}
use Rattle.mon_access.specs.declared.account.Account.{Account}
use Rattle.mon_catalogue.specs.{Sets.{Sets}, declared.version.Version.TheVariants.{Two}, Text.{text_of, catalogue_lines, catalogue_text}}
use Rattle.mon_catalogue.proofs.{Whole.{reading_spells}, Back.{text_is_stored}}
use Rattle.scheduler.specs.Marks.{Marks}
use Rattle.mon_monitor.specs.{SystemStates.{SystemState, first_system}, Printouts.{printouts_text}, Events.{Event}, Played.{played}, Laws.{CardByCard}}
use Rattle.deck_lines.specs.declared.deck_error.DeckError.{DeckError}
use Rattle.deck_syntax.specs.{Decks.{Deck, Asked, Ending, Stopped, Refused}, Laws.{deck_lines, deck_over}, Sections.{deck_of}, Spelling.{IsDeck}}
use Rattle.deck_syntax.proofs.{Closing.{good_beginnings}, ComingBack.{comes_back}}
use Rattle.deck_driver.{specs.RunStates.{opening, events_of, played_run_state}, proofs.Verdicts.{at_end}, proofs.Back.{read_back}, specs.Abstraction.{told, audit_told, Took}}
use Rattle.deck_driver.specs.{declared.feed.DeckFeed.{DeckFeed}, Printouts.{closing, output_of_run_state}}
use Rattle.mon_device.{specs.Putting.{Standing}, proofs.Putting.{puts_then}}
use Rattle.deck_run.{specs.Runs.{run_state_of}, proofs.Ordered.{output_with, in_two, is_run}}
use Rattle.deck_run.specs.Laws.{done, jobs_in, rest_of_output, RefusedPrintsAsGood, joined, PiecesAreJoined, HoweverCut, ReadBackIsStored, deck_around, CataloguesRunAgain}

module _ (card_by_card : CardByCard) (slots : ℕ) (m : Marks) (bad deck : Deck) (last : List Asked) (n : ℕ) (code : DeckError) (accounts : deck.accounts ≡ bad.accounts)
    (asked : deck.cards.asked ≡ bad.cards.asked ++ last) (same : (bad.cards.asked ≡ []) ⊎ (deck.catalogue ≡ bad.catalogue)) (refused : bad.cards.ending ≡ Refused n code)
    (good : deck.cards.ending ≡ Stopped) where
  abbrev system_over : List Account → Sets → SystemState
  system_over table sets = first_system slots table sets

  -- what some cards print over these
  abbrev printed_over : List Asked → List Account → Sets → List ℕ
  printed_over cards table sets = printouts_text (done 0 cards m (system_over table sets)).printouts

  -- what was printed before the refusal
  printed : output_of_run_state 0 m (opening slots bad) ≡ printed_over bad.cards.asked deck.accounts deck.catalogue
  printed =
      let w = system_over bad.accounts bad.catalogue in
      ap (λ (e : Ending). output_with (played (events_of 1 bad.cards.asked ++ at_end e) m w) e) refused
      ∙ append-nil (printouts_text (played (events_of 1 bad.cards.asked ++ []) m w).printouts)
      ∙ ap (λ (es : List Event). printouts_text (played es m w).printouts) (append-nil (events_of 1 bad.cards.asked))
      ∙ ap (λ (table : List Account). printed_over bad.cards.asked table bad.catalogue) (sym accounts)
      ∙ by same
    where
      by : (bad.cards.asked ≡ []) ⊎ (deck.catalogue ≡ bad.catalogue) → printed_over bad.cards.asked deck.accounts bad.catalogue ≡ printed_over bad.cards.asked deck.accounts deck.catalogue
      by (inl none) =
          ap (λ (cards : List Asked). printed_over cards deck.accounts bad.catalogue) none
          ∙ ap (λ (cards : List Asked). printed_over cards deck.accounts deck.catalogue) (sym none)
      by (inr is) = ap (λ (sets : Sets). printed_over bad.cards.asked deck.accounts sets) (sym is)

  prints_as_good : (let before = done 0 bad.cards.asked m (system_over deck.accounts deck.catalogue) in
      output_of_run_state 0 m (opening slots deck) ≡ output_of_run_state 0 m (opening slots bad) ++ rest_of_output (jobs_in bad.cards.asked) before.marks before.after last Stopped)
  prints_as_good =
      let w = system_over deck.accounts deck.catalogue in
      let before = done 0 bad.cards.asked m w in
      let rest = rest_of_output (jobs_in bad.cards.asked) before.marks before.after last Stopped in
      ap (λ (cards : List Asked). rest_of_output 0 m w cards deck.cards.ending) asked
      ∙ ap (λ (e : Ending). rest_of_output 0 m w (bad.cards.asked ++ last) e) good
      ∙ in_two card_by_card 0 (jobs_in bad.cards.asked) m w bad.cards.asked last Stopped (omega arith)
      ∙ ap (λ t. t ++ rest) (sym printed)

pub refused_prints_as_good : CardByCard → RefusedPrintsAsGood
refused_prints_as_good card_by_card options m bytes n code run refused =
    let g = good_beginnings (lines bytes) n code refused in
    let begins = g.2 in
    let bad = deck_of (lines bytes) in
    let good = opening options.slots.number g.0 in
    let before = done 0 bad.cards.asked m good.system in
    let rest = rest_of_output (jobs_in bad.cards.asked) before.marks before.after g.1 Stopped in (
      g.0,
      g.1,
      begins,
      prints_as_good card_by_card options.slots.number m bad g.0 g.1 n code begins.accounts begins.asked begins.over refused begins.good.ends
          ∙ ap (λ t. t ++ rest) (sym (is_run options m bytes run)),
    )

-- a piece, and what follows it
took_further : (before mid after : List ℕ) (f h g : DeckFeed) (piece more : List ℕ) (a b c : Standing) → Took before f piece mid h a b → Took mid h more after g b c
    → Took before f (piece ++ more) after g a c
took_further before mid after f h g piece more a b c first next = record {
  marks = first.marks ++ next.marks;
  is = λ rest bytes.
      next.is rest bytes
      ∙ first.is (next.marks ++ rest) (more ++ bytes)
      ∙ ap (λ (m : Marks). told m before f (piece ++ (more ++ bytes))) (sym (append_assoc first.marks next.marks rest))
      ∙ ap (λ v. told ((first.marks ++ next.marks) ++ rest) before f v) (sym (append_assoc piece more bytes));
  audit = first.audit ++ next.audit;
  tells = λ rest bytes.
      ap (λ v. audit_told ((first.marks ++ next.marks) ++ rest) f v) (append_assoc piece more bytes)
      ∙ ap (λ (m : Marks). audit_told m f (piece ++ (more ++ bytes))) (append_assoc first.marks next.marks rest)
      ∙ first.tells (next.marks ++ rest) (more ++ bytes)
      ∙ ap (λ (l : List ℕ). first.audit ++ l) (next.tells rest bytes)
      ∙ sym (append_assoc first.audit next.audit (audit_told rest g bytes));
  audited = puts_then a b c first.audit next.audit first.audited next.audited;
}

pub pieces_are_joined : PiecesAreJoined
pieces_are_joined before after f g [] a b took = took
pieces_are_joined before after f g (piece ∷ pieces) a b (mid, h, c, first, others) =
    took_further before mid after f h g piece (joined pieces) a c b first (pieces_are_joined mid after h g pieces c b others)

pub however_cut : HoweverCut
however_cut start f pieces out a b begin took =
    let all = pieces_are_joined [] out start f pieces a b took in
    (all.marks, λ rest bytes. all.is rest bytes ∙ begin (all.marks ++ rest) (joined pieces ++ bytes))

pub read_back_is_stored : ReadBackIsStored
read_back_is_stored sets back = text_is_stored Two (lines (catalogue_text sets)) sets ((reading_spells Two (lines (catalogue_text sets)) sets).1 (read_back sets back))

-- the text of a deck
deck_text : (table : List (List ℕ)) (sets : Sets) → text_of (deck_lines table sets) ≡ deck_around table (closing sets Stopped)
deck_text table sets =
    let line = λ (l : List ℕ). l ++ 10 ∷ [] in
    let cards : List (List ℕ) = codes "$STREAM" ∷ codes "$STOP" ∷ [] in
    flat_map-append line (codes "$ACCOUNTS" ∷ table) (codes "$CATALOGUE 2" ∷ catalogue_lines sets ++ cards)
    ∙ ap (λ t. text_of (codes "$ACCOUNTS" ∷ table) ++ (codes "$CATALOGUE 2\n" ++ t)) (flat_map-append line (catalogue_lines sets) cards)
    ∙ ap (λ t. text_of (codes "$ACCOUNTS" ∷ table) ++ t) (sym (append_assoc (codes "$CATALOGUE 2\n") (catalogue_text sets) (codes "$STREAM\n$STOP\n")))

pub catalogues_run_again : CataloguesRunAgain
catalogues_run_again options m bytes table accounts run stopped back spells differ =
    let run_state = run_state_of options bytes in
    let all = played_run_state 0 m run_state in
    let sets = all.after.scheduler.sets in
    let deck_is = (comes_back table accounts sets spells differ (read_back_is_stored sets back) back.printable).1 in (
      closing sets Stopped,
      is_run options m bytes run ∙ ap (λ (e : Ending). printouts_text all.printouts ++ closing sets e) stopped,
      subst (λ (text : List ℕ). IsDeck (lines text) (deck_over accounts sets)) (deck_text table sets) deck_is,
    )
