-- The data sets that a catalogue's file gives are those that its lines spell.
use Rattle.std.proofs.Common.{◌≡◌, ℕ, ◌+◌, Bool, true, false, if◌then◌else◌, List, [], ◌∷◌, length, Option, None, Some, Result, Ok, Err, refl, sym, ap, ◌∙◌}
use Rattle.std.specs.{List.{AllByRecursion}, Option.{option_or, option_map_or}, Str.Lines.{lines}}
use Rattle.mon_text.specs.Lines.{is_blank_line, words}
use Rattle.mon_catalogue.specs.{declared.version.Version.{Version}, Progress.{Progress, step, is_due, finished}, Sets.{Sets}}
use Rattle.mon_catalogue.proofs.{Shorthand.{after_lines}, Whole.{text_spells}}
use Rattle.mon_catalogue.specs.Progress as progress
use Rattle.deck_lines.specs.{declared.deck_error.DeckError.{DeckError}, CardLines.{IsLineWithin, IsCard}, Refusing.{line_refusal, is_dollar_line}}
use Rattle.deck_lines.specs.declared.card.Card.TheVariants as card
use Rattle.deck_syntax.specs.{Spelling.{version_words}, Sections.{account_refusal, accounts_refusal, catalogue_refusal, ends_catalogue}}
use Rattle.deck_syntax.{specs.inner.Parts.{version_in, heading_refusal}, proofs.Spelled.{neither, taken_line}, proofs.Headings.{heading_spelled}}
use Rattle.site_plan.specs.declared.catalogue.CatalogueFault.{CatalogueFault, TheVariants.{Line, NoCard, Ends}}
use Rattle.site_plan.specs.{Walks.{and_then, at_line, walked}, Catalogues.{after_line, is_ended, whole, sets_behind, sets_in, SpellsCatalogue}}
use Rattle.site_plan.specs.Laws.{GivesSets}

-- lines that were taken are steps, and fit
record Taken (p : Progress) (ls : List (List ℕ)) (q : Progress) : Type 0 where
  reached : after_lines p ls ≡ q
  fit : AllByRecursion (IsLineWithin 5000) ls

taken : (ls : List (List ℕ)) (n : ℕ) (p q : Progress) → walked after_line n p ls ≡ Ok q → Taken p ls q
taken [] n p q is = record { reached = cc; fit = tt }
taken (line ∷ ls) n p q is =
    by (option_or (line_refusal 5000 line) (catalogue_refusal p line)) refl is (taken ls (n + 1) (step p line) q)
  where
    Later : Type 0
    Later = walked after_line (n + 1) (step p line) ls ≡ Ok q → Taken (step p line) ls q

    on : Result Progress CatalogueFault → Result Progress (ℕ × CatalogueFault)
    on r = and_then (at_line n r) (λ known. walked after_line (n + 1) known ls)

    next : (b : Bool) → IsLineWithin 5000 line → on (if b then Err Ends else Ok (step p line)) ≡ Ok q → Later → Taken p (line ∷ ls) q
    next true within is later = cc
    next false within is later = let t = later is in record { reached = t.reached; fit = (within, t.fit) }

    by : (r : Option DeckError) → option_or (line_refusal 5000 line) (catalogue_refusal p line) ≡ r
        → on (option_map_or (λ code. Err (Line code)) r (if ends_catalogue p line then Err Ends else Ok (step p line))) ≡ Ok q
        → Later → Taken p (line ∷ ls) q
    by (Some code) e is later = cc
    by None e is later =
        next (ends_catalogue p line) (taken_line 5000 line (neither (line_refusal 5000 line) (catalogue_refusal p line) e).0) is later

-- where all is whole, these are the data sets
record Ended (ended : Bool) (q : Progress) (sets : Sets) : Type 0 where
  has_end : ended ≡ true
  says : finished q ≡ Ok sets

is_whole : (ended : Bool) (count : ℕ) (q : Progress) (sets : Sets) → whole ended count q ≡ Ok sets → Ended ended q sets
is_whole false count q sets is = cc
is_whole true count (progress.SetDue version n found) sets is = let same : found ≡ sets = cc in record { has_end = refl; says = ap Ok same }
is_whole true count (progress.ListDue version n found head) sets is = cc
is_whole true count (progress.RecordsDue version n found name set left) sets is = cc
is_whole true count (progress.Refused e) sets is = cc
is_whole true count progress.OutOfMemory sets is = cc

module _ (text : List ℕ) (sets : Sets) where
  -- behind the card of a version
  behind : (first : List ℕ) (others : List (List ℕ)) (version : Version) → lines text ≡ first ∷ others → is_dollar_line first ≡ true
      → IsCard 200 card.Catalogue (version_words version) first
      → (r : Result Progress (ℕ × CatalogueFault)) → walked after_line 2 (progress.SetDue version 0 []) others ≡ r
      → and_then r (whole (is_ended text) (1 + length others)) ≡ Ok sets → SpellsCatalogue text sets
  behind first others version are dollar card_is (Err why) e is = cc
  behind first others version are dollar card_is (Ok q) e is =
      let t = taken others 2 (progress.SetDue version 0 []) q e in
      let w = is_whole (is_ended text) (1 + length others) q sets is in
      record {
        version = version;
        first = first;
        others = others;
        lines_are = are;
        card_is = card_is;
        at_once = dollar;
        text_is = text_spells version others sets (ap finished t.reached ∙ w.says);
        text_fits = t.fit;
        ended = w.has_end;
      }

  of_card : (first : List ℕ) (others : List (List ℕ)) → lines text ≡ first ∷ others → (b : Bool) → is_dollar_line first ≡ b
      → (r : Option DeckError) → option_or (line_refusal 200 first) (accounts_refusal [] first) ≡ r
      → and_then (at_line 1 (if b then option_map_or (λ code. Err (Line code)) r (Ok (version_in (words first))) else Err NoCard)) (λ version. sets_behind version (is_ended text) others) ≡ Ok sets
      → SpellsCatalogue text sets
  of_card first others are false dollar r e is = cc
  of_card first others are true dollar (Some code) e is = cc
  of_card first others are true dollar None e is =
      let fine = neither (line_refusal 200 first) (accounts_refusal [] first) e in
      let heading : heading_refusal (words first) ≡ None =
      sym (ap (λ (b : Bool). if b then heading_refusal (words first) else (if is_blank_line first then None else account_refusal [] (words first))) dollar) ∙ fine.1 in
      let version = version_in (words first) in
      behind first others version are dollar (heading_spelled first (taken_line 200 first fine.0) heading) (walked after_line 2 (progress.SetDue version 0 []) others) refl is

  of_lines : (ls : List (List ℕ)) → lines text ≡ ls → sets_in (is_ended text) ls ≡ Ok sets → SpellsCatalogue text sets
  of_lines [] are is = cc
  of_lines (first ∷ others) are is = of_card first others are (is_dollar_line first) refl (option_or (line_refusal 200 first) (accounts_refusal [] first)) refl is

pub gives_sets : GivesSets
gives_sets text sets is = of_lines text sets (lines text) refl is
