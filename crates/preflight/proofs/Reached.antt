-- Where a text has come to after some lines, and what is answered at its end.
use Rattle.std.proofs.Common.{◌≡◌, ℕ, ◌+◌, List, [], ◌∷◌, ◌++◌, Option, Some, None, refl, sym, ap, subst, ◌∙◌, Result, IfOk, IfErr, append-nil}
use Rattle.std.specs.{Option.{option_map_or}, Str.Lines.{lines}}
use Rattle.mon_text.specs.declared.stop.Stop.{Stop}
use Rattle.mon_text.specs.declared.stop.Stop.TheVariants as stop
use Rattle.deck_syntax.specs.Events.{event_in, open_after}
use Rattle.deck_syntax.specs.{Decks.{Asked}, Sections.{Open, Closed, InList, InJob}}
use Rattle.preflight.specs.declared.{intake.Counts.{Counts}, tally.Tally.{Tally}, why.Why.{Why}, why.Refusal.{Refusal}}
use Rattle.preflight.specs.{declared.why.Why.TheVariants.{Unfinished}, Examined.{Admits, Refuses}, inner.Reading.{asks_of, why_in, all_then, at_end, examined}}
use Rattle.preflight.specs.{Submissions.{IfStopped}, Tallies.{tally_of}, inner.Counts.{IsBelow, Counted, refusal_at, ended}}
use Rattle.preflight.proofs.{Tallying.{nothing_below}, Verdicts.{both_then, all_admitted, all_refused}}

-- after these lines the rest of the text stands here
pub record Reached (own text : List ℕ) (place : Open) (counts : Counts) (left : List ℕ) : Type 0 where
  pub asked : List Asked
  pub tally : counts.tally ≡ tally_of asked 0
  pub below : IsBelow counts.number counts.tally
  pub is : examined own 1 Closed (lines text) ≡ all_then asked (examined own counts.number place (lines left))

pub at_first : (own text : List ℕ) → Reached own text Closed (record { number = 1; tally = tally_of [] 0 }) text
at_first own text = record { asked = []; tally = refl; below = nothing_below; is = refl }

module _ (own text : List ℕ) (place : Open) (counts : Counts) (left line behind : List ℕ) (reached : Reached own text place counts left) (cut : lines left ≡ line ∷ lines behind) where
  -- the text, by what its next line is refused for
  by_line : (w : Option Why) → why_in own place line ≡ w → examined own 1 Closed (lines text)
      ≡ all_then reached.asked (option_map_or (Refuses counts.number) w (all_then (asks_of (event_in place line)) (examined own (counts.number + 1) (open_after place line) (lines behind))))
  by_line w e =
      reached.is
      ∙ ap (λ (ls : List (List ℕ)). all_then reached.asked (examined own counts.number place ls)) cut
      ∙ ap (λ w. all_then reached.asked (option_map_or (Refuses counts.number) w (all_then (asks_of (event_in place line)) (examined own (counts.number + 1) (open_after place line) (lines behind))))) e

  pub line_more : (next : Open) (after : Counts) → why_in own place line ≡ None → next ≡ open_after place line → Counted counts after (asks_of (event_in place line))
      → Reached own text next after behind
  line_more next after good opens counted =
      let asked = asks_of (event_in place line) in
      record {
        asked = reached.asked ++ asked;
        tally = counted.tally reached.asked reached.tally;
        below = counted.below reached.below;
        is =
            by_line None good
            ∙ both_then reached.asked asked (examined own (counts.number + 1) (open_after place line) (lines behind))
            ∙ ap (λ (n : ℕ). all_then (reached.asked ++ asked) (examined own n (open_after place line) (lines behind))) (sym counted.number)
            ∙ ap (λ (o : Open). all_then (reached.asked ++ asked) (examined own after.number o (lines behind))) (sym opens);
      }

  pub stopped : (why : Stop Why) (answer : Stop Refusal) → answer ≡ refusal_at counts.number why → IfStopped (λ w. why_in own place line ≡ Some w) why
      → IfStopped (λ refusal. examined own 1 Closed (lines text) ≡ Refuses refusal.line refusal.why) answer
  stopped stop.Memory answer is refused = subst (IfStopped (λ refusal. examined own 1 Closed (lines text) ≡ Refuses refusal.line refusal.why)) (sym is) tt
  stopped (stop.Refused why) answer is refused =
      subst (IfStopped (λ refusal. examined own 1 Closed (lines text) ≡ Refuses refusal.line refusal.why)) (sym is)
      (by_line (Some why) refused ∙ all_refused reached.asked counts.number why)

-- what is answered at the end is what the whole text is
pub record EndsAs (own text : List ℕ) (answer : Result Tally (Stop Refusal)) : Type 0 where
  pub admitted : IfOk answer (λ tally. (asked : List Asked) × (examined own 1 Closed (lines text) ≡ Admits asked) × (tally ≡ tally_of asked 0))
  pub refused : IfErr answer (IfStopped (λ refusal. examined own 1 Closed (lines text) ≡ Refuses refusal.line refusal.why))

module _ (own text left : List ℕ) (none : left ≡ []) (counts : Counts) where
  to_end : (place : Open) (reached : Reached own text place counts left) → examined own 1 Closed (lines text) ≡ all_then reached.asked (at_end counts.number place)
  to_end place reached = reached.is ∙ ap (λ (bytes : List ℕ). all_then reached.asked (examined own counts.number place (lines bytes))) none

  pub at_last : (place : Open) → Reached own text place counts left → EndsAs own text (ended place counts)
  at_last Closed reached = record {
    admitted = (reached.asked ++ [], to_end Closed reached ∙ all_admitted reached.asked [], reached.tally ∙ ap (λ (a : List Asked). tally_of a 0) (sym (append-nil reached.asked)));
    refused = tt;
  }
  at_last (InList list) reached = record { admitted = tt; refused = to_end (InList list) reached ∙ all_refused reached.asked counts.number Unfinished }
  at_last (InJob job) reached = record { admitted = tt; refused = to_end (InJob job) reached ∙ all_refused reached.asked counts.number Unfinished }
