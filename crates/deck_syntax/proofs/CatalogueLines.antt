-- A line where the catalogue would end, and that is no `$STREAM` alone.
use Rattle.std.proofs.Common.{◌≡◌, Bool, true, false, ◌&&◌, ℕ, List, Option, Some, None, refl, sym, ap, ◌∙◌, subst, if◌then◌else◌}
use Rattle.std.specs.{Prelude.{not}, Option.{option_or}}
use Rattle.mon_text.specs.{Lines.{words, is_blank_line}, declared.stop.Stop.{Stop}}
use Rattle.mon_catalogue.specs.Progress.{Progress, SetDue, ListDue, RecordsDue, Refused, OutOfMemory, step, stopped, is_due}
use Rattle.deck_lines.specs.declared.card.Card.TheVariants as card
use Rattle.deck_lines.specs.{declared.deck_error.DeckError.{DeckError}, Cards.{is_card, card_among}, Refusing.{line_refusal, lone_card_refusal}}
use Rattle.deck_lines.specs.inner.Stops.{IfRefused}
use Rattle.mon_text.specs.declared.stop.Stop.TheVariants as stop
use Rattle.deck_syntax.specs.{Sections.{ends_catalogue, catalogue_refusal}, inner.Parts.{text_refusal}}

-- what ends the catalogue wrongly
abbrev wrong_end : Progress → List ℕ → Option DeckError
wrong_end p line = if ends_catalogue p line then lone_card_refusal card.Stream (words line) else None

pub wrongly_ended : (p : Progress) (line text : List ℕ) → line ≡ text → line_refusal 5000 text ≡ None
    → (s : Stop DeckError) → IfRefused (λ code. wrong_end p line ≡ Some code) s → IfRefused (λ code. option_or (line_refusal 5000 text) (catalogue_refusal p text) ≡ Some code) s
wrongly_ended p line text is good stop.Memory why = tt
wrongly_ended p line text is good (stop.Refused code) why = by (ends_catalogue p text) refl (subst (λ (l : List ℕ). wrong_end p l ≡ Some code) is why)
  where
    by : (b : Bool) → ends_catalogue p text ≡ b → wrong_end p text ≡ Some code → option_or (line_refusal 5000 text) (catalogue_refusal p text) ≡ Some code
    by true e why' =
        ap (λ r. option_or r (catalogue_refusal p text)) good
        ∙ ap (λ b. if b then lone_card_refusal card.Stream (words text) else text_refusal (step p text)) e
        ∙ sym (ap (λ b. if b then lone_card_refusal card.Stream (words text) else None) e) ∙ why'
    by false e why' = let none : None ≡ Some code = sym (ap (λ b. if b then lone_card_refusal card.Stream (words text) else None) e) ∙ why' in cc

-- where no `$SET` line is due no line ends the catalogue
pub goes_on_within : (p : Progress) (line : List ℕ) → is_due p ≡ false → ends_catalogue p line ≡ false
goes_on_within p line due = ap (λ (b : Bool). b && not (is_blank_line line) && not (is_card card.Set (card_among (words line)))) due

not_refused : (p : Progress) → stopped p ≡ None → text_refusal p ≡ None
not_refused (SetDue version n sets) goes = refl
not_refused (ListDue version n sets head) goes = refl
not_refused (RecordsDue version n sets name set left) goes = refl
not_refused (Refused e) goes = cc
not_refused OutOfMemory goes = refl

-- a line that the text takes there
pub taken_within : (p new : Progress) (line : List ℕ) → line_refusal 5000 line ≡ None → is_due p ≡ false → new ≡ step p line → stopped new ≡ None
    → option_or (line_refusal 5000 line) (catalogue_refusal p line) ≡ None
taken_within p new line good due is goes =
    ap (λ r. option_or r (catalogue_refusal p line)) good
    ∙ ap (λ b. if b then lone_card_refusal card.Stream (words line) else text_refusal (step p line)) (goes_on_within p line due)
    ∙ not_refused (step p line) (ap stopped (sym is) ∙ goes)
