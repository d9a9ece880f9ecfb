-- The catalogue of a site, as it stands in its file (own): the card of a catalogue, and the lines of whole data sets, each ended by a
-- line feed. Each is refused where a deck would be refused; and no card ends the catalogue.
use Rattle.std.specs.Prelude.{◌≡◌, ℕ, ◌+◌, ◌-◌, ◌==◌, Bool, false, List, [], ◌∷◌, length, Result, Ok, Err, IsTrue, slice_get, if◌then◌else◌}
use Rattle.std.specs.Option.{option_or, option_map_or}
use Rattle.std.specs.List.{AllByRecursion}
use Rattle.std.specs.Str.Lines.{lines}
use Rattle.mon_text.specs.Lines.{words}
use Rattle.mon_catalogue.specs.declared.version.Version.{Version}
use Rattle.mon_catalogue.specs.Progress.{Progress, SetDue, step, is_due}
use Rattle.mon_catalogue.specs.Sets.{Sets}
use Rattle.mon_catalogue.specs.Spelling.{IsCatalogueText}
use Rattle.deck_lines.specs.declared.card.Card.TheVariants as card
use Rattle.deck_lines.specs.CardLines.{IsLineWithin, IsCard}
use Rattle.deck_lines.specs.Refusing.{line_refusal, is_dollar_line}
use Rattle.deck_syntax.specs.Sections.{accounts_refusal, catalogue_refusal, ends_catalogue, sets_of}
use Rattle.deck_syntax.specs.Spelling.{version_words}
use Rattle.deck_syntax.specs.inner.Parts.{version_in}
use Rattle.site_plan.specs.declared.catalogue.CatalogueFault.{CatalogueFault}
use Rattle.site_plan.specs.declared.catalogue.CatalogueFault.TheVariants.{Line, NoCard, Ends, Unended, Unfinished}
use Rattle.site_plan.specs.Walks.{and_then, at_line, walked}

-- the version of the text, by the card
abbrev pub version_of : List ℕ → Result Version CatalogueFault
version_of line =
    if is_dollar_line line then option_map_or (λ code. Err (Line code)) (option_or (line_refusal 200 line) (accounts_refusal [] line)) (Ok (version_in (words line)))
    else Err NoCard

abbrev pub after_line : Progress → List ℕ → Result Progress CatalogueFault
after_line p line =
    option_map_or (λ code. Err (Line code)) (option_or (line_refusal 5000 line) (catalogue_refusal p line))
    (if ends_catalogue p line then Err Ends else Ok (step p line))

-- whether the last line has a line end
abbrev pub is_ended : List ℕ → Bool
is_ended text = option_map_or (λ last. last == 10) (slice_get text (length text - 1)) false

-- what stands at the end of so many lines
abbrev pub whole : Bool → ℕ → Progress → Result Sets (ℕ × CatalogueFault)
whole ended count p =
    if ended then (if is_due p then Ok (sets_of p) else Err (count + 1, Unfinished))
    else Err (count, Unended)

-- the data sets of the lines behind the card, or the first line that is wrong, and why
abbrev pub sets_behind : Version → Bool → List (List ℕ) → Result Sets (ℕ × CatalogueFault)
sets_behind version ended lines = and_then (walked after_line 2 (SetDue version 0 []) lines) (whole ended (1 + length lines))

abbrev pub sets_in : Bool → List (List ℕ) → Result Sets (ℕ × CatalogueFault)
sets_in ended [] = Err (1, NoCard)
sets_in ended (first ∷ lines) = and_then (at_line 1 (version_of first)) (λ version. sets_behind version ended lines)

-- the data sets that a file spells, or its first line that is wrong, and why
abbrev pub catalogue_of : List ℕ → Result Sets (ℕ × CatalogueFault)
catalogue_of text = sets_in (is_ended text) (lines text)

-- the lines of a file are the card of a catalogue, and a text of these data sets in the version that the card tells
pub record SpellsCatalogue (text : List ℕ) (sets : Sets) : Type 0 where
  pub version : Version
  pub first : List ℕ
  pub others : List (List ℕ)
  pub lines_are : lines text ≡ first ∷ others
  pub card_is : IsCard 200 card.Catalogue (version_words version) first
  pub at_once : IsTrue (is_dollar_line first)
  pub text_is : IsCatalogueText version others sets
  pub text_fits : AllByRecursion (IsLineWithin 5000) others
  pub ended : IsTrue (is_ended text)
