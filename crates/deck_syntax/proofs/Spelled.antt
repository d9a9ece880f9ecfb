-- Lines that are not refused, as the tests tell them and as the relations do.
use Rattle.std.proofs.Common.{◌≡◌, ℕ, suc, ◌==◌, nat_lt, Bool, true, false, cond, not, ◌&&◌, if◌then◌else◌, List, [], ◌∷◌, length, filter, Option, None, Some, is_some, refl, sym, ap, subst, ◌∙◌, arith, true≢false}
use Rattle.std.specs.{List.{list_all, slice_split, onto_first}, Option.{option_or}}
use Rattle.std.proofs.lemmas.{Bool.Decides.{nat_tests}, List.Splits.{slice_split-cons_no, length-slice_split}}
use borrow.Author.Tests.{eqb-true, ne_eqb, le-ltb}
use Rattle.mon_text.specs.{Characters.{is_printable, is_blank}, Names.{is_name}, Lines.{is_line, is_blank_line, is_nonempty, words}}
use Rattle.mon_catalogue.proofs.Blanks.{both, no_words}
use Rattle.deck_lines.specs.{declared.card.Card.{Card}, declared.deck_error.DeckError.{DeckError}, Cards.{card_among, is_card}, contracts.card.Card.{the_type}}
use Rattle.deck_lines.specs.declared.deck_error.DeckError.TheVariants.{BadCharacter, LineTooLong, UnknownCard, BadCard, OutOfPlace}
use Rattle.deck_lines.specs.{Refusing.{unless, line_refusal, lone_card_refusal, is_dollar_line}, CardLines.{IsLineWithin, IsCard}}
use denote.Enum.Bare.{sameb, same_true}

pub both_hold : (a b : Bool) → a ≡ true → b ≡ true → (a && b) ≡ true
both_hold a b h k = rw (h, k) refl

pub neither : (a b : Option DeckError) → option_or a b ≡ None → (a ≡ None) × (b ≡ None)
neither None b h = (refl, h)
neither (Some code) b h = cc

pub passes : (b : Bool) (code : DeckError) → unless b code ≡ None → b ≡ true
passes true code h = refl
passes false code h = cc

-- ---- lines

pub line_taken : (limit : ℕ) (line : List ℕ) → IsLineWithin limit line → line_refusal limit line ≡ None
line_taken limit line (short, is) =
    ap (λ (b : Bool). if b then Some LineTooLong else unless (is_line line) BadCharacter) (le-ltb limit (length line) short)
    ∙ ap (λ (b : Bool). unless b BadCharacter) is

pub taken_line : (limit : ℕ) (line : List ℕ) → line_refusal limit line ≡ None → IsLineWithin limit line
taken_line limit line h = by (nat_lt limit (length line)) refl h
  where
    by : (b : Bool) → nat_lt limit (length line) ≡ b → (if b then Some LineTooLong else unless (is_line line) BadCharacter) ≡ None → IsLineWithin limit line
    by true e h = cc
    by false e h = (grind (arith, nat_tests, e), passes (is_line line) BadCharacter h)

pub blank_is_line : (line : List ℕ) → is_blank_line line ≡ true → is_line line ≡ true
blank_is_line [] h = refl
blank_is_line (c ∷ cs) h =
    let parts = both (is_blank c) (is_blank_line cs) h in
    both_hold (is_printable c) (is_line cs) (ap is_printable (eqb-true c 32 parts.0)) (blank_is_line cs parts.1)

pub not_blank : (line word : List ℕ) (others : List (List ℕ)) → words line ≡ word ∷ others → is_blank_line line ≡ false
not_blank line word others has = by (is_blank_line line) refl
  where
    by : (b : Bool) → is_blank_line line ≡ b → b ≡ false
    by false e = refl
    by true e = let none = no_words line e in cc

-- ---- lines that begin with a dollar sign

abbrev pub BeginsWithDollar : List (List ℕ) → Type 0
BeginsWithDollar ws = (rest : List ℕ) × (others : List (List ℕ)) × (ws ≡ (36 ∷ rest) ∷ others)

pub dollar_words : (line : List ℕ) → is_dollar_line line ≡ true → BeginsWithDollar (words line)
dollar_words [] h = absurd (true≢false (sym h))
dollar_words (c ∷ cs) h = subst (λ (d : ℕ). BeginsWithDollar (words (d ∷ cs))) (sym (eqb-true c 36 h)) (by (slice_split is_blank cs) refl)
  where
    by : (parts : List (List ℕ)) → slice_split is_blank cs ≡ parts → BeginsWithDollar (words (36 ∷ cs))
    by [] e = absurd (omega (arith, length-slice_split is_blank cs, ap length e))
    by (first ∷ others) e = (
      first,
      filter is_nonempty others,
      ap (filter is_nonempty) (slice_split-cons_no is_blank 36 cs refl ∙ ap (onto_first 36) e)
          ∙ ap (λ (b : Bool). cond b ((36 ∷ first) ∷ filter is_nonempty others) (filter is_nonempty others)) (ap not (ne_eqb (suc (length first)) 0 (omega arith))),
    )

-- a line without words does not
pub no_dollar_blank : (line : List ℕ) → is_blank_line line ≡ true → is_dollar_line line ≡ false
no_dollar_blank line blank = by (is_dollar_line line) refl
  where
    by : (b : Bool) → is_dollar_line line ≡ b → b ≡ false
    by false e = refl
    by true e = let dollar = dollar_words line e in let none = no_words line blank in let has = dollar.2 in cc

-- nor does a line of names
pub no_dollar_names : (line : List ℕ) → list_all is_name (words line) ≡ true → is_dollar_line line ≡ false
no_dollar_names line names = by (is_dollar_line line) refl
  where
    by : (b : Bool) → is_dollar_line line ≡ b → b ≡ false
    by false e = refl
    by true e =
        let dollar = dollar_words line e in
        let bad : list_all is_name ((36 ∷ dollar.0) ∷ dollar.1) ≡ true = ap (list_all is_name) (sym dollar.2) ∙ names in
        absurd (true≢false (sym bad))

-- ---- cards

pub lone_card_taken : (due : Card) (limit : ℕ) (line : List ℕ) → sameb the_type due due ≡ true → IsCard limit due [] line → lone_card_refusal due (words line) ≡ None
lone_card_taken due limit line same is =
    ap (lone_card_refusal due) is.words_are
    ∙ ap (λ (o : Option Card). option_or (unless (is_some o) UnknownCard) (option_or (unless (is_card due o) OutOfPlace) (unless (length (is.word ∷ []) == 1) BadCard))) is.names_it
    ∙ ap (λ (b : Bool). option_or (unless b OutOfPlace) None) same

-- a card with no further word
pub alone : (due : Card) (limit : ℕ) (line : List ℕ) → IsLineWithin limit line → card_among (words line) ≡ Some due → (length (words line) == 1) ≡ true → IsCard limit due [] line
alone due limit line within is one = by (words line) refl is one
  where
    by : (ws : List (List ℕ)) → words line ≡ ws → card_among ws ≡ Some due → (length ws == 1) ≡ true → IsCard limit due [] line
    by [] e is one = cc
    by (word ∷ []) e is one = record { word = word; line_is = within; words_are = e; names_it = is }
    by (word ∷ other ∷ ws) e is one = absurd (true≢false (sym one ∙ ne_eqb (suc (suc (length ws))) 1 (omega arith)))

-- the card that is found is the one that is due
pub found_is_due : (due : Card) (o : Option Card) → is_card due o ≡ true → o ≡ Some due
found_is_due due None h = cc
found_is_due due (Some card) h = ap Some (same_true the_type tt card due h)

pub lone_card : (due : Card) (limit : ℕ) (line : List ℕ) → IsLineWithin limit line → lone_card_refusal due (words line) ≡ None → IsCard limit due [] line
lone_card due limit line within h =
    let some = neither (unless (is_some (card_among (words line))) UnknownCard) _ h in
    let two = neither (unless (is_card due (card_among (words line))) OutOfPlace) _ some.1 in
    alone due limit line within (found_is_due due (card_among (words line)) (passes (is_card due (card_among (words line))) OutOfPlace two.0))
    (passes (length (words line) == 1) BadCard two.1)
