-- The words behind two cards: the version of a catalogue's text, and the mode of a new data set.
use Rattle.std.proofs.Common.{◌≡◌, inl, inr, ℕ, suc, nat_eq, Bool, true, false, if◌then◌else◌, List, [], ◌∷◌, length, Option, None, Some, is_some, refl, sym, ap, ◌∙◌, arith, true≢false}
use Rattle.std.specs.{Prelude.{codes, unwrap_or, bytes_eq}, Cmp.Lexicographic.{pointwise}, Option.{option_or}}
use Rattle.std.proofs.lemmas.Slice.Eq.{bytes_eq-Decides}
use borrow.Author.Tests.{ne_eqb}
use Rattle.mon_text.specs.Lines.{words}
use Rattle.mon_catalogue.specs.declared.{mode.Mode.{Mode}, mode.Mode.TheVariants.{Seq, Append}, version.Version.{Version}}
use Rattle.mon_catalogue.{specs.declared.version.Version.TheVariants.{One, Two}, specs.Modes.{mode_of, mode_word}, proofs.Heads.{mode_reads}}
use Rattle.deck_lines.specs.declared.{card.Card.{Card}, deck_error.DeckError.TheVariants.{UnknownCard, BadCard, OutOfPlace}}
use Rattle.deck_lines.specs.{Cards.{card_among, is_card}, Refusing.{unless, due_card_refusal}, CardLines.{IsLineWithin, IsCard}}
use Rattle.deck_lines.specs.declared.card.Card.TheVariants as card
use Rattle.deck_syntax.specs.{Sections.{version_on}, inner.Parts.{version_in, heading_refusal}, Requests.{mode_on}, Spelling.{version_words, AskForMode}}
use Rattle.deck_syntax.proofs.Spelled.{neither, passes, found_is_due}

-- ---- the version

version_read : (word : List ℕ) (version : Version) → version_on (word ∷ version_words version) ≡ Some version
version_read word One = refl
version_read word Two = refl

pub version_is : (line word : List ℕ) (version : Version) → words line ≡ word ∷ version_words version → version_in (words line) ≡ version
version_is line word version is = ap version_in is ∙ ap (λ (o : Option Version). unwrap_or o One) (version_read word version)

pub heading_taken : (line : List ℕ) (version : Version) → IsCard 200 card.Catalogue (version_words version) line → heading_refusal (words line) ≡ None
heading_taken line version is =
    ap heading_refusal is.words_are
    ∙ ap (λ (o : Option Version). due_card_refusal card.Catalogue (is_some o) (is.word ∷ version_words version)) (version_read is.word version)
    ∙ ap (λ (o : Option Card). option_or (unless (is_some o) UnknownCard) (option_or (unless (is_card card.Catalogue o) OutOfPlace) None)) is.names_it

-- words that name a version are these
abbrev NamesVersion : List (List ℕ) → Type 0
NamesVersion ws = (word : List ℕ) × (ws ≡ word ∷ version_words (version_in ws))

version_spelled : (ws : List (List ℕ)) → is_some (version_on ws) ≡ true → NamesVersion ws
version_spelled [] h = cc
version_spelled (a ∷ []) h = (a, refl)
version_spelled (a ∷ b ∷ []) h = by (bytes_eq b (codes "2")) refl h
  where
    by : (t : Bool) → bytes_eq b (codes "2") ≡ t → is_some (if t then Some Two else None) ≡ true
        → (word : List ℕ) × ((a ∷ b ∷ []) ≡ word ∷ version_words (unwrap_or (if t then Some Two else None) One))
    by true e h = (a, ap (λ (x : List ℕ). a ∷ x ∷ []) ((bytes_eq-Decides b (codes "2")).0 e))
    by false e h = cc
version_spelled (a ∷ b ∷ c ∷ ws) h = absurd (true≢false (sym h ∙ none))
  where
    none : is_some (version_on (a ∷ b ∷ c ∷ ws)) ≡ false
    none = rw (ne_eqb (suc (suc (suc (length ws)))) 1 (omega arith), ne_eqb (suc (suc (suc (length ws)))) 2 (omega arith)) refl

pub heading_spelled : (line : List ℕ) → IsLineWithin 200 line → heading_refusal (words line) ≡ None → IsCard 200 card.Catalogue (version_words (version_in (words line))) line
heading_spelled line within h =
    let some = neither (unless (is_some (card_among (words line))) UnknownCard) _ h in
    let two = neither (unless (is_card card.Catalogue (card_among (words line))) OutOfPlace) _ some.1 in
    let found = found_is_due card.Catalogue (card_among (words line)) (passes (is_card card.Catalogue (card_among (words line))) OutOfPlace two.0) in
    let spelled = version_spelled (words line) (passes (is_some (version_on (words line))) BadCard two.1) in
    record { word = spelled.0; line_is = within; words_are = spelled.1; names_it = ap card_among (sym spelled.1) ∙ found }

-- ---- the mode

mode_is : (word : List ℕ) (mode : Mode) → mode_of word ≡ Some mode → word ≡ mode_word mode
mode_is word mode h = by (pointwise nat_eq word (codes "SEQ")) (pointwise nat_eq word (codes "APPEND")) refl refl h
  where
    by : (s a : Bool) → pointwise nat_eq word (codes "SEQ") ≡ s → pointwise nat_eq word (codes "APPEND") ≡ a
        → (if s then Some Seq else if a then Some Append else None) ≡ Some mode → word ≡ mode_word mode
    by true a i j h = let same : Seq ≡ mode = cc (h) in (bytes_eq-Decides word (codes "SEQ")).0 i ∙ ap mode_word same
    by false true i j h = let same : Append ≡ mode = cc (h) in (bytes_eq-Decides word (codes "APPEND")).0 j ∙ ap mode_word same
    by false false i j h = cc

pub mode_read : (word account name : List ℕ) (others : List (List ℕ)) (mode : Mode) → AskForMode mode others → mode_on (word ∷ account ∷ name ∷ others) ≡ Some mode
mode_read word account name others mode (inl is) = ap (λ (o : List (List ℕ)). mode_on (word ∷ account ∷ name ∷ o)) is ∙ mode_reads mode
mode_read word account name others mode (inr (is, none)) =
    ap (λ (o : List (List ℕ)). mode_on (word ∷ account ∷ name ∷ o)) none ∙ ap (λ (m : Mode). Some m) (sym is)

-- words that ask for a mode
pub record AsksForMode (ws : List (List ℕ)) : Type 0 where
  pub word : List ℕ
  pub account : List ℕ
  pub name : List ℕ
  pub others : List (List ℕ)
  pub words_are : ws ≡ word ∷ account ∷ name ∷ others
  pub mode_is : AskForMode (unwrap_or (mode_on ws) Seq) others

pub mode_spelled : (ws : List (List ℕ)) → is_some (mode_on ws) ≡ true → AsksForMode ws
mode_spelled [] h = cc
mode_spelled (a ∷ []) h = cc
mode_spelled (a ∷ b ∷ []) h = cc
mode_spelled (a ∷ b ∷ c ∷ []) h = record { word = a; account = b; name = c; others = []; words_are = refl; mode_is = inr (refl, refl) }
mode_spelled (a ∷ b ∷ c ∷ d ∷ []) h = record { word = a; account = b; name = c; others = d ∷ []; words_are = refl; mode_is = by (mode_of d) refl h }
  where
    by : (o : Option Mode) → mode_of d ≡ o → is_some o ≡ true → AskForMode (unwrap_or o Seq) (d ∷ [])
    by None e h = cc
    by (Some mode) e h = inl (ap (λ (x : List ℕ). x ∷ []) (mode_is d mode e))
mode_spelled (a ∷ b ∷ c ∷ d ∷ e ∷ ws) h = absurd (true≢false (sym h ∙ none))
  where
    none : is_some (mode_on (a ∷ b ∷ c ∷ d ∷ e ∷ ws)) ≡ false
    none = rw (ne_eqb (suc (suc (suc (suc (suc (length ws)))))) 3 (omega arith), ne_eqb (suc (suc (suc (suc (suc (length ws)))))) 4 (omega arith)) refl
