-- A line goes on over the cards that continue it.
use Rattle.std.proofs.Common.{◌≡◌, ℕ, ◌+◌, true, false, List, [], ◌∷◌, ◌++◌, drop, filter, refl, sym, ap, ◌∙◌, arith}
use Rattle.sno_cards.specs.declared.card.CardKind.{CardKind, TheVariants.{Comment, Control, UnknownControl, Continuation, Start}}
use Rattle.sno_cards.specs.{Texts.{Placed}, Cards.{kind_of, is_start, is_continuation}, inner.Parts.{is_statement_card}, inner.Cuts.{Cut, begun, ended, fed}}
use Rattle.sno_cards.{specs.Statements.{placed_on, without_mark, numbered, continued, statements_in}, proofs.Pieces.{line_cut, fed-append}}

-- what continues a line on these cards, the first having this number
abbrev pub on_cards : ℕ → List (List ℕ) → List Placed
on_cards n lines = continued (filter is_statement_card (numbered n lines))

abbrev pub by_kind : CardKind → List Placed → List Placed → List Placed
by_kind Start own later = []
by_kind Continuation own later = own ++ later
by_kind Comment own later = later
by_kind Control own later = later
by_kind UnknownControl own later = later

one_card : (k : CardKind) (n : ℕ) (line : List ℕ) (lines : List (List ℕ)) → kind_of line ≡ k
    → on_cards n (line ∷ lines) ≡ by_kind k (placed_on n 1 (without_mark line)) (on_cards (n + 1) lines)
one_card Comment n line lines e = rw e refl
one_card Control n line lines e = rw e refl
one_card UnknownControl n line lines e = rw e refl
one_card Continuation n line lines e =
    let kept : filter is_statement_card (numbered n (line ∷ lines)) ≡ record { number = n; text = line } ∷ filter is_statement_card (numbered (n + 1) lines) = rw e refl in
    ap continued kept ∙ rw e refl
one_card Start n line lines e =
    let kept : filter is_statement_card (numbered n (line ∷ lines)) ≡ record { number = n; text = line } ∷ filter is_statement_card (numbered (n + 1) lines) = rw e refl in
    ap continued kept ∙ rw e refl

at_start : (k : CardKind) (own later : List Placed) → is_start k ≡ true → by_kind k own later ≡ []
at_start Start own later h = refl
at_start Comment own later h = cc
at_start Control own later h = cc
at_start UnknownControl own later h = cc
at_start Continuation own later h = cc

at_continuation : (k : CardKind) (own later : List Placed) → is_continuation k ≡ true → by_kind k own later ≡ own ++ later
at_continuation Continuation own later h = refl
at_continuation Comment own later h = cc
at_continuation Control own later h = cc
at_continuation UnknownControl own later h = cc
at_continuation Start own later h = cc

at_other : (k : CardKind) (own later : List Placed) → is_start k ≡ false → is_continuation k ≡ false → by_kind k own later ≡ later
at_other Comment own later s h = refl
at_other Control own later s h = refl
at_other UnknownControl own later s h = refl
at_other Continuation own later s h = cc
at_other Start own later s h = cc

-- a card more, which the line goes on to
module _ (n i : ℕ) (lines : List (List ℕ)) (line : List ℕ) (k : CardKind) (here : drop i lines ≡ line ∷ drop (i + 1) lines) (kind : kind_of line ≡ k) where
  one_more : on_cards (n + i) (drop i lines) ≡ by_kind k (placed_on (n + i) 1 (without_mark line)) (on_cards (n + (i + 1)) (drop (i + 1) lines))
  one_more =
      let same : n + i + 1 ≡ n + (i + 1) = omega arith in
      ap (on_cards (n + i)) here ∙ one_card k (n + i) line (drop (i + 1) lines) kind
      ∙ ap (λ m. by_kind k (placed_on (n + i) 1 (without_mark line)) (on_cards m (drop (i + 1) lines))) same

  pub ends_at : is_start k ≡ true → on_cards (n + i) (drop i lines) ≡ []
  ends_at starts = one_more ∙ at_start k (placed_on (n + i) 1 (without_mark line)) (on_cards (n + (i + 1)) (drop (i + 1) lines)) starts

  pub goes_on : (c next : Cut) → is_continuation k ≡ true → next ≡ fed c (placed_on (n + i) 1 (without_mark line))
      → fed c (on_cards (n + i) (drop i lines)) ≡ fed next (on_cards (n + (i + 1)) (drop (i + 1) lines))
  goes_on c next continues is =
      ap (fed c) (one_more ∙ at_continuation k (placed_on (n + i) 1 (without_mark line)) (on_cards (n + (i + 1)) (drop (i + 1) lines)) continues)
      ∙ fed-append c (placed_on (n + i) 1 (without_mark line)) (on_cards (n + (i + 1)) (drop (i + 1) lines))
      ∙ ap (λ m. fed m (on_cards (n + (i + 1)) (drop (i + 1) lines))) (sym is)

  pub passes_over : (c next : Cut) → is_start k ≡ false → is_continuation k ≡ false → next ≡ c
      → fed c (on_cards (n + i) (drop i lines)) ≡ fed next (on_cards (n + (i + 1)) (drop (i + 1) lines))
  passes_over c next no_start no_continuation is =
      ap (fed c) (one_more ∙ at_other k (placed_on (n + i) 1 (without_mark line)) (on_cards (n + (i + 1)) (drop (i + 1) lines)) no_start no_continuation)
      ∙ ap (λ m. fed m (on_cards (n + (i + 1)) (drop (i + 1) lines))) (sym is)

-- nothing more continues the line
pub whole_line : (statements : List (List Placed)) (line more : List Placed) (c : Cut) → fed (begun statements) line ≡ fed c more → more ≡ []
    → ended c ≡ statements ++ statements_in line
whole_line statements line more c same none = sym (ap ended same ∙ ap (λ ps. ended (fed c ps)) none) ∙ line_cut statements line
