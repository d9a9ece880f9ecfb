-- One statement after the other.
use Rattle.std.proofs.Common.{◌≡◌, ◌+◌, ℕ, List, [], ◌∷◌, ◌++◌, drop, map, None, Result, Ok, Err, sym, ap, ◌∙◌, subst, append-nil}
use Rattle.std.{specs.Prelude.{option_map}, specs.Option.{option_or}, proofs.lemmas.List.{map-append}}
use Rattle.std.proofs.Common.{append_assoc}
use Rattle.sno_cards.specs.{declared.refusal.SyntaxError.{SyntaxError}, Texts.{Placed}}
use Rattle.sno_lexer.specs.Listed.{TokenList}
use Rattle.sno_statement.specs.{Statements.{Statement}, Abstraction.{statement_of}, declared.statement.Statement.{Statement as AStatement}}
use Rattle.sno_statement.proofs.Leftmost.{fit_none}
use Rattle.sno_syntax.{specs.Labels.{LabelList}, specs.Programs.{SpellsBehind, SpellFrom}, specs.inner.Tokens.{AreTokensOf}, proofs.Behind.{tokens_spell}}
use Rattle.sno_syntax.specs.Refusals.{label_of, tokens_of, label_first, fault_refusal, stage_refusal, statement_refusal, with_label, statements_refusal, labels_from}

-- what spells a statement is not refused
pub clean : (text : List Placed) (s : Statement) (tokens : Result TokenList SyntaxError) → AreTokensOf s tokens → stage_refusal text tokens ≡ None
clean text s (Err refusal) spells = absurd spells
clean text s (Ok list) spells = ap (option_map (fault_refusal text list.offsets)) (fit_none list.tokens (s, spells.0, spells.1))

pub no_refusal : (labels : LabelList) (text : List Placed) (s : Statement) → SpellsBehind labels text s → statement_refusal labels text ≡ None
no_refusal labels text s spells =
    ap (λ fault. label_first text fault (stage_refusal text (tokens_of text))) spells.0 ∙ clean text s (tokens_of text) (tokens_spell text s spells.1)

-- a statement more was read
module _ (texts : List (List Placed)) (labels next : LabelList) (i : ℕ) (text : List Placed) (s : Statement)
    (here : drop i texts ≡ text ∷ drop (i + 1) texts) (spells : SpellsBehind labels text s) (noted : next ≡ with_label labels (label_of text) i) where
  abbrev rest : List (List Placed)
  rest = drop (i + 1) texts

  pub refusal_more : statements_refusal labels i (drop i texts) ≡ statements_refusal next (i + 1) rest
  refusal_more =
      ap (statements_refusal labels i) here
      ∙ ap (λ first. option_or first (statements_refusal (with_label labels (label_of text) i) (i + 1) rest)) (no_refusal labels text s spells)
      ∙ ap (λ ls. statements_refusal ls (i + 1) rest) (sym noted)

  pub labels_more : labels_from labels i (drop i texts) ≡ labels_from next (i + 1) rest
  labels_more = ap (labels_from labels i) here ∙ ap (λ ls. labels_from ls (i + 1) rest) (sym noted)

  pub spelled_more : (ss : List Statement) → SpellFrom next (i + 1) rest ss → SpellFrom labels i (drop i texts) (s ∷ ss)
  spelled_more ss more =
      subst (λ ts. SpellFrom labels i ts (s ∷ ss)) (sym here) (spells, subst (λ ls. SpellFrom ls (i + 1) rest ss) noted more)

-- and is the last so far
pub last_more : (before after : List AStatement) (s : AStatement) (ss : List Statement) → after ≡ before ++ s ∷ []
    → map statement_of before ++ statement_of s ∷ ss ≡ map statement_of after ++ ss
last_more before after s ss is =
    sym (append_assoc (map statement_of before) (statement_of s ∷ []) ss)
    ∙ ap (λ ms. ms ++ ss) (sym (ap (map statement_of) is ∙ map-append statement_of before (s ∷ [])))

-- no text is left
pub spelled_all : (texts : List (List Placed)) (labels : LabelList) (i : ℕ) (read : List AStatement) → drop i texts ≡ []
    → ((ss : List Statement) → SpellFrom labels i (drop i texts) ss → SpellFrom [] 0 texts (map statement_of read ++ ss))
    → SpellFrom [] 0 texts (map statement_of read)
spelled_all texts labels i read none on =
    subst (SpellFrom [] 0 texts) (append-nil (map statement_of read)) (on [] (subst (λ ts. SpellFrom labels i ts []) (sym none) tt))
