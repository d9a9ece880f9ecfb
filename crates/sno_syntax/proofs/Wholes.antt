-- Whole programs: that cards spell at most one, and that none is refused.
use Rattle.std.proofs.Common.{◌≡◌, ◌+◌, ℕ, List, [], ◌∷◌, Some, None, Result, Ok, Err, refl, sym, ap, ◌∙◌}
use Rattle.std.specs.Option.{option_or}
use Rattle.sno_cards.specs.{declared.refusal.SyntaxError.{SyntaxError}, Programs.{ProgramText}, Texts.{Placed}}
use Rattle.sno_lexer.specs.Listed.{TokenList}
use Rattle.sno_statement.{specs.Statements.{Statement}, proofs.Grammar.{one_statement}}
use Rattle.sno_syntax.specs.{declared.start.Start.{Start}, Labels.{LabelList}, Programs.{Program, SpellsBehind, SpellFrom, IsProgram}}
use Rattle.sno_syntax.specs.{Refusals.{label_of, tokens_of, with_label, statements_refusal, start_in, end_refusal, syntax_refusal}, inner.Tokens.{AreTokensOf}}
use Rattle.sno_syntax.proofs.{Behind.{tokens_spell}, Spelled.{no_refusal}}

one_of_tokens : (s t : Statement) (tokens : Result TokenList SyntaxError) → AreTokensOf s tokens → AreTokensOf t tokens → s ≡ t
one_of_tokens s t (Err f) a b = absurd a
one_of_tokens s t (Ok list) a b = one_statement s t list.tokens a.1 b.1

one_behind : (labels : LabelList) (text : List Placed) (s t : Statement) → SpellsBehind labels text s → SpellsBehind labels text t → s ≡ t
one_behind labels text s t a b = one_of_tokens s t (tokens_of text) (tokens_spell text s a.1) (tokens_spell text t b.1)

one_from : (labels : LabelList) (i : ℕ) (texts : List (List Placed)) (ss ts : List Statement) → SpellFrom labels i texts ss
    → SpellFrom labels i texts ts → ss ≡ ts
one_from labels i [] [] [] a b = refl
one_from labels i [] [] (t ∷ ts) a b = absurd b
one_from labels i [] (s ∷ ss) ts a b = absurd a
one_from labels i (text ∷ texts) [] ts a b = absurd a
one_from labels i (text ∷ texts) (s ∷ ss) [] a b = absurd b
one_from labels i (text ∷ texts) (s ∷ ss) (t ∷ ts) a b =
    ap (λ h. h ∷ ss) (one_behind labels text s t a.0 b.0) ∙ ap (λ r. t ∷ r) (one_from (with_label labels (label_of text) i) (i + 1) texts ss ts a.1 b.1)

one_start : (s t : Start) → Some s ≡ Some t → s ≡ t
one_start s t e = cc

pub one_program : (cards : ProgramText) (p q : Program) → IsProgram cards p → IsProgram cards q → p ≡ q
one_program cards p q a b =
    ap (λ ss. record p { statements = ss }) (one_from [] 0 cards.statements p.statements q.statements a.0 b.0)
    ∙ ap (λ ls. record { statements = q.statements; labels = ls; start = p.start }) (a.1 ∙ sym b.1)
    ∙ ap (λ s. record q { start = s }) (one_start p.start q.start (sym a.2 ∙ b.2))

clean_from : (labels : LabelList) (i : ℕ) (texts : List (List Placed)) (ss : List Statement) → SpellFrom labels i texts ss
    → statements_refusal labels i texts ≡ None
clean_from labels i [] ss a = refl
clean_from labels i (text ∷ texts) [] a = absurd a
clean_from labels i (text ∷ texts) (s ∷ ss) a =
    ap (λ first. option_or first (statements_refusal (with_label labels (label_of text) i) (i + 1) texts)) (no_refusal labels text s a.0)
    ∙ clean_from (with_label labels (label_of text) i) (i + 1) texts ss a.1

pub not_refused : (cards : ProgramText) (p : Program) → IsProgram cards p → syntax_refusal cards ≡ None
not_refused cards p a =
    ap (λ first. option_or first (end_refusal cards.end_rest (start_in cards))) (clean_from [] 0 cards.statements p.statements a.0)
    ∙ ap (end_refusal cards.end_rest) a.2
