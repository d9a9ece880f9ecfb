-- Where tokens and faults stand: within the text.
use Rattle.std.proofs.Common.{arith, ◌≡◌, ℕ, ◌+◌, ◌≤◌, ◌<◌, List, [], ◌∷◌, length, drop, length-drop, sym, subst}
use Rattle.std.{specs.Prelude.{Result, Ok, Err}, proofs.lemmas.List.Elements.{All-nil, All-cons}}
use Rattle.sno_lexer.specs.declared.{token.Token.{Token}, begin.Context.{Context}, lexing.Action.{Action}, fault.LexFault.{LexFault}}
use Rattle.sno_lexer.specs.{declared.lexing.Action.TheVariants.{Pass, Take, Refuse}, Listed.{TokenList, StandsBefore}, Lexed.{lexed}, inner.Classes.{token_of}}
use Rattle.sno_lexer.specs.inner.Lexing.{after, on_action, stage, start, step, with_first}

with_first_stands : (token : Token) (at end : ℕ) (r : Result TokenList LexFault) → at < end → StandsBefore end r → StandsBefore end (with_first token at r)
with_first_stands token at end (Ok list) lt h = All-cons (λ (x : ℕ). x < end) at list.offsets lt h
with_first_stands token at end (Err fault) lt h = h

on_move_stands : (s : Context) (at end : ℕ) (text : List ℕ) (action : Action) (rest : Context → Result TokenList LexFault) → at < end
    → ((next : Context) → StandsBefore end (rest next)) → StandsBefore end (on_action s at text action rest)
on_move_stands s at end text (Pass next) rest lt h = h next
on_move_stands s at end text (Take class) rest lt h = with_first_stands (token_of s class text) at end (rest (after s class text)) lt (h (after s class text))
on_move_stands s at end text (Refuse class) rest lt h = lt

stage_stands : (text : List ℕ) (s : Context) (at end : ℕ) → (0 < length text → at + length text ≤ end) → StandsBefore end (stage s at text)
stage_stands [] s at end h = All-nil (λ (x : ℕ). x < end)
stage_stands (c ∷ cs) s at end h =
    let here : at + length (c ∷ cs) ≤ end = h (omega arith) in
    on_move_stands s at end (c ∷ cs) (step s (c ∷ cs)) (λ next. stage next (at + 1) cs) (omega arith)
    (λ next. stage_stands cs next (at + 1) end (λ more. omega arith))

pub lexed_stands : (text : List ℕ) (from : ℕ) (r : Result TokenList LexFault) → r ≡ lexed text from → StandsBefore (length text) r
lexed_stands text from r e =
    subst (StandsBefore (length text)) (sym e)
    (stage_stands (drop from text) start from (length text) (λ more. omega (arith, length-drop from text)))
