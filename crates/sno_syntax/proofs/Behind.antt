-- What stands behind a label is what the token stage gives.
use Rattle.std.proofs.Common.{◌≡◌, List, length, Result, Ok, Err, sym, ap, subst}
use Rattle.sno_cards.specs.{declared.refusal.SyntaxError.{SyntaxError}, Texts.{Placed, text_of}}
use Rattle.sno_lexer.specs.{declared.fault.LexFault.{LexFault}, Listed.{TokenList}, Lexed.{lexed}}
use Rattle.sno_lexer.proofs.{Once.{nothing_else_tells_it}, Telling.{tokens_tell_the_text}}
use Rattle.sno_statement.specs.Statements.{Statement}
use Rattle.sno_syntax.specs.{Refusals.{label_of, with_place, tokens_of, HasTokens}, Programs.{TextSpells}, inner.Tokens.{AreTokensOf}}

-- what the token stage gives
abbrev pub given : List Placed → Result TokenList LexFault
given text = lexed (text_of text) (length (label_of text))

pub given_stands : (text : List Placed) → HasTokens text (given text)
given_stands text = tokens_tell_the_text (text_of text) (length (label_of text))

pub only_given : (text : List Placed) (r : Result TokenList LexFault) → HasTokens text r → tokens_of text ≡ with_place text r
only_given text r h = ap (with_place text) (sym (nothing_else_tells_it (text_of text) (length (label_of text)) r h))

spelled_by : (text : List Placed) (s : Statement) (r : Result TokenList LexFault) → HasTokens text r → AreTokensOf s (with_place text r) → TextSpells text s
spelled_by text s (Ok list) h a = (list, h, a.0, a.1)
spelled_by text s (Err fault) h a = absurd a

pub text_spells : (text : List Placed) (s : Statement) → AreTokensOf s (tokens_of text) → TextSpells text s
text_spells text s a = spelled_by text s (given text) (given_stands text) a

pub tokens_spell : (text : List Placed) (s : Statement) → TextSpells text s → AreTokensOf s (tokens_of text)
tokens_spell text s p = subst (λ (r : Result TokenList SyntaxError). AreTokensOf s r) (sym (only_given text (Ok p.0) p.1)) (p.2, p.3)
