-- What tokens and texts are told apart by.
use Rattle.std.specs.Prelude.{◌≡◌, ℕ, Bool, true, false, List, [], ◌∷◌, Option, Some, None, Result, Ok, Err, MatchOption}
use Rattle.mon_text.specs.Characters.{is_blank}
use Rattle.sno_lexer.specs.{declared.token.TokenKind.{TokenKind}, declared.fault.LexFault.{LexFault}, Listed.{TokenList}, Following.{IsFault, TellText}}
use Rattle.sno_lexer.specs.declared.token.TokenKind.TheVariants as kind
use Rattle.sno_lexer.specs.declared.token.Part.TheVariants as part

abbrev pub begins_goto : TokenKind → Bool
begins_goto (kind.Part part.Colon) = true
begins_goto kind = false

-- a blank, or the end, comes next
abbrev pub is_apart : List ℕ → Bool
is_apart [] = true
is_apart (c ∷ cs) = is_blank c

abbrev pub is_some_text : List ℕ → Bool
is_some_text [] = false
is_some_text (c ∷ cs) = true

-- the end of the text, or its fault
abbrev pub IsEnd : Option LexFault → List TokenKind → ℕ → List ℕ → Type 0
IsEnd end before at text = MatchOption end (text ≡ []) (λ fault. (fault.offset ≡ at) × IsFault before fault.kind text)

-- its tokens tell a text, or tokens tell it up to its fault
abbrev pub Told : Result TokenList LexFault → ℕ → Bool → List TokenKind → List ℕ → Type 0
Told (Ok list) at blank before text = TellText None at blank before list.tokens list.offsets text
Told (Err fault) at blank before text = (list : TokenList) × TellText (Some fault) at blank before list.tokens list.offsets text
