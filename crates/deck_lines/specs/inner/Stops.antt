-- What an error of a part below means for the reading of a deck.
use Rattle.std.specs.Prelude.{◌≡◌, Result, Ok, Err, Option, Some, None}
use Rattle.mon_text.specs.declared.line.LineError.{LineError}
use Rattle.mon_text.specs.declared.line.LineError.TheVariants as line
use Rattle.mon_access.specs.declared.table.AccountError.{AccountError}
use Rattle.mon_access.specs.declared.table.AccountError.TheVariants as account
use Rattle.mon_text.specs.declared.stop.Stop.{Stop}
use Rattle.mon_text.specs.declared.stop.Stop.TheVariants.{Refused, Memory}
use Rattle.deck_lines.specs.declared.deck_error.DeckError.{DeckError}
use Rattle.deck_lines.specs.declared.deck_error.DeckError.TheVariants as code

abbrev pub code_of_line : LineError → DeckError
code_of_line line.LineTooLong = code.LineTooLong
code_of_line line.BadCharacter = code.BadCharacter

abbrev pub code_of_account : AccountError → DeckError
code_of_account account.AccountTwice = code.AccountTwice
code_of_account account.TooManyGroups = code.TooManyGroups

-- the same, told by another code
abbrev pub refused_as : {R : Type 0} → (R → DeckError) → Stop R → Stop DeckError
refused_as code_of (Refused refusal) = Refused (code_of refusal)
refused_as code_of Memory = Memory

-- what holds of the code, unless memory ran out
abbrev pub IfRefused : (DeckError → Type 0) → Stop DeckError → Type 0
IfRefused P Memory = Unit {0}
IfRefused P (Refused c) = P c

-- what was answered is what this refusal says, unless memory ran out
abbrev pub Answers : {T : Type 0} → Option DeckError → Result T (Stop DeckError) → Type 0
Answers refusal (Ok x) = refusal ≡ None
Answers refusal (Err stop) = IfRefused (λ c. refusal ≡ Some c) stop
