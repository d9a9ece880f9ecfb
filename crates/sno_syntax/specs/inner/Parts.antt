-- Parts of the definitions by names of their own: for the code and for proofs.
use Rattle.std.specs.Prelude.{not, List}
use Rattle.std.specs.List.{position_or_len}
use Rattle.mon_text.specs.Characters.{is_blank}
use Rattle.sno_cards.specs.declared.refusal.Place.{Place}
use Rattle.sno_cards.specs.Texts.{Placed, text_of}
use Rattle.sno_syntax.specs.Places.{place_at}
use Rattle.sno_cards.specs.declared.refusal.SyntaxCode.{SyntaxCode}
use Rattle.sno_cards.specs.declared.refusal.SyntaxCode.TheVariants.{BadConstant, BlankMissing, Unexpected, VariableNeeded, StatementTooLarge}
use Rattle.sno_lexer.specs.declared.fault.FaultKind.{FaultKind as LexKind}
use Rattle.sno_statement.specs.declared.fault.FaultKind.{FaultKind}
use Rattle.sno_statement.specs.declared.fault.FaultKind.TheVariants.{MissingBlank, Unfit, NoVariable}
use Rattle.sno_lexer.specs.declared.fault.FaultKind.TheVariants as lex

-- where a text begins that is not blank
abbrev pub begin_of : List Placed → Place
begin_of text = place_at text (position_or_len (λ c. not (is_blank c)) (text_of text))

abbrev pub code_of_lex : LexKind → SyntaxCode
code_of_lex lex.BadConstant = BadConstant
code_of_lex lex.Foreign = Unexpected
code_of_lex lex.TooMany = StatementTooLarge

abbrev pub code_of_fault : FaultKind → SyntaxCode
code_of_fault MissingBlank = BlankMissing
code_of_fault Unfit = Unexpected
code_of_fault NoVariable = VariableNeeded
