-- The texts of the codes (own).
use Rattle.std.specs.Prelude.{ℕ, List, codes, take}
use Rattle.sno_cards.specs.declared.refusal.SyntaxCode.{SyntaxCode}
use Rattle.sno_cards.specs.declared.refusal.SyntaxCode.TheVariants.{NoEndLine, NothingToContinue, UnknownControlCard, BadConstant, BlankMissing, Unexpected, LabelTaken, VariableNeeded, StatementTooLarge, BadEnd}

abbrev pub code_text : SyntaxCode → List ℕ
code_text NoEndLine = codes "S1 NO END LINE"
code_text NothingToContinue = codes "S2 NOTHING TO CONTINUE"
code_text UnknownControlCard = codes "S3 UNKNOWN CONTROL CARD"
code_text BadConstant = codes "P1 BAD CONSTANT"
code_text BlankMissing = codes "P2 BLANK MISSING"
code_text Unexpected = codes "P3 UNEXPECTED"
code_text LabelTaken = codes "P4 LABEL TAKEN"
code_text VariableNeeded = codes "P5 VARIABLE NEEDED"
code_text StatementTooLarge = codes "P6 STATEMENT TOO LARGE"
code_text BadEnd = codes "P7 BAD END"

-- the letter and the number that a code begins with
abbrev pub code_symbol : SyntaxCode → List ℕ
code_symbol code = take 2 (code_text code)
