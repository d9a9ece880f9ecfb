-- What holds of programs and the cards that spell them.
use Rattle.std.specs.Prelude.{◌≡◌, ◌↔◌, List, Some, None}
use Rattle.sno_cards.specs.Programs.{ProgramText}
use Rattle.sno_cards.specs.declared.refusal.SyntaxError.{SyntaxError}
use Rattle.sno_cards.specs.Texts.{Placed}
use Rattle.sno_syntax.specs.Labels.{LabelList}
use Rattle.sno_syntax.specs.Refusals.{IsRefusalOf, statement_refusal, syntax_refusal}
use Rattle.sno_syntax.specs.Programs.{Program, IsProgram}
use Rattle.sno_syntax.specs.Reading.{program_on}

-- cards spell at most one program
abbrev pub OneProgram : Type 0
OneProgram = (cards : ProgramText) (p q : Program) → IsProgram cards p → IsProgram cards q → p ≡ q

-- no cards are refused that spell one
abbrev pub NotRefused : Type 0
NotRefused = (cards : ProgramText) (p : Program) → IsProgram cards p → syntax_refusal cards ≡ None

-- a statement is refused exactly by the refusal that it has
abbrev pub RefusedExactly : Type 0
RefusedExactly = (labels : LabelList) (text : List Placed) (e : SyntaxError) → (statement_refusal labels text ≡ Some e) ↔ IsRefusalOf labels text e

-- where cards spell a program, it is the one that is read
abbrev pub ReadsPrograms : Type 0
ReadsPrograms = (cards : ProgramText) (p : Program) → IsProgram cards p → program_on cards ≡ Some p

-- and cards that are not refused spell one
abbrev pub SpellsOne : Type 0
SpellsOne = (cards : ProgramText) → syntax_refusal cards ≡ None → (p : Program) × IsProgram cards p
