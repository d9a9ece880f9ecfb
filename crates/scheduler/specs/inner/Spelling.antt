-- The program that cards spell, as the reader tells it.
use Rattle.std.specs.Prelude.{Result, Ok, Err}
use Rattle.sno_cards.specs.declared.refusal.SyntaxError.{SyntaxError}
use Rattle.sno_cards.specs.Programs.{ProgramText}
use Rattle.sno_syntax.specs.Programs.{Program, IsProgram}

abbrev pub IsSpelled : Result ProgramText SyntaxError → Program → Type 0
IsSpelled (Ok cards) p = IsProgram cards p
IsSpelled (Err refusal) p = ⊥
