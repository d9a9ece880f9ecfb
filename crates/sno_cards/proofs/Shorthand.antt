-- Parts of the definitions by names of their own.
use Rattle.std.specs.{Prelude.{ℕ, ◌+◌, List, length, Option, Result, Err}, Option.{ok_or, option_map, option_map_or}}
use Rattle.sno_cards.specs.{declared.refusal.SyntaxError.{SyntaxError}, declared.refusal.SyntaxCode.TheVariants.{NoEndLine}, Programs.{ProgramText}}
use Rattle.sno_cards.specs.Statements.{program_ended_by, refused_card}

abbrev pub program_with : Option (List ℕ) → List (List ℕ) → Result ProgramText SyntaxError
program_with end_line lines = ok_or (option_map (λ line. program_ended_by line lines) end_line) (refused_card (length lines + 1) NoEndLine)

abbrev pub unless_refused : Option SyntaxError → Result ProgramText SyntaxError → Result ProgramText SyntaxError
unless_refused refusal program = option_map_or Err refusal program
