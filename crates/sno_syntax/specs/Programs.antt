-- Programs, and the texts that spell them (own; after Griswold, Poage and Polonsky, "The SNOBOL4 Programming Language",
-- 2nd edition, chapter 1).
use Rattle.std.specs.Prelude.{◌≡◌, ℕ, ◌+◌, List, [], ◌∷◌, map, Some, None, Ok}
use Rattle.sno_cards.specs.Programs.{ProgramText}
use Rattle.sno_cards.specs.Texts.{Placed}
use Rattle.sno_lexer.specs.Listed.{TokenList}
use Rattle.sno_statement.specs.Statements.{Statement}
use Rattle.sno_statement.specs.Spelling.{Spells}
use Rattle.sno_statement.specs.Lacking.{StatementHasVariables}
use Rattle.sno_statement.specs.Abstraction.{statement_of}
use Rattle.sno_syntax.specs.declared.program.Program.{Program as AProgram}
use Rattle.sno_syntax.specs.declared.start.Start.{Start}
use Rattle.sno_syntax.specs.Labels.{LabelList, label_fault}
use Rattle.sno_syntax.specs.Refusals.{label_of, HasTokens, with_label, labels_in, start_in}

-- the statements in order, the labels with the statement that each stands before, and where a run begins
pub record Program : Type 0 where
  pub statements : List Statement
  pub labels : LabelList
  pub start : Start

-- what stands in a text behind its label spells the statement, with a variable in each place that needs one
abbrev pub TextSpells : List Placed → Statement → Type 0
TextSpells text s = (list : TokenList) × HasTokens text (Ok list) × StatementHasVariables list.tokens s × Spells s list.tokens

-- a text spells a statement behind its label, where these labels are defined before it
abbrev pub SpellsBehind : LabelList → List Placed → Statement → Type 0
SpellsBehind labels text s = (label_fault labels (label_of text) ≡ None) × TextSpells text s

-- the texts from an index on spell the statements, one each
abbrev pub SpellFrom : LabelList → ℕ → List (List Placed) → List Statement → Type 0
SpellFrom labels index [] [] = Unit {0}
SpellFrom labels index (text ∷ texts) (s ∷ ss) = SpellsBehind labels text s × SpellFrom (with_label labels (label_of text) index) (index + 1) texts ss
SpellFrom labels index _ _ = ⊥

-- the cards spell the program, its labels are theirs, and the END line says where it begins
abbrev pub IsProgram : ProgramText → Program → Type 0
IsProgram cards p = SpellFrom [] 0 cards.statements p.statements × (p.labels ≡ labels_in cards.statements) × (start_in cards ≡ Some p.start)

abbrev pub program_of : AProgram → Program
program_of p = record { statements = map statement_of p.statements.items; labels = p.labels; start = p.start }
