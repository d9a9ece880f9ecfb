-- One statement more is read.
use Rattle.std.specs.Prelude.{◌≡◌, List, [], ◌∷◌, ◌++◌}
use Rattle.sno_cards.specs.Texts.{Placed}
use Rattle.sno_statement.specs.declared.statement.Statement.{Statement}
use Rattle.sno_statement.specs.Abstraction.{statement_of}
use Rattle.sno_syntax.specs.Labels.{LabelList}
use Rattle.sno_syntax.specs.Programs.{SpellsBehind}

-- a statement is appended, which the text spells where these labels are defined before it
abbrev pub SpellsLast : LabelList → List Placed → List Statement → List Statement → Type 0
SpellsLast labels text before after = (s : Statement) × (after ≡ before ++ s ∷ []) × SpellsBehind labels text (statement_of s)
