use Rattle.std.proofs.Common.{◌≡◌, List, [], ◌++◌, drop}
use Rattle.std.specs.Prelude.{map}
use Rattle.sno_statement.specs.{Statements.{Statement}, Abstraction.{statement_of}}
use Rattle.sno_syntax.specs.{Refusals.{statements_refusal, labels_from}, Programs.{SpellFrom}}
use Rattle.sno_syntax.proofs.reading.read_statements.Given as goal

-- the texts that are left have the whole's first refusal and lead to its labels; and whatever they spell, with what was
-- read before them, is what all of them spell
abbrev pub invariant-loop-index : goal.invariant-loop-index
invariant-loop-index l = record {
  refusal : statements_refusal [] 0 l.texts ≡ statements_refusal l.body.labels l.index (drop l.index l.texts);
  labels : labels_from [] 0 l.texts ≡ labels_from l.body.labels l.index (drop l.index l.texts);
  spelled : (rest : List Statement) → SpellFrom l.body.labels l.index (drop l.index l.texts) rest
      → SpellFrom [] 0 l.texts (map statement_of l.body.statements.items ++ rest);
}
