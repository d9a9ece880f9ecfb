-- What was put so far, with the reasons of the statements that are left, is the whole; and so of the labels.
use Rattle.std.proofs.Common.{◌≡◌, [], ◌++◌, drop}
use Rattle.sno_syntax.specs.Refusals.{labels_from}
use Rattle.program_listing.specs.Refused.{statements_refused}
use Rattle.program_listing.proofs.program.put_statements.Given as goal

abbrev pub invariant-loop-index : goal.invariant-loop-index
invariant-loop-index l = record {
  found : l.found.items ++ statements_refused l.labels l.index (drop l.index l.texts) ≡ l.fn.found.items ++ statements_refused [] 0 l.texts;
  labels : labels_from l.labels l.index (drop l.index l.texts) ≡ labels_from [] 0 l.texts;
}
