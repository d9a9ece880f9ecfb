-- With those that are left it comes to all.
use Rattle.std.proofs.Common.{◌≡◌, ◌++◌, map, drop}
use Rattle.ledger_checkpoint.specs.{Checkpoints.{piece_of, entries_from}, Writing.{texts_in, entry_texts}}
use Rattle.ledger_checkpoint.proofs.writing.put_sets.Given as goal

abbrev pub invariant-loop-place : goal.invariant-loop-place
invariant-loop-place g l = record {
  entries : texts_in l.written.entries.items ++ entry_texts (entries_from l.written.size (drop l.place l.sets)) ≡ entry_texts (entries_from 0 l.sets);
  pieces : g.P.Pieces.taken l.pieces ++ map piece_of (drop l.place l.sets) ≡ g.P.Pieces.taken l.fn.pieces ++ map piece_of l.sets;
}
