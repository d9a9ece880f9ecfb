-- With those that are left it comes to all.
use Rattle.std.proofs.Common.{◌≡◌, ◌++◌, map, drop}
use Rattle.ledger_sets.specs.{Changes.{whole}, Writing.{texts_in, said_texts}}
use Rattle.ledger_sets.proofs.sets.put_new.Given as goal

abbrev pub invariant-loop-place : goal.invariant-loop-place
invariant-loop-place l =
    texts_in l.out.items ++ said_texts (map whole (drop l.place l.after)) ≡ texts_in l.fn.out.items ++ said_texts (map whole (drop l.met l.after))
