-- With what changes those that are left it comes to all.
use Rattle.std.proofs.Common.{◌≡◌, ◌++◌, drop}
use Rattle.ledger_sets.specs.{Changes.{changes_between}, Parts.{those_of}, Writing.{texts_in, said_texts}}
use Rattle.ledger_sets.proofs.sets.put_met.Given as goal

abbrev pub invariant-loop-place : goal.invariant-loop-place
invariant-loop-place l =
    texts_in l.fn.out.items ++ said_texts (changes_between (those_of l.before.which.now l.before.catalogue.now) l.after)
    ≡ texts_in l.out.items ++ said_texts (changes_between (those_of l.before.which.now (drop l.place l.before.catalogue.now)) (drop l.met l.after))
