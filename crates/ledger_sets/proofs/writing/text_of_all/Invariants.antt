-- The fields so far.
use Rattle.std.proofs.Common.{◌≡◌, map, take}
use Rattle.ledger_sets.specs.Writing.{texts_in}
use Rattle.ledger_sets.proofs.writing.text_of_all.Given as goal

abbrev pub invariant-loop-text : goal.invariant-loop-text
invariant-loop-text l = map (λ field. field.now) l.fields.items ≡ texts_in (take l.text-index l.texts)
