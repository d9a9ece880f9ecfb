-- The fields so far.
use Rattle.std.proofs.Common.{◌≡◌, map, take}
use Rattle.ledger_index.proofs.course.joined.Given as goal

abbrev pub invariant-loop-text : goal.invariant-loop-text
invariant-loop-text l = map (λ field. field.now) l.fields.items ≡ map (λ text. text.items) (take l.text-index l.texts)
