-- The fields so far are printed.
use Rattle.std.proofs.Common.{◌≡◌, ◌++◌, ◌∷◌, length, map, take}
use Rattle.std.specs.Prelude.{decimal}
use Rattle.ledger_text.specs.Text.{fields_text}
use Rattle.ledger_text.proofs.commit.commit_text.Given as goal

abbrev pub invariant-loop-field : goal.invariant-loop-field
invariant-loop-field l = l.text.items ≡ decimal (length l.fields) ++ 10 ∷ fields_text (map (λ field. field.now) (take l.field-index l.fields))
