-- Those so far.
use Rattle.std.proofs.Common.{◌≡◌, map, take}
use Rattle.ledger_index.specs.Course.{seen_list, kept_text}
use Rattle.ledger_index.proofs.course.list_texts.Given as goal

abbrev pub invariant-loop-one : goal.invariant-loop-one
invariant-loop-one l = map (λ text. text.items) l.texts.items ≡ map kept_text (seen_list (take l.one-index l.list))
