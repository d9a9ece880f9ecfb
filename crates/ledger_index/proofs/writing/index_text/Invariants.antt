-- The fields so far.
use Rattle.std.proofs.Common.{◌≡◌, ◌∷◌, map, take}
use Rattle.ledger_index.specs.Index.{seen_head, head_text}
use Rattle.ledger_index.proofs.writing.index_text.Given as goal

abbrev pub invariant-loop-entry : goal.invariant-loop-entry
invariant-loop-entry l =
    map (λ field. field.now) l.fields.items ≡ head_text (seen_head l.head) ∷ map (λ entry. entry.items) (take l.entry-index l.entries)
