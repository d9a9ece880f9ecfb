-- The entries so far stand before those that are left.
use Rattle.std.proofs.Common.{◌≡◌, map, drop}
use Rattle.ledger_index.{specs.Index.{seen_entries, entries_of}, proofs.Entries.{behind}}
use Rattle.ledger_index.proofs.reading.entries_of.Given as goal

abbrev pub invariant-loop-field : goal.invariant-loop-field
invariant-loop-field l =
    entries_of (map (λ field. field.now) l.fields)
    ≡ behind (seen_entries l.entries.items) (entries_of (map (λ field. field.now) (drop l.field-index l.fields)))
