-- Those so far stand before those that are left.
use Rattle.std.proofs.Common.{◌≡◌, map, drop}
use Rattle.ledger_index.{specs.Course.{seen_list, list_in}, proofs.Entries.{list_behind}}
use Rattle.ledger_index.proofs.course.list_in.Given as goal

abbrev pub invariant-loop-field : goal.invariant-loop-field
invariant-loop-field l =
    list_in (map (λ field. field.now) l.fields) ≡ list_behind (seen_list l.list.items) (list_in (map (λ field. field.now) (drop l.field-index l.fields)))
