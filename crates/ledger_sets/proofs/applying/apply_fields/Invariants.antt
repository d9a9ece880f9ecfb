-- With the fields that are left it comes to all.
use Rattle.std.proofs.Common.{◌≡◌, map, drop}
use Rattle.ledger_sets.specs.{Applying.{after_fields}, Seeing.{site_of}}
use Rattle.ledger_sets.proofs.applying.apply_fields.Given as goal

abbrev pub invariant-loop-field : goal.invariant-loop-field
invariant-loop-field l =
    after_fields (map (λ field. field.now) (drop l.field-index l.fields)) (site_of l.state)
    ≡ after_fields (map (λ field. field.now) l.fields) (site_of l.fn.state)
