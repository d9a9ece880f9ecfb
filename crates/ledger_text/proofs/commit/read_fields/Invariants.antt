-- The fields so far stand before those that are left.
use Rattle.std.proofs.Common.{◌≡◌, ◌-◌, map}
use Rattle.ledger_text.{specs.Text.{read_fields}, proofs.Taking.{behind}}
use Rattle.ledger_text.proofs.commit.read_fields.Given as goal

abbrev pub invariant-loop : goal.invariant-loop
invariant-loop l = read_fields l.count l.text ≡ behind (map (λ field. field.now) l.fields.items) (read_fields (l.count - l.counter) l.rest)
