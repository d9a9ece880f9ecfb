-- No name so far.
use Rattle.std.proofs.Common.{◌≡◌, drop}
use Rattle.ledger_turns.specs.Names.{place_from}
use Rattle.ledger_turns.proofs.names.place_of.Given as goal

abbrev pub invariant-loop-index : goal.invariant-loop-index
invariant-loop-index l = place_from (λ other. other.items) l.index l.name (drop l.index l.names) ≡ place_from (λ other. other.items) 0 l.name l.names
