-- All records before this place are the same.
use Rattle.std.proofs.Common.{◌≡◌, ◌+◌, drop, nat_eq}
use Rattle.std.specs.{Cmp.Lexicographic.{pointwise}, List.{common_prefix_len}}
use Rattle.ledger_sets.proofs.records.shared.Given as goal

abbrev pub invariant-loop-index : goal.invariant-loop-index
invariant-loop-index l =
    common_prefix_len (pointwise nat_eq) l.was l.is ≡ l.index + common_prefix_len (pointwise nat_eq) (drop l.index l.was) (drop l.index l.is)
