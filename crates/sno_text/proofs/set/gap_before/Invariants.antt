use Rattle.std.proofs.Common.{length, ◌-◌, ◌≡◌, ◌≤◌, ◌+◌}
use Rattle.std.specs.{Prelude.{drop}, List.{position_or_len}}
use Rattle.sno_text.specs.Sets.{is_one_of}
use Rattle.sno_text.proofs.set.gap_before.Given as goal

abbrev pub invariant-loop-count : goal.invariant-loop-count
invariant-loop-count l = record {
  within : l.count ≤ length l.rest;
  so_far : position_or_len (is_one_of l.set) l.rest ≡ l.count + position_or_len (is_one_of l.set) (drop l.count l.rest);
}

abbrev pub decreases-loop-count : goal.decreases-loop-count
decreases-loop-count l = length l.rest - l.count
