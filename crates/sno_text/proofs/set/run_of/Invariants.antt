use Rattle.std.proofs.Common.{length, ◌-◌, ◌≡◌, ◌≤◌, ◌+◌}
use Rattle.std.specs.{Prelude.{drop}, List.{prefix_len}}
use Rattle.sno_text.specs.Sets.{is_one_of}
use Rattle.sno_text.proofs.set.run_of.Given as goal

abbrev pub invariant-loop-count : goal.invariant-loop-count
invariant-loop-count l = record {
  within : l.count ≤ length l.rest;
  so_far : prefix_len (is_one_of l.set) l.rest ≡ l.count + prefix_len (is_one_of l.set) (drop l.count l.rest);
}

abbrev pub decreases-loop-count : goal.decreases-loop-count
decreases-loop-count l = length l.rest - l.count
