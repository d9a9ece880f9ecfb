use Rattle.std.proofs.Common.{length, ◌-◌, ◌≡◌, ◌≤◌, ◌+◌}
use Rattle.std.specs.{Prelude.{drop}, List.{prefix_len}}
use Rattle.sno_text.specs.Sets.{is_one_of}
use Rattle.sno_text.proofs.set.long_run_of.Given as goal

abbrev pub invariant-fours : goal.invariant-fours
invariant-fours l = record {
  within : l.count ≤ length l.rest;
  so_far : prefix_len (is_one_of l.set) l.rest ≡ l.count + prefix_len (is_one_of l.set) (drop l.count l.rest);
}

abbrev pub decreases-fours : goal.decreases-fours
decreases-fours l = length l.rest - l.count

abbrev pub invariant-ones : goal.invariant-ones
invariant-ones l = record {
  within : l.count ≤ length l.rest;
  so_far : prefix_len (is_one_of l.set) l.rest ≡ l.count + prefix_len (is_one_of l.set) (drop l.count l.rest);
}

abbrev pub decreases-ones : goal.decreases-ones
decreases-ones l = length l.rest - l.count
