use Rattle.std.proofs.Common.{◌≡◌, ◌+◌, ◌≤◌, [], length}
use Rattle.std.specs.Str.Lines.{lines}
use Rattle.site_plan.specs.{Walks.{walked}, Users.{after_line}}
use Rattle.site_plan.proofs.users.read_users.Given as goal

abbrev pub invariant-lines : goal.invariant-lines
invariant-lines l = record {
  so_far : walked (after_line l.fn.demonstration l.fn.accounts) l.number l.users.items (lines l.rest) ≡ walked (after_line l.fn.demonstration l.fn.accounts) 1 [] (lines l.fn.text);
  counted : l.number + length (lines l.rest) ≡ 1 + length (lines l.fn.text);
  few : l.number + length l.rest ≤ 1 + length l.fn.text;
}

abbrev pub decreases-lines : goal.decreases-lines
decreases-lines l = length l.rest
