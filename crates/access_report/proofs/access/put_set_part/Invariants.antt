-- All accounts before this one were told of.
use Rattle.std.proofs.Common.{◌≡◌, ◌++◌, take}
use Rattle.std.specs.List.{flat_map}
use Rattle.access_report.specs.Access.{account_part, heading}
use Rattle.access_report.proofs.access.put_set_part.Given as goal

abbrev pub invariant-loop-index : goal.invariant-loop-index
invariant-loop-index l =
    l.out.items ≡ (l.fn.out.items ++ heading l.question.form (l.name, l.set)) ++ flat_map (account_part l.question (l.name, l.set)) (take l.index l.accounts)
