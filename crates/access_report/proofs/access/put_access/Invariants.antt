-- All sets before this one were told of.
use Rattle.std.proofs.Common.{◌≡◌, ◌++◌, take}
use Rattle.std.specs.List.{flat_map}
use Rattle.access_report.specs.Access.{set_part, title}
use Rattle.access_report.proofs.access.put_access.Given as goal

abbrev pub invariant-loop-index : goal.invariant-loop-index
invariant-loop-index l = l.out.items ≡ (l.fn.out.items ++ title l.question.form) ++ flat_map (set_part l.question l.accounts) (take l.index l.catalogue)
