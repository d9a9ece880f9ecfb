use Rattle.std.proofs.Common.{◌≡◌, take}
use Rattle.std.specs.List.{list_all}
use Rattle.parts.specs.inner.Tests.{name_goes}
use Rattle.parts.proofs.checking.names_go.Given as goal

abbrev pub invariant-loop-name : goal.invariant-loop-name
invariant-loop-name l = l.good ≡ list_all (name_goes l.split l.part) (take l.name-index l.names)
