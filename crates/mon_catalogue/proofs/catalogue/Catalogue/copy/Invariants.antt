-- What is copied and what is left are the catalogue.
use Rattle.std.proofs.Common.{◌≡◌, ◌++◌}
use Rattle.mon_catalogue.specs.Sets.{Sets}
use Rattle.mon_catalogue.proofs.catalogue.Catalogue.copy.Given as goal

abbrev pub invariant-loop-name : goal.invariant-loop-name
invariant-loop-name l = ◌≡◌ {A = Sets} (l.copy ++ l.name-iterator) l.self
