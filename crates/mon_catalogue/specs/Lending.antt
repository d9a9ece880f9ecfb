-- A set that is lent to be changed.
use Rattle.std.specs.Prelude.{ℕ, List, Option}
use Rattle.std.specs.Borrow.{Fml, MutBor, LendsIf}
use Rattle.mon_catalogue.specs.declared.data_set.DataSet.{DataSet}
use Rattle.mon_catalogue.specs.contracts.data_set.DataSet.{the_row as set_row}
use Rattle.mon_catalogue.specs.contracts.catalogue.Catalogue.{the_row as catalogue_row}
use Rattle.mon_catalogue.specs.Sets.{Sets}
use Rattle.mon_catalogue.specs.Changes.{with_changed}

-- once the loan ends, the set of this name is as it was left; where there is none, the catalogue stays
abbrev pub LendsSet : MutBor Sets → List ℕ → Option (MutBor DataSet) → Fml
LendsSet catalogue name lent = LendsIf catalogue_row set_row catalogue lent (λ set. with_changed name (λ _. set) catalogue.now) catalogue.now
