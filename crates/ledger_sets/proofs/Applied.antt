-- Records behind those of a data set.
use Rattle.std.proofs.Common.{ℕ, List, ◌++◌}
use Rattle.mon_catalogue.specs.declared.data_set.DataSet.{DataSet}

abbrev pub added : List (List ℕ) → DataSet → DataSet
added records set = record set { records = set.records ++ records }
