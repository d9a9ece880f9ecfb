-- The data sets in which one is as it was, and all others are as they are (own). It keeps its place; where it is not there now, it stands
-- last. Where it was not there, it is taken out.
use Rattle.std.specs.Prelude.{ℕ, List, Option, Some, None}
use Rattle.mon_catalogue.specs.declared.data_set.DataSet.{DataSet}
use Rattle.mon_catalogue.specs.Sets.{Sets, find_set}
use Rattle.mon_catalogue.specs.Changes.{without_set}
use Rattle.ledger_sets.specs.Applying.{put_set}

abbrev pub put_or_gone : List ℕ → Option DataSet → Sets → Sets
put_or_gone name (Some set) present = put_set name set present
put_or_gone name None present = without_set name present

abbrev pub restored : List ℕ → Sets → Sets → Sets
restored name past present = put_or_gone name (find_set name past) present
