-- Parts of the definitions by names of their own: for the code and for proofs.
use Rattle.std.specs.Prelude.{ℕ, ◌-◌, List, [], if◌then◌else◌, ◌∷◌, ◌++◌}
use Rattle.mon_catalogue.specs.declared.version.Version.{Version}
use Rattle.mon_catalogue.specs.declared.data_set.DataSet.{DataSet}
use Rattle.mon_catalogue.specs.declared.loading.CatalogueError.TheVariants.{BadText}
use Rattle.mon_catalogue.specs.Records.{is_record}
use Rattle.mon_catalogue.specs.Sets.{Sets}
use Rattle.mon_catalogue.specs.Progress.{Progress, with_due, Refused}
use Rattle.std.specs.List.{AllByRecursion}
use Rattle.mon_text.specs.Lines.{IsLine}

abbrev pub HasPrintableRecords : List ℕ × DataSet → Type 0
HasPrintableRecords named = AllByRecursion IsLine named.1.records

abbrev pub with_record : DataSet → List ℕ → DataSet
with_record set line = record set { records = set.records ++ line ∷ [] }

abbrev pub after_record : Version → ℕ → Sets → List ℕ → DataSet → ℕ → List ℕ → Progress
after_record version n sets name set left line = if is_record line then with_due version n sets name (with_record set line) (left - 1) else Refused (BadText n)
