-- What every catalogue holds to, so that its text can be read again (own).
use Rattle.std.specs.Prelude.{ℕ, List}
use Rattle.std.specs.List.{AllByRecursion}
use Rattle.mon_text.specs.Names.{IsName}
use Rattle.mon_text.specs.Lines.{IsLine}
use Rattle.mon_acl.specs.Entries.{IsAcl}
use Rattle.mon_catalogue.specs.declared.data_set.DataSet.{DataSet}
use Rattle.mon_catalogue.specs.Records.{AreRecords}
use Rattle.mon_catalogue.specs.Sets.{Sets, IsCatalogue}

-- its names are names, its permission list is one, and its records are records
abbrev pub IsStoredSet : List ℕ × DataSet → Type 0
IsStoredSet named = IsName named.0 × IsName named.1.owner × IsName named.1.group × IsAcl named.1.acl × AreRecords named.1.records

abbrev pub IsStored : Sets → Type 0
IsStored sets = IsCatalogue sets × AllByRecursion IsStoredSet sets

-- and its records are printable lines
abbrev pub ArePrintable : Sets → Type 0
ArePrintable sets = AllByRecursion (λ named. AllByRecursion IsLine named.1.records) sets
