-- Parts of the definitions by names of their own.
use Rattle.std.specs.{Prelude.{ℕ, List, Option}, List.{fold}, Option.{option_map_or}}
use Rattle.mon_acl.specs.declared.entries.Entry.{Entry}
use Rattle.mon_catalogue.specs.{declared.version.Version.{Version}, declared.data_set.DataSet.{DataSet}, declared.head.Head.{Head}, Sets.{Sets}}
use Rattle.mon_catalogue.specs.{declared.loading.CatalogueError.{CatalogueError}, declared.loading.CatalogueError.TheVariants.{BadText}, Head.{head_refusal}}
use Rattle.mon_catalogue.specs.Progress.{Progress, Refused, ListDue, step}

-- where the reading stands after these lines
abbrev pub after_lines : Progress → List (List ℕ) → Progress
after_lines p lines = fold step p lines

-- after the head of a set
abbrev pub after_head : Version → ℕ → Sets → Head → Option CatalogueError → Progress
after_head version n sets head refusal = option_map_or Refused refusal (ListDue version n sets head)

-- after a line that is not blank, where a `$SET` line was due
abbrev pub after_words : Version → ℕ → Sets → Option Head → Progress
after_words version n sets head = option_map_or (λ h. after_head version n sets h (head_refusal n sets h)) head (Refused (BadText n))

-- a data set with another permission list
abbrev pub listed : List Entry → DataSet → DataSet
listed acl set = record set { acl = acl }
