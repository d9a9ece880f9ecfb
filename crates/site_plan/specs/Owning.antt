-- What accounts own (own): how many data sets of a catalogue, and how many bytes their records have, without line ends.
use Rattle.std.specs.Prelude.{ℕ, ◌+◌, List, map, length, if◌then◌else◌, bytes_eq}
use Rattle.std.specs.List.{fold}
use Rattle.mon_access.specs.declared.account.Account.{Account}
use Rattle.mon_catalogue.specs.declared.data_set.DataSet.{DataSet}
use Rattle.mon_catalogue.specs.Sets.{Sets}
use Rattle.preflight.specs.Allowances.{told64}
use Rattle.site_plan.specs.declared.owning.Holding.{Holding}

-- how many bytes records have; more than a number of 64 bits can tell is told as the largest
abbrev pub with_record : ℕ → List ℕ → ℕ
with_record so_far record_text = told64 (so_far + length record_text)

abbrev pub bytes_of : List (List ℕ) → ℕ
bytes_of records = fold with_record 0 records

abbrev pub with_set : List ℕ → Holding → DataSet → Holding
with_set own held set =
    if bytes_eq set.owner own then record { data_sets = told64 (held.data_sets + 1); records = told64 (held.records + bytes_of set.records) } else held

abbrev pub with_sets : List ℕ → Holding → Sets → Holding
with_sets own held sets = fold (λ held named. with_set own held named.1) held sets

abbrev pub held_by : Sets → List ℕ → Holding
held_by sets own = with_sets own (record { data_sets = 0; records = 0 }) sets

-- what each account of a table owns, in its order
abbrev pub holdings_of : List Account → Sets → List Holding
holdings_of accounts sets = map (λ account. held_by sets account.name) accounts
