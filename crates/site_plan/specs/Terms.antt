-- What the limits of a site are called (own), and which has a name.
use Rattle.std.specs.Prelude.{ℕ, List, Option, Some, None, if◌then◌else◌, bytes_eq, codes}
use Rattle.preflight.specs.declared.quota.Limit.{Limit}
use Rattle.preflight.specs.declared.quota.Limit.TheVariants.{Texts, Bytes, Jobs, Statements, Largest, Work, DataSets, Records}

abbrev pub limit_name : Limit → List ℕ
limit_name Texts = codes "texts"
limit_name Bytes = codes "bytes"
limit_name Jobs = codes "jobs"
limit_name Statements = codes "statements"
limit_name Largest = codes "largest"
limit_name Work = codes "work"
limit_name DataSets = codes "data_sets"
limit_name Records = codes "records"

abbrev pub if_named : Limit → List ℕ → Option Limit → Option Limit
if_named limit name other = if bytes_eq (limit_name limit) name then Some limit else other

abbrev pub limit_on : List ℕ → Option Limit
limit_on name =
    if_named Texts name (if_named Bytes name (if_named Jobs name (if_named Statements name
    (if_named Largest name (if_named Work name (if_named DataSets name (if_named Records name None)))))))
