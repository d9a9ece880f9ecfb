-- What the program keeps of a loading, as the progress that contracts speak of.
use Rattle.std.specs.Prelude.{◌≡◌, ℕ, ◌+◌, ◌<◌, ◌≤◌, false, IsTrue, List, length, None, Result, Ok, Err}
use Rattle.mon_text.specs.declared.stop.Stop.{Stop}
use Rattle.mon_text.specs.declared.stop.Stop.TheVariants as stop
use Rattle.mon_catalogue.specs.declared.loading.CatalogueError.{CatalogueError}
use Rattle.mon_catalogue.specs.declared.loading.CatalogueError.TheVariants.{BadText}
use Rattle.mon_catalogue.specs.declared.loading.Stage.{Stage}
use Rattle.mon_catalogue.specs.declared.loading.Stage.TheVariants as stages
use Rattle.mon_catalogue.specs.declared.version.Version.{Version}
use Rattle.mon_catalogue.specs.declared.data_set.DataSet.{DataSet}
use Rattle.mon_catalogue.specs.Records.{is_record}
use Rattle.mon_catalogue.specs.Sets.{Sets, find_set}
use Rattle.mon_catalogue.specs.Progress.{Progress, SetDue, ListDue, RecordsDue, Refused, OutOfMemory, stopped}
use Rattle.mon_catalogue.specs.inner.Parts.{with_record}

abbrev pub progress_of : Version → ℕ → Sets → Stage → Progress
progress_of version n sets stages.SetDue = SetDue version n sets
progress_of version n sets (stages.ListDue head) = ListDue version n sets head
progress_of version n sets (stages.RecordsDue name set left) = RecordsDue version n sets name set left
progress_of version n sets (stages.Stopped (stop.Refused e)) = Refused e
progress_of version n sets (stages.Stopped stop.Memory) = OutOfMemory

-- a set of this name with so many records may be put last
abbrev pub IsAwaited : Sets → List ℕ → ℕ → Type 0
IsAwaited sets name count = (find_set name sets ≡ None) × (length sets < 1000) × (count ≤ 100000)

abbrev pub IsSound : Sets → Stage → Type 0
IsSound sets stages.SetDue = Unit {0}
IsSound sets (stages.ListDue head) = IsAwaited sets head.name head.count
IsSound sets (stages.RecordsDue name set left) = IsAwaited sets name (length set.records + left) × (0 < left)
IsSound sets (stages.Stopped _) = Unit {0}

-- the stage at which a line left the reading, or its error, is that of this progress; memory is short only where some is taken
abbrev pub Reaches : Version → ℕ → Sets → Type 0 → Result Stage (Stop CatalogueError) → Progress → Type 0
Reaches version n sets Grows (Ok stage) p = (progress_of version n sets stage ≡ p) × (stopped p ≡ None)
Reaches version n sets Grows (Err (stop.Refused e)) p = p ≡ Refused e
Reaches version n sets Grows (Err stop.Memory) p = Grows

-- the same, where the stage is given beside the answer
abbrev pub Arrives : Version → ℕ → Sets → Stage → Type 0 → Result (Unit {0}) (Stop CatalogueError) → Progress → Type 0
Arrives version n sets stage Grows (Ok _) p = (progress_of version n sets stage ≡ p) × (stopped p ≡ None)
Arrives version n sets stage Grows (Err (stop.Refused e)) p = p ≡ Refused e
Arrives version n sets stage Grows (Err stop.Memory) p = Grows

-- one more record of the set, and one less to come
abbrev pub Pushes : ℕ → DataSet → ℕ → List ℕ → DataSet → ℕ → Result (Unit {0}) (Stop CatalogueError) → Type 0
Pushes n set left line new left' (Ok _) = IsTrue (is_record line) × (new ≡ with_record set line) × (left' + 1 ≡ left)
Pushes n set left line new left' (Err (stop.Refused e)) = (is_record line ≡ false) × (e ≡ BadText n)
Pushes n set left line new left' (Err stop.Memory) = IsTrue (is_record line)
