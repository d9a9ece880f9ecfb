-- Where the reading of a catalogue's text stands, line by line, and what one more line makes of it.
use Rattle.std.specs.Prelude.{◌≡◌, ℕ, ◌+◌, ◌-◌, ◌==◌, Bool, true, false, IsTrue, IsOk, ◌⊎◌, List, [], ◌∷◌, ◌++◌, Option, None, Some, Result, Ok, Err, if◌then◌else◌}
use Rattle.mon_text.specs.declared.stop.Stop.{Stop}
use Rattle.mon_text.specs.declared.stop.Stop.TheVariants as stop
use Rattle.mon_text.specs.Lines.{is_blank_line, words}
use Rattle.mon_acl.specs.declared.entries.Entry.{Entry}
use Rattle.acl_text.specs.Reading as acl
use Rattle.acl_text.specs.Reading.{read_short}
use Rattle.acl_text.specs.Texts.{pieces}
use Rattle.mon_acl.specs.declared.refusals.AclError.{AclError}
use Rattle.mon_catalogue.specs.declared.version.Version.{Version}
use Rattle.mon_catalogue.specs.declared.data_set.DataSet.{DataSet}
use Rattle.mon_catalogue.specs.declared.head.Head.{Head}
use Rattle.mon_catalogue.specs.declared.loading.CatalogueError.{CatalogueError}
use Rattle.mon_catalogue.specs.declared.loading.CatalogueError.TheVariants.{BadText}
use Rattle.mon_catalogue.specs.Records.{is_record}
use Rattle.mon_catalogue.specs.Sets.{Sets, empty_set}
use Rattle.mon_catalogue.specs.Head.{head_of, head_refusal}
use Rattle.std.specs.Option.{option_map_or}
use Rattle.std.specs.List.{fold}

pub data Progress : Type 0 where
  -- so many lines of a text of this version spell these sets, and a `$SET` line is due
  SetDue : Version → ℕ → Sets → Progress
  -- the permission list of the set of this `$SET` line is due
  ListDue : Version → ℕ → Sets → Head → Progress
  -- so many more records of this set are due
  RecordsDue : Version → ℕ → Sets → List ℕ → DataSet → ℕ → Progress
  -- the text is refused, however it goes on
  Refused : CatalogueError → Progress
  -- memory was short, and no line is taken any more
  OutOfMemory : Progress

-- how many lines were taken; once the reading has stopped they aren't counted
abbrev pub lines_taken : Progress → ℕ
lines_taken (SetDue _ n _) = n
lines_taken (ListDue _ n _ _) = n
lines_taken (RecordsDue _ n _ _ _ _) = n
lines_taken _ = 0

-- whether a `$SET` line is due
abbrev pub is_due : Progress → Bool
is_due reached = elim reached [ SetDue _ _ _ ↦ true | _ ↦ false ]

-- the set has so many more records to come
abbrev pub with_due : Version → ℕ → Sets → List ℕ → DataSet → ℕ → Progress
with_due version n sets name set left = if left == 0 then SetDue version n (sets ++ (name, set) ∷ []) else RecordsDue version n sets name set left

-- after the n-th line, where a `$SET` line was due: blank lines are skipped
abbrev pub after_set_due : Version → ℕ → Sets → List ℕ → Progress
after_set_due version n sets line =
    if is_blank_line line then SetDue version n sets
    else option_map_or (λ head. option_map_or Refused (head_refusal n sets head) (ListDue version n sets head))
    (head_of version (words line)) (Refused (BadText n))

abbrev pub after_acl : Version → ℕ → Sets → Head → Result (List Entry) AclError → Progress
after_acl version n sets head (Err _) = Refused (BadText n)
after_acl version n sets head (Ok acl) = with_due version n sets head.name (empty_set head.owner head.group head.mode acl) head.count

-- what one more line makes of it
abbrev pub step : Progress → List ℕ → Progress
step (SetDue version n sets) line = after_set_due version (n + 1) sets line
step (ListDue version n sets head) line = after_acl version (n + 1) sets head (read_short line)
step (RecordsDue version n sets name set left) line =
    if is_record line then with_due version (n + 1) sets name (record set { records = set.records ++ line ∷ [] }) (left - 1) else Refused (BadText (n + 1))
step p line = p

-- what the text says if it ends here: a set that isn't whole is refused at the line after the last
abbrev pub finished : Progress → Result Sets (Stop CatalogueError)
finished (SetDue _ n sets) = Ok sets
finished (ListDue _ n _ _) = Err (stop.Refused (BadText (n + 1)))
finished (RecordsDue _ n _ _ _ _) = Err (stop.Refused (BadText (n + 1)))
finished (Refused e) = Err (stop.Refused e)
finished OutOfMemory = Err stop.Memory

-- where the reading of a text stands after its first lines
abbrev pub loaded : Version → List (List ℕ) → Progress
loaded version lines = fold step (SetDue version 0 []) lines

-- why the reading has stopped, if it has
abbrev pub stopped : Progress → Option (Stop CatalogueError)
stopped (Refused e) = Some (stop.Refused e)
stopped OutOfMemory = Some stop.Memory
stopped _ = None

-- the line of a permission list takes memory where the list has five entries or more, or where the set is whole by it
abbrev pub ListGrows : Head → List ℕ → Type 0
ListGrows head line = acl.MayGrow (pieces line) ⊎ (IsOk (read_short line) × (head.count ≡ 0))

-- one more line may take memory: blank lines between sets take none, and neither do lines that are too long for a record
abbrev pub MayGrow : Progress → List ℕ → Type 0
MayGrow (SetDue _ _ _) line = is_blank_line line ≡ false
MayGrow (ListDue _ _ _ head) line = ListGrows head line
MayGrow (RecordsDue _ _ _ _ _ _) line = IsTrue (is_record line)
MayGrow (Refused _) line = ⊥
MayGrow OutOfMemory line = Unit {0}

-- after a line the reading stands at p, and has stopped where the answer is an error: for a refusal of p, or as memory was short
abbrev pub Answers : {A : Type 0} → Result A (Stop CatalogueError) → Progress → Progress → Type 0
Answers (Ok _) new p = (new ≡ p) × (stopped p ≡ None)
Answers (Err (stop.Refused e)) new p = (new ≡ Refused e) × (p ≡ Refused e)
Answers (Err stop.Memory) new p = new ≡ OutOfMemory
