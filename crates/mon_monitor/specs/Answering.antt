-- What each answer means, exactly (own): to requests of jobs that something is done, that no line is left, and that there is no
-- room; to commands each line that they are told, and the names that `$CATALOG` shows.
use Rattle.std.specs.Prelude.{◌≡◌, ◌≢◌, ◌≤◌, ◌<◌, ◌⊎◌, ℕ, List, [], ◌∷◌, length, take, None, Err}
use Rattle.mon_acl.specs.declared.entries.Perms.{Perms}
use Rattle.acl_text.specs.Forms.{list_of_text}
use Rattle.mon_access.specs.declared.account.Account.{Account}
use Rattle.mon_catalogue.specs.declared.mode.Mode.{Mode}
use Rattle.mon_catalogue.specs.declared.mode.Mode.TheVariants.{Seq, Append}
use Rattle.mon_catalogue.specs.declared.data_set.DataSet.{DataSet}
use Rattle.mon_catalogue.specs.Sets.{Sets, find_set}
use Rattle.mon_guard.specs.Deciding.{to_read, to_write}
use Rattle.mon_guard.specs.Views.{NamePart, name_part}
use Rattle.mon_guard.specs.Laws.{IsThere, IsGranted, MaySeeName, OwnsNamed}
use Rattle.deck_lines.specs.declared.command.Command.{Command}
use Rattle.deck_lines.specs.declared.command.Command.TheVariants.{Create, SetAcl}
use Rattle.mon_command.specs.declared.reply.Reply.{Reply}
use Rattle.mon_command.specs.declared.reply.Reply.TheVariants.{Done, Denied, NameTaken, CatalogueFull, BadList}
use Rattle.mon_command.specs.Laws.{Changes, IsWhy}
use Rattle.interaction.specs.declared.request.Request.{Request}
use Rattle.mon_unit.specs.declared.note.NoteAct.TheVariants.{Read, Write, Endfile, Rewind}
use Rattle.mon_unit.specs.declared.tie.Target.TheVariants.{Untied, Data, Spool, Set}
use Rattle.mon_unit.specs.Serving.{Reach, note_act}
use Rattle.mon_unit.specs.Laws.{target_of, position_of}

-- A REQUEST OF A JOB

-- its unit is tied to this data set, which is there, and these permissions are granted on it
abbrev pub Reaches : Account → Reach → Request → Perms → DataSet → Type 0
Reaches account reach q perms set = (name : List ℕ) × (target_of reach.units q ≡ Set name) × IsThere name reach.sets set × IsGranted account set perms

-- It reads where no line is left: of the job's own data, or of a data set on which r is granted.
abbrev pub ReadsPast : Account → Reach → Request → Type 0
ReadsPast account reach q = (note_act q.act ≡ Read)
    × (((target_of reach.units q ≡ Data) × (length reach.units.deck ≤ position_of reach.units q))
    ⊎ ((set : DataSet) × Reaches account reach q to_read set × (length set.records ≤ position_of reach.units q)))

-- how many records stand before a line that is written: those before the position, or in mode APPEND all that there are
abbrev pub before : Mode → ℕ → List (List ℕ) → ℕ
before Seq position records = length (take position records)
before Append position records = length records

-- It writes to a data set on which w is granted, and 100,000 records stand before the line.
abbrev pub LacksRoom : Account → Reach → Request → Type 0
LacksRoom account reach q = (note_act q.act ≡ Write)
    × ((set : DataSet) × Reaches account reach q to_write set × (100000 ≤ before set.mode (position_of reach.units q) set.records))

-- It writes to the spool; or it goes back, and its unit is tied; or w is granted on a data set, and it writes there and fewer
-- than 100,000 records stand before the line, or ends it and it is of mode SEQ.
abbrev pub IsDone : Account → Reach → Request → Type 0
IsDone account reach q =
    ((note_act q.act ≡ Write) × (target_of reach.units q ≡ Spool))
    ⊎ (((note_act q.act ≡ Rewind) × (target_of reach.units q ≢ Untied))
    ⊎ (((note_act q.act ≡ Write)
    × ((set : DataSet) × Reaches account reach q to_write set × (before set.mode (position_of reach.units q) set.records < 100000)))
    ⊎ ((note_act q.act ≡ Endfile) × ((set : DataSet) × Reaches account reach q to_write set × (set.mode ≡ Seq)))))

-- A COMMAND

-- these are the names of these data sets, in their order: of each exactly where x is granted on it
abbrev pub AreNamed : Account → Sets → List NamePart → Type 0
AreNamed account [] names = names ≡ []
AreNamed account (named ∷ sets) names =
    (MaySeeName account named.1 × ((rest : List NamePart) × (names ≡ name_part named ∷ rest) × AreNamed account sets rest))
    ⊎ ((¬ MaySeeName account named.1) × AreNamed account sets names)

-- What a command of a known account is told in one line, by the first of what is wrong with it: of CREATE that the name is taken,
-- or else that there are 1,000 data sets; of SETACL, once the owner asks, what is wrong with the text.
abbrev pub IsTold : Account → Sets → Command → Reply → Type 0
IsTold account sets command Done = (after : Sets) × Changes account command sets after
IsTold account sets command (Denied reason) = IsWhy account command sets reason
IsTold account sets (Create _ name mode) NameTaken = find_set name sets ≢ None
IsTold account sets (Create _ name mode) CatalogueFull = (find_set name sets ≡ None) × (1000 ≤ length sets)
IsTold account sets (SetAcl _ name text) (BadList error) = OwnsNamed account sets name × (list_of_text text ≡ Err error)
IsTold account sets command reply = ⊥
