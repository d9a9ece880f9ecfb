-- Sets of mode APPEND only grow (own): whatever is asked and ordered, the records that such a set has stay as they are, in their
-- order, and others come behind them, until its owner deletes it. The law `append_only` says it of all events.
use Rattle.std.specs.Prelude.{◌≡◌, ℕ, List, ◌++◌}
use Rattle.std.specs.List.{AllByRecursion}
use Rattle.mon_catalogue.specs.declared.mode.Mode.TheVariants.{Append}
use Rattle.mon_catalogue.specs.declared.data_set.DataSet.{DataSet}
use Rattle.mon_catalogue.specs.Sets.{Sets}
use Rattle.mon_guard.specs.Laws.{IsThere}
use Rattle.deck_lines.specs.declared.command.Command.{Command}
use Rattle.deck_lines.specs.declared.command.Command.TheVariants.{Delete}
use Rattle.mon_command.specs.declared.reply.Reply.TheVariants as reply
use Rattle.mon_command.specs.Commanded as commands
use Rattle.mon_command.specs.Commanded.{Told}
use Rattle.scheduler.specs.Marks.{Marks}
use Rattle.mon_monitor.specs.SystemStates.{SystemState}
use Rattle.mon_monitor.specs.Events.{Event}
use Rattle.mon_monitor.specs.Played.{played}
use Rattle.mon_monitor.specs.History.{Entry, Ordered, history}

-- these records begin with those
abbrev pub Begins : List (List ℕ) → List (List ℕ) → Type 0
Begins first records = (more : List (List ℕ)) × (records ≡ first ++ more)

-- the set of this name is there, is of mode APPEND, and its records begin with these
abbrev pub Keeps : List ℕ → List (List ℕ) → Sets → Type 0
Keeps name first sets = (set : DataSet) × IsThere name sets set × (set.mode ≡ Append) × Begins first set.records

-- a command deletes the set of this name: that is ordered, and is told to be done
abbrev pub HasDeleted : List ℕ → Command → commands.Answer → Type 0
HasDeleted name (Delete _ other) answer = (other ≡ name) × (answer ≡ Told reply.Done)
HasDeleted name _ answer = ⊥

abbrev pub Deletes : List ℕ → Entry → Type 0
Deletes name (Ordered known sets command answer) = HasDeleted name command answer
Deletes name _ = ⊥

-- none of these entries deletes the set of this name
abbrev pub NoneDeletes : List ℕ → List Entry → Type 0
NoneDeletes name entries = AllByRecursion (λ entry. ¬ Deletes name entry) entries

-- From any system on, wherever memory breaks turns off: a set of mode APPEND that nothing in the history deletes is there after all
-- of it, is of mode APPEND still, and its records begin with those that it had.
abbrev pub AppendOnly : Type 0
AppendOnly = (events : List Event) (m : Marks) (w : SystemState) (name : List ℕ) (set : DataSet)
    → IsThere name w.scheduler.sets set → set.mode ≡ Append → NoneDeletes name (history events m w)
    → Keeps name set.records (played events m w).after.scheduler.sets
