-- Sets of mode APPEND only grow (own): from the catalogue of a deck to the one that is written.
use Rattle.std.specs.Prelude.{◌≡◌, ℕ, List}
use Rattle.std.specs.Str.Lines.{lines}
use Rattle.mon_catalogue.specs.declared.mode.Mode.TheVariants.{Append}
use Rattle.mon_catalogue.specs.declared.data_set.DataSet.{DataSet}
use Rattle.mon_guard.specs.Laws.{IsThere}
use Rattle.scheduler.specs.Marks.{Marks}
use Rattle.mon_monitor.specs.Appending.{Keeps, NoneDeletes}
use Rattle.deck_syntax.specs.Sections.{deck_of}
use Rattle.deck_driver.specs.declared.options.Options.{Options}
use Rattle.deck_run.specs.Runs.{catalogue_after}
use Rattle.deck_run.specs.Headline.{history_of}

-- For every deck, wherever memory breaks its turns off: a set of mode APPEND that nothing in the list deletes is there in the
-- catalogue that is written, is of mode APPEND still, and its records begin with those that the deck gave it.
abbrev pub AppendOnly : Type 0
AppendOnly = (options : Options) (m : Marks) (bytes name : List ℕ) (set : DataSet)
    → IsThere name (deck_of (lines bytes)).catalogue set → set.mode ≡ Append → NoneDeletes name (history_of options m bytes)
    → Keeps name set.records (catalogue_after options m bytes)
