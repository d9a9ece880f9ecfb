-- Texts one after the other (own): each runs with all slots empty, over the data sets that the one before it left.
use Rattle.std.specs.Prelude.{ℕ, nat_eq, List, [], ◌∷◌, Option}
use Rattle.std.specs.Cmp.Lexicographic.{pointwise}
use Rattle.mon_access.specs.declared.account.Account.{Account}
use Rattle.mon_catalogue.specs.declared.data_set.DataSet.{DataSet}
use Rattle.scheduler.specs.Marks.{Mark}
use Rattle.mon_monitor.specs.SystemStates.{first_system}
use Rattle.mon_monitor.specs.Events.{Event}
use Rattle.mon_monitor.specs.Printouts.{Printout}
use Rattle.mon_monitor.specs.Played.{played}
use Rattle.parts_laws.specs.Runs.{Numbered}
use Rattle.parts_laws.specs.Threads.{Taking}
use Rattle.frame_laws.specs.Naming.{speak_of, makes}
use Rattle.frame_laws.specs.Owners.{Owners, owners_after}

abbrev pub texts_of : ℕ → List Account → Taking (List ℕ) DataSet (List Event) (List Printout) (Option Mark)
texts_of slots accounts = record {
  takes = λ events marks sets.
      let p = played events marks (first_system slots accounts sets) in record { out = p.printouts; sets = p.after.scheduler.sets; marks = p.marks };
  same = pointwise nat_eq;
  reaches = speak_of;
  makes = makes;
  most = 1000;
}

-- the data sets behind all texts, and whose they are
abbrev pub owners_behind_texts : List Account → List (Numbered (List Event)) → Owners → Owners
owners_behind_texts accounts [] owners = owners
owners_behind_texts accounts (t ∷ texts) owners = owners_behind_texts accounts texts (owners_after accounts t.text owners)
