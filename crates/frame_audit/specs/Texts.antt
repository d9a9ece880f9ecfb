-- Texts one after the other, with what each tells (own): its printouts, and the lines of its audit.
use Rattle.std.specs.Prelude.{ℕ, nat_eq, List, Option}
use Rattle.std.specs.Cmp.Lexicographic.{pointwise}
use Rattle.mon_access.specs.declared.account.Account.{Account}
use Rattle.mon_catalogue.specs.declared.data_set.DataSet.{DataSet}
use Rattle.scheduler.specs.Marks.{Mark}
use Rattle.mon_monitor.specs.SystemStates.{first_system}
use Rattle.mon_monitor.specs.Events.{Event}
use Rattle.mon_monitor.specs.Printouts.{Printout}
use Rattle.mon_monitor.specs.Played.{played}
use Rattle.mon_monitor.specs.Audit.{audit_of}
use Rattle.parts_laws.specs.Threads.{Taking}
use Rattle.frame_laws.specs.Naming.{speak_of, makes}

pub record Telling : Type 0 where
  pub printouts : List Printout
  pub audit : List ℕ

-- as `texts_of` of frame_laws has them, and with its audit each
abbrev pub audited_texts : ℕ → List Account → Taking (List ℕ) DataSet (List Event) Telling (Option Mark)
audited_texts slots accounts = record {
  takes = λ events marks sets.
      let p = played events marks (first_system slots accounts sets) in record {
        out = record { printouts = p.printouts; audit = audit_of events marks (first_system slots accounts sets) };
        sets = p.after.scheduler.sets;
        marks = p.marks;
      };
  same = pointwise nat_eq;
  reaches = speak_of;
  makes = makes;
  most = 1000;
}
