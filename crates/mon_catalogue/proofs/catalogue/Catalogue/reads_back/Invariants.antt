-- Once the sets that are left are stored, all are.
use Rattle.std.specs.List.{AllByRecursion}
use Rattle.mon_catalogue.specs.{Stored.{IsStoredSet}, inner.Parts.{HasPrintableRecords}}
use Rattle.mon_catalogue.proofs.catalogue.Catalogue.reads_back.Given as goal

abbrev pub invariant-loop-name : goal.invariant-loop-name
invariant-loop-name l = record {
  stored : AllByRecursion IsStoredSet l.name-iterator → AllByRecursion IsStoredSet l.self;
  printable : AllByRecursion HasPrintableRecords l.name-iterator → AllByRecursion HasPrintableRecords l.self;
}
