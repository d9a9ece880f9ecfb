-- Data sets that the bytes which are written of them are read as.
use Rattle.std.proofs.Common.{◌≡◌, ◌+◌, true, false, Ok, Err, refl, ap}
use Rattle.std.specs.Str.Lines.{lines}
use Rattle.mon_text.specs.declared.stop.Stop.TheVariants as stop
use Rattle.mon_catalogue.specs.{declared.version.Version.TheVariants.{Two}, Sets.{Sets}, Text.{catalogue_text}, Reading.{catalogue_of}, Stored.{ArePrintable}}
use Rattle.mon_catalogue.specs.declared.loading.CatalogueError.TheVariants.{BadText}
use Rattle.mon_catalogue.specs.Progress.{Progress, SetDue, ListDue, RecordsDue, Refused, OutOfMemory, is_due, loaded, finished}
use Rattle.deck_syntax.specs.Sections.{sets_of}
use Rattle.deck_driver.specs.Printouts.{ReadsBack}

whole_by : (p : Progress) (sets : Sets) → finished p ≡ Ok sets → (is_due p ≡ true) × (sets_of p ≡ sets)
whole_by (SetDue version n all) sets is = (refl, let same : Ok all ≡ Ok sets = is in cc (same))
whole_by (ListDue version n all head) sets is = absurd (let no : Err (stop.Refused (BadText (n + 1))) ≡ Ok sets = is in cc (no))
whole_by (RecordsDue version n all name set left) sets is = absurd (let no : Err (stop.Refused (BadText (n + 1))) ≡ Ok sets = is in cc (no))
whole_by (Refused e) sets is = absurd (let no : Err (stop.Refused e) ≡ Ok sets = is in cc (no))
whole_by OutOfMemory sets is = absurd (let no : Err stop.Memory ≡ Ok sets = is in cc (no))

finished_by : (p : Progress) (sets : Sets) → is_due p ≡ true → sets_of p ≡ sets → finished p ≡ Ok sets
finished_by (SetDue version n all) sets due same = ap Ok same
finished_by (ListDue version n all head) sets due same = absurd (let no : false ≡ true = due in cc (no))
finished_by (RecordsDue version n all name set left) sets due same = absurd (let no : false ≡ true = due in cc (no))
finished_by (Refused e) sets due same = absurd (let no : false ≡ true = due in cc (no))
finished_by OutOfMemory sets due same = absurd (let no : false ≡ true = due in cc (no))

pub reads_again : (sets : Sets) → catalogue_of Two (lines (catalogue_text sets)) ≡ Ok sets → ArePrintable sets → ReadsBack sets
reads_again sets back printable =
    let read = whole_by (loaded Two (lines (catalogue_text sets))) sets back in
    record { whole = read.0; same = read.1; printable = printable }

pub read_back : (sets : Sets) → ReadsBack sets → catalogue_of Two (lines (catalogue_text sets)) ≡ Ok sets
read_back sets back = finished_by (loaded Two (lines (catalogue_text sets))) sets back.whole back.same
