-- Once the text of the sets that are left is put, that of all is.
use Rattle.mon_device.specs.Putting.{Standing, Puts}
use Rattle.mon_catalogue.specs.Text.{catalogue_text}
use Rattle.mon_catalogue.proofs.catalogue.Catalogue.print.Given as goal

abbrev pub invariant-loop-name : goal.invariant-loop-name
invariant-loop-name g l =
    (end : Standing) → Puts (g.S.Sink.standing l.sink) end (catalogue_text l.name-iterator) → Puts (g.S.Sink.standing l.fn.sink) end (catalogue_text l.self)
