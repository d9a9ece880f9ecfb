use Rattle.std.proofs.Common.{refl}
use Rattle.std.proofs.lemmas.Result.{err_from_is_err_and}
use Rattle.deck_syntax.proofs.CatalogueLines.{wrongly_ended}
use Rattle.deck_syntax.proofs.reading.put_catalogue_line.Goals as goal

pub returns-in_err-ends_catalogue-clause-answers : goal.returns-in_err-ends_catalogue-clause-answers
returns-in_err-ends_catalogue-clause-answers c =
    let stop = err_from_is_err_and c.from_residual-in_err-ends_catalogue.result c.from_residual-in_err-ends_catalogue.ensures.1 in
    rw (stop.1, stop.2)
    (wrongly_ended c.args.loading.now c.args.text.now c.args.text.now refl c.in_ok-check_line.ensures.answers _ c.in_err-ends_catalogue.ensures.answers)
