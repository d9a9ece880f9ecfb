use Rattle.std.proofs.Common.{◌++◌, ◌∷◌, [], ◌∙◌, ap}
use Rattle.std.proofs.lemmas.Result.{err_from_is_err_and}
use Rattle.mon_text.specs.Names.{is_name}
use Rattle.deck_syntax.proofs.AccountWords.{others_refused, more_at, passes}
use Rattle.deck_syntax.proofs.reading.read_groups.Goals as goal

pub returns-in_err-name_of-clause-answers : goal.returns-in_err-name_of-clause-answers
returns-in_err-name_of-clause-answers c =
    let stop = err_from_is_err_and c.from_residual.result c.from_residual.ensures.1 in
    rw (stop.1, stop.2) (others_refused c.args.words.now c.loop-place.place c.at.result.now c.loop-place.auto.place c.at.ensures _ c.in_err-name_of.ensures.answers)

pub loop-place-preserved : goal.loop-place-preserved
loop-place-preserved c =
    let good = passes (is_name c.at.result.now) c.in_ok-name_of.ensures.answers in
    let more = more_at c.args.words.now c.loop-place.groups c.loop-place.place c.at.result.now c.loop-place.auto.place c.at.ensures good c.loop-place.invariant.read c.loop-place.invariant.names in
    record {
      read = c.in_ok-push.ensures.added ∙ ap (λ w. c.loop-place.groups ++ w ∷ []) c.in_ok-name_of.ensures.value ∙ more.read;
      names = more.names;
    }
