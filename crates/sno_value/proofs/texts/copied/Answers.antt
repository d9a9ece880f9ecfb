-- So many of a text are as long as the number says.
use Rattle.std.proofs.Common.{ℕ, List, sym, ap, ◌∙◌}
use Rattle.mon_text.proofs.Cutting.{on_err}
use Rattle.sno_value.specs.{declared.value.Value.TheVariants.{Text}, declared.outcome.Outcome.TheVariants.{Gives}, Memory.{is_given}}
use Rattle.sno_value.proofs.Strings.{too_many, not_too_many}
use Rattle.sno_value.proofs.texts.copied.Goals as goal

pub returns-then-is_too_long-clause-value : goal.returns-then-is_too_long-clause-value
returns-then-is_too_long-clause-value c = too_many c.args.most c.args.times c.args.text.now c.is_too_long.result c.is_too_long.ensures c.if-is_too_long.true

pub returns-clause-value : goal.returns-clause-value
returns-clause-value c =
    ap (λ (t : List ℕ). Gives (Text t)) c.in_ok-text.ensures.value
    ∙ not_too_many c.args.most c.args.times c.args.text.now c.is_too_long.result c.is_too_long.ensures c.if-is_too_long.false

pub returns-in_err-text-clause-memory : goal.returns-in_err-text-clause-memory
returns-in_err-text-clause-memory c =
    on_err c.from_residual.result
    (ap is_given (sym (not_too_many c.args.most c.args.times c.args.text.now c.is_too_long.result c.is_too_long.ensures c.if-is_too_long.false)))
