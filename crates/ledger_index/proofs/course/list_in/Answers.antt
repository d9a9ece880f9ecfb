use Rattle.std.proofs.Common.{option_map, sym, ap, ◌∙◌}
use Rattle.ledger_index.{specs.Course.{seen_kept}, proofs.Entries.{next_one}}
use Rattle.ledger_index.proofs.course.list_in.Goals as goal

pub loop-field-preserved : goal.loop-field-preserved
loop-field-preserved c =
    next_one _ c.args.fields.now c.loop-field.field-index _ c.loop-field.list.items c.push.new.self.items c.in-Some.one c.loop-field-test.true
    (sym (ap (option_map seen_kept) c.in-Some.is) ∙ c.in_ok-one.ensures) c.in_ok-push-in-Some.ensures.items c.loop-field.invariant
