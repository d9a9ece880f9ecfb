use Rattle.std.proofs.Common.{length}
use Rattle.std.specs.Prelude.{decimal}
use Rattle.ledger_text.proofs.Taking.{next_text}
use Rattle.ledger_text.proofs.commit.commit_text.Goals as goal

pub loop-field-preserved : goal.loop-field-preserved
loop-field-preserved c =
    next_text (λ field. field.now) c.args.fields.now c.loop-field.field-index _ (decimal (length c.args.fields.now)) c.loop-field.text.items c.put_field.new.out.items
    c.loop-field-test.true c.loop-field.invariant c.in_ok-put_field.ensures
