use Rattle.ledger_restoring.proofs.Restored.{leads}
use Rattle.ledger_restoring.proofs.restoring.leading_change.Goals as goal

pub returns-clause-leads : goal.returns-clause-leads
returns-clause-leads c =
    leads c.changes_lead.ensures c.texts_lead.ensures c.args.before.now c.args.after.now c.in_ok-text.text.items
    c.reads_back.ensures.stored c.reads_back.ensures.printable c.reads_back-2.ensures.stored c.reads_back-2.ensures.printable c.in_ok-text.ensures
