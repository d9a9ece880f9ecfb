use Rattle.std.proofs.Common.{◌∙◌}
use Rattle.ledger_sets.specs.{Changes.{run_changes}, Applying.{with_jobs}}
use Rattle.ledger_sets.proofs.laws.runs_lead.Goals as goal

pub returns : goal.returns
returns c = λ site jobs audit after before_stored before_printable after_stored after_printable small.
    c.texts_lead.ensures (run_changes jobs audit site.sets after) site small
    ∙ c.changes_lead.ensures (with_jobs site jobs) after before_stored before_printable after_stored after_printable
