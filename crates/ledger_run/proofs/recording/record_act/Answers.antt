use Rattle.std.proofs.Common.{refl, sym, ◌∙◌}
use Rattle.ledger_text.specs.Records.{seen}
use Rattle.ledger_run.{specs.Runs.{seen_ledger}, proofs.Keeping.{untold}, proofs.Safety.{still_safe}}
use Rattle.ledger_run.proofs.recording.record_act.Goals as goal

pub returns-then-runs-clause-any_moment : goal.returns-then-runs-clause-any_moment
returns-then-runs-clause-any_moment g c = still_safe g.D.Disk.calls g.M.Machine.step (seen_ledger c.args.ledger.now) (g.M.Machine.behind c.args.machine.now) c.args.disk.now c.args.disk.now refl

pub put_record-requires : goal.put_record-requires
put_record-requires g c =
    untold g.M.Machine.step (seen_ledger c.args.ledger.now) (g.M.Machine.behind c.args.machine.now) (seen c.args.entry.record) c.args.change.now (sym c.runs.ensures ∙ c.if-runs.false)
