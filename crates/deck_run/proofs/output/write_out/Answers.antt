use Rattle.deck_run.proofs.Holdings.{nothing_held}
use Rattle.deck_run.proofs.output.write_out.Goals as goal

pub returns-then-is_err-clause-taken : goal.returns-then-is_err-clause-taken
returns-then-is_err-clause-taken g c = nothing_held (g.D.DeckDevices.written c.args.devices.now) c.args.output.now.printed
