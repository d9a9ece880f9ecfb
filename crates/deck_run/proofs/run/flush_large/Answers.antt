use Rattle.mon_device.proofs.Putting.{puts_nothing}
use Rattle.deck_run.proofs.Holdings.{nothing_held}
use Rattle.deck_run.proofs.run.flush_large.Goals as goal

pub returns-clause-begun : goal.returns-clause-begun
returns-clause-begun g c = nothing_held (g.D.DeckDevices.written c.args.devices.now) c.args.out.now.printed

pub returns-clause-puts : goal.returns-clause-puts
returns-clause-puts g c = puts_nothing _
