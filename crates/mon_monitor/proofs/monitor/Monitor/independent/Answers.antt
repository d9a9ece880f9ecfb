use Rattle.mon_monitor.proofs.monitor.Monitor.independent.Goals as goal

pub returns : goal.returns
returns c = c.independent.ensures c.args.self.now.catalogue.value
