use Rattle.mon_monitor.proofs.laws.drain_empties.Goals as goal

pub returns : goal.returns
returns c = λ m w s. c.drain_empties.ensures w.scheduler m s
