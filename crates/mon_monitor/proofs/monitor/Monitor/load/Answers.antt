use Rattle.mon_monitor.proofs.Unseen.{refusal_isolated}
use Rattle.mon_monitor.proofs.monitor.Monitor.load.Goals as goal

pub returns-clause-refusal_isolated : goal.returns-clause-refusal_isolated
returns-clause-refusal_isolated c =
    refusal_isolated c.args.deck c.args.self.now.accounts c.args.self.now.catalogue.value c.args.self.now.slots c.load.new.self c.load.result
    c.load.ensures.refused c.load.ensures.unchanged
