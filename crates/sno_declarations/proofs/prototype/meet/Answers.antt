use Rattle.std.proofs.Common.{rules}
use Rattle.sno_declarations.proofs.Apart.{one_met}
use Rattle.sno_declarations.proofs.prototype.meet.Goals as goal

pub returns : goal.returns
returns c =
    one_met c.in_ok-new.new c.args.met.now c.insert.new.self c.args.name.now c.in_ok-name.name (search rules) c.in_ok-new.ensures.added c.in_ok-new.ensures.updates
