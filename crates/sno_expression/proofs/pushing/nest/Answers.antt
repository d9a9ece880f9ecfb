-- The new operator stands innermost.
use Rattle.sno_expression.{proofs.Spines.{grown_pushed}, specs.Abstraction.{expression_of}}
use Rattle.sno_expression.proofs.pushing.nest.Goals as goal

pub returns : goal.returns
returns c =
    grown_pushed c.args.pending.items c.push.new.self.items _ (expression_of c.args.operand) c.in_ok-push.ensures.items c.requires.under c.requires.fits
