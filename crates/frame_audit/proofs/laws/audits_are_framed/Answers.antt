use Rattle.frame_audit.proofs.Framing.{audits_are_framed}
use Rattle.frame_audit.proofs.laws.audits_are_framed.Goals as goal

pub returns : goal.returns
returns c = audits_are_framed
