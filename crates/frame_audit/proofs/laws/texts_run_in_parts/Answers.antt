use Rattle.frame_audit.proofs.Parting.{texts_run_in_parts}
use Rattle.frame_audit.proofs.laws.texts_run_in_parts.Goals as goal

pub returns : goal.returns
returns c = texts_run_in_parts
