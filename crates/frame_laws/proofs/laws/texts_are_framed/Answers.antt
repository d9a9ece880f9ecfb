use Rattle.frame_laws.proofs.Playing.{texts_are_framed}
use Rattle.frame_laws.proofs.laws.texts_are_framed.Goals as goal

pub returns : goal.returns
returns c = texts_are_framed
