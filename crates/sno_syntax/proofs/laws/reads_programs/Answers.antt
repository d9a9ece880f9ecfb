use Rattle.sno_syntax.proofs.Readable.{reads_programs as law}
use Rattle.sno_syntax.proofs.laws.reads_programs.Goals as goal

pub returns : goal.returns
returns c = law
