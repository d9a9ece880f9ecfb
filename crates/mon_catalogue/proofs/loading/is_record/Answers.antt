use Rattle.std.proofs.Common.{length}
use Rattle.std.proofs.lemmas.Bool.{leb-true}
use Rattle.mon_catalogue.proofs.loading.is_record.Goals as goal

pub returns-clause-short : goal.returns-clause-short
returns-clause-short c = λ short. leb-true (length c.args.line.now) 1024 short
