-- Which requests may take memory (own): a record that is handed out or stored is copied, and what is not done is noted.
use Rattle.std.specs.Prelude.{Bool, true, false, IsTrue}
use Rattle.mon_access.specs.declared.account.Account.{Account}
use Rattle.interaction.specs.declared.request.Act.{Act}
use Rattle.interaction.specs.declared.request.Act.TheVariants.{Read, Write, Endfile, Rewind}
use Rattle.interaction.specs.declared.request.Request.{Request}
use Rattle.interaction.specs.declared.answer.Answer.{Answer}
use Rattle.interaction.specs.declared.answer.Answer.TheVariants.{Done, Got, EndOfFile, Denied, Full}
use Rattle.mon_unit.specs.Serving.{Reach, serve}

-- the end of file takes none, and neither does what is done but for a write
abbrev pub takes_memory : Act → Answer → Bool
takes_memory act (Got line) = true
takes_memory act EndOfFile = false
takes_memory act (Denied reason) = true
takes_memory act Full = true
takes_memory (Write u line) Done = true
takes_memory (Read u) Done = false
takes_memory (Endfile u) Done = false
takes_memory (Rewind u) Done = false

abbrev pub MayGrow : Account → Reach → Request → Type 0
MayGrow account reach q = IsTrue (takes_memory q.act (serve account reach q).0)
