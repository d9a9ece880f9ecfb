-- What a command is told in one line (own).
use Rattle.std.specs.Prelude.{ℕ, List, [], ◌++◌, codes}
use Rattle.std.specs.Option.{unwrap_or}
use Rattle.mon_acl.specs.Entries.{tag_word}
use Rattle.interaction.specs.declared.answer.Reason.{Reason}
use Rattle.interaction.specs.declared.answer.Reason.TheVariants as reason
use Rattle.mon_command.specs.declared.reply.Reply.{Reply}
use Rattle.mon_command.specs.declared.reply.Reply.TheVariants.{Done, NoAccount, Denied, NameTaken, CatalogueFull, BadList}
use Rattle.acl_text.specs.Refused.{list_refusal}

-- why something is denied: the entry that decided, or what is missing
abbrev pub reason_text : Reason → List ℕ
reason_text (reason.By tag name) = codes "BY " ++ tag_word tag ++ codes ":" ++ unwrap_or name [] ++ codes ":"
reason_text reason.NoSet = codes "NO DATA SET"
reason_text reason.NotOwner = codes "NOT OWNER"
reason_text reason.NoUnit = codes "NO UNIT"
reason_text reason.InStream = codes "IN STREAM"
reason_text reason.SpoolUnit = codes "SPOOL UNIT"
reason_text reason.Mode = codes "MODE"

abbrev pub reply_text : Reply → List ℕ
reply_text Done = codes "DONE"
reply_text NoAccount = codes "REFUSED M2 NO ACCOUNT"
reply_text (Denied reason) = codes "DENIED " ++ reason_text reason
reply_text NameTaken = codes "REFUSED K1 NAME TAKEN"
reply_text CatalogueFull = codes "REFUSED K4 CATALOGUE FULL"
reply_text (BadList error) = codes "REFUSED " ++ list_refusal error

abbrev pub reply_line : Reply → List ℕ
reply_line reply = reply_text reply ++ codes "\n"
