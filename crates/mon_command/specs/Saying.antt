-- What a command was answered, without what it is shown (own).
use Rattle.std.specs.Prelude.{length}
use Rattle.mon_command.specs.declared.said.Said.{Said}
use Rattle.mon_command.specs.declared.said.Said.TheVariants as said
use Rattle.mon_command.specs.Commanded.{Answer, Told, Records, Shown, Names}

-- a reply as it is; of records, of a list and of names how many they are
abbrev pub said_of : Answer → Said
said_of (Told reply) = said.Told reply
said_of (Records records) = said.Records (length records)
said_of (Shown list) = said.Entries (length list.acl)
said_of (Names names) = said.Names (length names)
