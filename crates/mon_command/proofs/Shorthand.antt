-- Parts of the definitions by names of their own.
use Rattle.std.specs.{Prelude.{Option}, Option.{option_map_or}}
use Rattle.mon_access.specs.declared.account.Account.{Account}
use Rattle.mon_catalogue.specs.Sets.{Sets}
use Rattle.deck_lines.specs.declared.command.Command.{Command}
use Rattle.mon_command.specs.{declared.reply.Reply.TheVariants.{NoAccount}, Commanded.{Served, Commanded, Told, printed, served}}

abbrev pub served_if_known : Option Account → Command → Sets → Served
served_if_known account command sets = option_map_or (λ known. served known command sets) account (record { answer = Told NoAccount; sets = sets })

abbrev pub printed_as : Command → Served → Commanded
printed_as command s = record { printout = printed command s.answer; sets = s.sets }
