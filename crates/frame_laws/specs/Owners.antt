-- Which data sets there are, in which order, and whose (own): that follows from the commands alone, since jobs make and delete none.
use Rattle.std.specs.Prelude.{ℕ, nat_eq, nat_le, List, [], ◌∷◌, ◌++◌, length, map, is_some, if◌then◌else◌}
use Rattle.std.specs.Option.{option_map_or}
use Rattle.std.specs.Map.{lookup, remove_entry}
use Rattle.std.specs.Cmp.Lexicographic.{pointwise}
use Rattle.mon_access.specs.declared.account.Account.{Account}
use Rattle.mon_access.specs.Accounts.{find_account}
use Rattle.mon_access.specs.Matches.{is_owner}
use Rattle.mon_catalogue.specs.Sets.{Sets}
use Rattle.deck_lines.specs.declared.command.Command.{Command}
use Rattle.deck_lines.specs.declared.command.Command.TheVariants.{Create, Delete, SetAcl, ShowAcl, List as Listing, Catalog}
use Rattle.deck_lines.specs.Commands.{account_of}
use Rattle.mon_monitor.specs.Events.{Event, Serve, Load, Give, Drain}

-- the names of the data sets, each with its owner
abbrev pub Owners : Type 0
Owners = List (List ℕ × List ℕ)

abbrev pub owners_of : Sets → Owners
owners_of sets = map (λ named. (named.0, named.1.owner)) sets

-- an account that is known makes a data set unless the name is taken or there are 1,000, and deletes what is its own
abbrev pub owners_by : Account → Command → Owners → Owners
owners_by account (Create _ name mode) owners =
    if is_some (lookup (pointwise nat_eq name) owners) then owners
    else if nat_le 1000 (length owners) then owners
    else owners ++ (name, account.name) ∷ []
owners_by account (Delete _ name) owners =
    option_map_or (λ owner. if is_owner account owner then remove_entry (pointwise nat_eq name) owners else owners)
    (lookup (pointwise nat_eq name) owners) owners
owners_by account (SetAcl _ name text) owners = owners
owners_by account (ShowAcl _ name) owners = owners
owners_by account (Listing _ name) owners = owners
owners_by account (Catalog _) owners = owners

abbrev pub owners_behind : List Account → Event → Owners → Owners
owners_behind accounts (Serve command) owners = option_map_or (λ account. owners_by account command owners) (find_account accounts (account_of command)) owners
owners_behind accounts (Load deck) owners = owners
owners_behind accounts (Give slot count) owners = owners
owners_behind accounts Drain owners = owners

-- behind all of these events
abbrev pub owners_after : List Account → List Event → Owners → Owners
owners_after accounts [] owners = owners
owners_after accounts (event ∷ events) owners = owners_after accounts events (owners_behind accounts event owners)
