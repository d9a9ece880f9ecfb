-- The users of a site (own): a number of the system and an account on each line.
use Rattle.std.specs.Prelude.{ℕ, ◌+◌, ◌-◌, ◌^◌, ◌==◌, Bool, not, ◌&&◌, nat_lt, List, [], ◌∷◌, ◌++◌, Option, Some, None, option_map, option_and_then, Result, Ok, Err, is_none, length, if◌then◌else◌, bytes_eq}
use Rattle.std.specs.Option.{option_map_or}
use Rattle.std.specs.List.{list_any}
use Rattle.std.specs.Str.Lines.{lines}
use Rattle.mon_text.specs.Lines.{words}
use Rattle.mon_text.specs.Names.{is_name}
use Rattle.mon_text.specs.Counts.{is_count, value_of}
use Rattle.mon_access.specs.declared.account.Account.{Account}
use Rattle.mon_access.specs.Accounts.{find_account}
use Rattle.site_plan.specs.declared.users.User.{User}
use Rattle.site_plan.specs.declared.users.UsersFault.{UsersFault}
use Rattle.site_plan.specs.declared.users.UsersFault.TheVariants.{BadLine, UidTwice, AccountTwice, NoAccount, NoUser}
use Rattle.site_plan.specs.Walks.{is_skipped, and_then, walked}

-- a number of 32 bits, but the largest, which is nobody's
abbrev pub uid_on : List ℕ → Option ℕ
uid_on word = if (is_count word && nat_lt (value_of word) (2 ^ 32 - 1)) then Some (value_of word) else None

abbrev pub name_on : List ℕ → Option (List ℕ)
name_on word = if is_name word then Some word else None

abbrev pub user_with : List ℕ → List ℕ → Option User
user_with uid account = option_and_then (λ uid. option_map (λ account. record { uid = uid; account = account }) (name_on account)) (uid_on uid)

abbrev pub user_on : List (List ℕ) → Option User
user_on (uid ∷ account ∷ []) = user_with uid account
user_on _ = None

abbrev pub has_uid : ℕ → List User → Bool
has_uid uid users = list_any (λ user. user.uid == uid) users

abbrev pub has_account : List ℕ → List User → Bool
has_account account users = list_any (λ user. bytes_eq user.account account) users

-- no number twice, unless a user may have several accounts; and no account twice
abbrev pub with_user : Bool → List User → User → Result (List User) UsersFault
with_user several users user =
    if (not several && has_uid user.uid users) then Err UidTwice
    else (if has_account user.account users then Err AccountTwice else Ok (users ++ user ∷ []))

-- and only an account of the table
abbrev pub with_known : Bool → List Account → List User → User → Result (List User) UsersFault
with_known several accounts users user = if is_none (find_account accounts user.account) then Err NoAccount else with_user several users user

abbrev pub after_line : Bool → List Account → List User → List ℕ → Result (List User) UsersFault
after_line several accounts users line =
    if is_skipped line then Ok users else option_map_or (with_known several accounts users) (user_on (words line)) (Err BadLine)

-- there is one at the least: where none is, one is missed behind so many lines
abbrev pub if_any : ℕ → List User → Result (List User) (ℕ × UsersFault)
if_any count users = if length users == 0 then Err (count + 1, NoUser) else Ok users

-- the users that a text gives, or its first line that is wrong, and why
abbrev pub users_of : Bool → List Account → List ℕ → Result (List User) (ℕ × UsersFault)
users_of several accounts text = and_then (walked (after_line several accounts) 1 [] (lines text)) (if_any (length (lines text)))
