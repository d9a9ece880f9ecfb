-- An account table, as the list of its accounts in the order in which they were added (own).
use Rattle.std.specs.Prelude.{ℕ, List, Option, find, map, bytes_eq}
use Rattle.std.specs.List.{IsDistinct}
use Rattle.mon_access.specs.declared.account.Account.{Account}

-- the account of this name
abbrev pub find_account : List Account → List ℕ → Option Account
find_account accounts name = find (λ account. bytes_eq name account.name) accounts

-- the names, in the order of the accounts
abbrev pub names_of : List Account → List (List ℕ)
names_of accounts = map (λ account. account.name) accounts

-- no two accounts have one name
abbrev pub HaveDifferentNames : List Account → Type 0
HaveDifferentNames accounts = IsDistinct bytes_eq (names_of accounts)
