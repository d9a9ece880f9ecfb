-- How the table is kept: a map from names to accounts, each account under its own name.
use Rattle.std.specs.Prelude.{◌≡◌, ℕ, List, map}
use Rattle.mon_access.specs.declared.account.Account.{Account}
use Rattle.mon_access.specs.Accounts.{names_of, HaveDifferentNames}

-- the accounts of such a map
abbrev pub accounts_of : List (List ℕ × Account) → List Account
accounts_of entries = map (λ entry. entry.1) entries

-- each account stands under its own name, and no name twice
pub record IsTable (entries : List (List ℕ × Account)) : Type 0 where
  pub own_names : map (λ entry. entry.0) entries ≡ names_of (accounts_of entries)
  pub different : HaveDifferentNames (accounts_of entries)
