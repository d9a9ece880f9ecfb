-- What holds of an operator's files: each is the contract of a function in `laws`.
use Rattle.std.specs.Prelude.{◌≡◌, ℕ, List, Ok}
use Rattle.std.specs.Str.Lines.{lines}
use Rattle.mon_access.specs.declared.account.Account.{Account}
use Rattle.mon_access.specs.Accounts.{HaveDifferentNames}
use Rattle.mon_catalogue.specs.Sets.{Sets}
use Rattle.deck_syntax.specs.Spelling.{SpellsAccounts}
use Rattle.site_plan.specs.Tables.{table_of}
use Rattle.site_plan.specs.Catalogues.{catalogue_of, SpellsCatalogue}

-- these lines spell these accounts, no two of one name
pub record IsGoodTable (table : List (List ℕ)) (accounts : List Account) : Type 0 where
  pub table_is : SpellsAccounts table accounts
  pub names_differ : HaveDifferentNames accounts

-- the accounts that a table gives are those that its lines spell
abbrev pub GivesAccounts : Type 0
GivesAccounts = (text : List ℕ) (accounts : List Account) → table_of text ≡ Ok accounts → IsGoodTable (lines text) accounts

-- the data sets that a catalogue's file gives are those that its lines spell, to the last
abbrev pub GivesSets : Type 0
GivesSets = (text : List ℕ) (sets : Sets) → catalogue_of text ≡ Ok sets → SpellsCatalogue text sets
