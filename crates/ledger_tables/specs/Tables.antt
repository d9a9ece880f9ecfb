-- The tables of an operator, as the ledger has them (own): the texts of the accounts, of the users and of the limits, each behind its
-- length.
use Rattle.std.specs.Prelude.{◌≡◌, ◌<◌, ◌^◌, ℕ, List, [], ◌∷◌, length, Option, Some, None, Result, Ok, Err}
use Rattle.std.specs.Option.{option_and_then}
use Rattle.ledger_text.specs.Text.{commit_text, commit_of}
use Rattle.mon_access.specs.declared.account.Account.{Account}
use Rattle.site_plan.specs.declared.users.User.{User}
use Rattle.site_plan.specs.Walks.{and_then}
use Rattle.site_plan.specs.Tables.{table_of}
use Rattle.site_plan.specs.Users.{users_of}
use Rattle.ledger_tables.specs.declared.limits.Limits.{Limits}
use Rattle.ledger_tables.specs.declared.tables.Texts.{Texts}
use Rattle.ledger_tables.specs.declared.tables.Tables as code
use Rattle.ledger_tables.specs.declared.tables.TablesFault.{TablesFault}
use Rattle.ledger_tables.specs.declared.tables.TablesFault.TheVariants as fault
use Rattle.ledger_tables.specs.Limits.{limits_of}

-- the three texts
pub record Three : Type 0 where
  pub accounts : List ℕ
  pub users : List ℕ
  pub limits : List ℕ

abbrev pub seen_texts : Texts → Three
seen_texts texts = record { accounts = texts.accounts.now; users = texts.users.now; limits = texts.limits.now }

abbrev pub tables_text : Three → List ℕ
tables_text texts = commit_text (texts.accounts ∷ texts.users ∷ texts.limits ∷ [])

abbrev pub three_of : List (List ℕ) → Option Three
three_of (accounts ∷ users ∷ limits ∷ []) = Some (record { accounts = accounts; users = users; limits = limits })
three_of _ = None

-- the texts in the body of a record, if they are there
abbrev pub texts_of : List ℕ → Option Three
texts_of body = option_and_then three_of (commit_of body)

-- ---- what they say

pub record Said : Type 0 where
  pub accounts : List Account
  pub users : List User
  pub limits : Limits

abbrev pub seen_tables : code.Tables → Said
seen_tables tables = record { accounts = tables.accounts; users = tables.users.items; limits = tables.limits }

-- a fault in one of them
abbrev pub in_file : {A F : Type 0} → (F → TablesFault) → Result A (ℕ × F) → Result A (ℕ × TablesFault)
in_file name (Ok x) = Ok x
in_file name (Err (line, why)) = Err (line, name why)

-- what they say, or the first line that is wrong: of the accounts, else of the limits, else of the users
abbrev pub tables_of : Three → Result Said (ℕ × TablesFault)
tables_of texts =
    and_then (in_file fault.Accounts (table_of texts.accounts)) (λ accounts.
    and_then (in_file fault.Limits (limits_of texts.limits)) (λ limits.
    and_then (in_file fault.Users (users_of limits.demonstration accounts texts.users)) (λ users.
    Ok (record { accounts = accounts; users = users; limits = limits }))))

-- ---- laws

abbrev pub AreShort : Three → Type 0
AreShort texts = (length texts.accounts < 2 ^ 63) × ((length texts.users < 2 ^ 63) × (length texts.limits < 2 ^ 63))

-- the texts are read of a record as they were put there; so what they say is what the files said
abbrev pub ReadsTables : Type 0
ReadsTables = (texts : Three) → AreShort texts → texts_of (tables_text texts) ≡ Some texts
