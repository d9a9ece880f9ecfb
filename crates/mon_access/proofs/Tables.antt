-- What holds of a map from names to accounts, each account under its own name.
use Rattle.std.proofs.Common.{◌≡◌, ℕ, List, [], ◌∷◌, ◌++◌, ◌∙◌, None, refl, sym, ap, subst}
use Rattle.std.{specs.Prelude.{bytes_eq}, specs.List.{IsDistinct}, specs.Map.{keys_of, lookup}, proofs.lemmas.List.{map-append}}
use Rattle.indexmap.{specs.IndexMap.{IndexMap, get, insert_entry}, proofs.CallerLemmas.{insert_entry-new}}
use Rattle.mon_access.specs.{declared.account.Account.{Account}, Accounts.{find_account, names_of}, inner.Layout.{accounts_of, IsTable}}

-- the look-up by key is the table's entry of that name
pub lookup-accounts_of : (name : List ℕ) (entries : List (List ℕ × Account)) → keys_of entries ≡ names_of (accounts_of entries)
    → lookup (bytes_eq name) entries ≡ find_account (accounts_of entries) name
lookup-accounts_of name [] own = refl
lookup-accounts_of name (e ∷ es) own =
    let key : e.0 ≡ e.1.name = cc in
    let keys : keys_of es ≡ names_of (accounts_of es) = cc in
    let rest = lookup-accounts_of name es keys in
    rw (key, rest)

-- a new name goes last
pub entries-new : {S : Type 0} (table : IndexMap (List ℕ) Account S) (new : List (List ℕ × Account)) (name : List ℕ) (account : Account)
    → IsTable table.entries → name ≡ account.name → find_account (accounts_of table.entries) account.name ≡ None
    → new ≡ insert_entry bytes_eq table.entries name account → new ≡ table.entries ++ (account.name, account) ∷ []
entries-new table new name account is name_is absent put =
    let none : get bytes_eq table account.name ≡ None = lookup-accounts_of account.name table.entries is.own_names ∙ absent in
    put ∙ ap (λ n. insert_entry bytes_eq table.entries n account) name_is ∙ insert_entry-new bytes_eq table account.name account none

-- one more entry is one more account
pub accounts_of-push : (entries new : List (List ℕ × Account)) (account : Account)
    → new ≡ entries ++ (account.name, account) ∷ [] → accounts_of new ≡ accounts_of entries ++ account ∷ []
accounts_of-push entries new account is = ap accounts_of is ∙ map-append (λ (e : List ℕ × Account). e.1) entries _

-- and the map stays one from names to accounts
pub IsTable-push : (entries new : List (List ℕ × Account)) (account : Account) → IsTable entries
    → new ≡ entries ++ (account.name, account) ∷ [] → IsDistinct bytes_eq (keys_of new) → IsTable new
IsTable-push entries new account table is distinct =
    let keys : keys_of new ≡ keys_of entries ++ account.name ∷ [] = ap keys_of is ∙ map-append (λ (e : List ℕ × Account). e.0) entries _ in
    let names : names_of (accounts_of new) ≡ names_of (accounts_of entries) ++ account.name ∷ [] =
    ap names_of (accounts_of-push entries new account is) ∙ map-append (λ (a : Account). a.name) (accounts_of entries) _ in
    let own : keys_of new ≡ names_of (accounts_of new) = keys ∙ ap (λ ks. ks ++ account.name ∷ []) table.own_names ∙ sym names in
    record { own_names = own; different = subst (IsDistinct bytes_eq) own distinct }
