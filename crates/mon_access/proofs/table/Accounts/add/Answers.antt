use Rattle.std.proofs.Common.{rules, ◌≡◌, ◌∙◌, ◌++◌, ◌∷◌, [], None, ap}
use Rattle.std.specs.Prelude.{bytes_eq}
use Rattle.indexmap.specs.IndexMap.{insert_entry}
use Rattle.mon_access.{specs.Accounts.{find_account}, specs.inner.Layout.{accounts_of}, proofs.Tables.{entries-new, accounts_of-push, IsTable-push}}
use Rattle.mon_access.proofs.table.Accounts.add.Goals as goal

pub invariant_of-self-2 : goal.invariant_of-self-2
invariant_of-self-2 c =
    let absent : find_account c.args.self.now c.args.account.name ≡ None = search rules in
    let none : find_account (accounts_of c.self.inside.by_name.entries) c.args.account.name ≡ None = search rules in
    let put : c.insert.new.self.entries ≡ insert_entry bytes_eq c.self.inside.by_name.entries c.copy.result c.args.account = search rules in
    IsTable-push _ _ _ c.self.invariant (entries-new c.self.inside.by_name _ _ _ c.self.invariant c.copy.ensures none put) c.insert.ensures.unique

pub returns-clause-added : goal.returns-clause-added
returns-clause-added c =
    let absent : find_account c.args.self.now c.args.account.name ≡ None = search rules in
    let none : find_account (accounts_of c.self.inside.by_name.entries) c.args.account.name ≡ None = search rules in
    let put : c.insert.new.self.entries ≡ insert_entry bytes_eq c.self.inside.by_name.entries c.copy.result c.args.account = search rules in
    let pushed = entries-new c.self.inside.by_name _ _ _ c.self.invariant c.copy.ensures none put in
    accounts_of-push _ _ _ pushed ∙ ap (λ accounts. accounts ++ c.args.account ∷ []) c.self.view_is
