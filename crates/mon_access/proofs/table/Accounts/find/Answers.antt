use Rattle.std.proofs.Common.{◌∙◌}
use Rattle.mon_access.proofs.Tables.{lookup-accounts_of}
use Rattle.mon_access.proofs.table.Accounts.find.Goals as goal

pub returns-clause-found : goal.returns-clause-found
returns-clause-found c = rw (← c.self.view_is) (c.get.ensures.value ∙ lookup-accounts_of _ _ c.self.invariant.own_names)

pub returns-clause-different : goal.returns-clause-different
returns-clause-different c = rw (← c.self.view_is) c.self.invariant.different
