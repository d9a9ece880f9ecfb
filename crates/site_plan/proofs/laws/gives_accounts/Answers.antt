use Rattle.site_plan.proofs.Tables.{gives_accounts}
use Rattle.site_plan.proofs.laws.gives_accounts.Goals as goal

pub returns : goal.returns
returns c = gives_accounts
