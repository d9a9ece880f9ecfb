-- A state of the code, as definitions see it.
use Rattle.ledger_sets.specs.declared.site.State.{State}
use Rattle.ledger_sets.specs.Applying.{Site}

abbrev pub site_of : State → Site
site_of state = record {
  sets = state.catalogue;
  jobs = state.jobs;
  accounts = state.tables.accounts.items;
  users = state.tables.users.items;
  limits = state.tables.limits.items;
}
