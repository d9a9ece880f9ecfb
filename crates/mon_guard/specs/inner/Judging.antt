-- An act on a set, by what was decided: for the code.
use Rattle.mon_access.specs.declared.access.Decision.{Decision}
use Rattle.mon_catalogue.specs.declared.data_set.DataSet.{DataSet}
use Rattle.mon_guard.specs.inner.Parts.{by_decision, or_denied}
use Rattle.mon_guard.specs.Acting.{Act, Acted, done}

-- what an act on a set does where this was decided: it is done, or denied for the entry that decided
abbrev pub acted_by : Decision → Act → DataSet → Acted
acted_by decision act set = or_denied (by_decision set.acl decision (done act set))
