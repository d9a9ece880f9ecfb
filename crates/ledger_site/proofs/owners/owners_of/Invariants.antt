-- Those so far are there.
use Rattle.std.proofs.Common.{◌≡◌, ◌++◌, map, drop}
use Rattle.ledger_site.specs.Owning.{seen_owner, served_for}
use Rattle.ledger_site.proofs.owners.owners_of.Given as goal

abbrev pub invariant-loop-user : goal.invariant-loop-user
invariant-loop-user l =
    map seen_owner l.owners.items ++ map (served_for l.tables.limits) (drop l.user-index l.tables.users.items)
    ≡ map (served_for l.tables.limits) l.tables.users.items
