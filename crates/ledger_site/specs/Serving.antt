-- What is left where so many submissions were to run (own).
use Rattle.std.specs.Prelude.{◌≡◌, ℕ, ◌+◌, []}
use Rattle.ledger_run.specs.Runs.{Seen}
use Rattle.ledger_site.specs.declared.serving.Came.{Came}
use Rattle.ledger_site.specs.declared.serving.Came.TheVariants.{Over, On, Broken}

abbrev pub Leaves : Came → ℕ → Seen → Seen → Type 0
Leaves Over count seen new_seen = new_seen.waiting ≡ []
Leaves On count seen new_seen = new_seen.commits ≡ seen.commits + count
Leaves (Broken why) count seen new_seen = Unit {0}
