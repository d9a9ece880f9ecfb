-- When two outcomes of a run are the same (own).
use Rattle.std.specs.Prelude.{◌≡◌}
use Rattle.rows.specs.declared.case.Outcome.{Outcome}

-- the same output, the same text for standard error and the same exit status
abbrev pub AreSame : Outcome → Outcome → Type 0
AreSame wanted seen =
    (wanted.stdout.items ≡ seen.stdout.items) × (wanted.stderr.items ≡ seen.stderr.items) × (wanted.status ≡ seen.status)
