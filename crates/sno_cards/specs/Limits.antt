-- How many statements of a job may begin, and how many steps each of its matches may take (own): from 1 to 10,000,000.
use Rattle.std.specs.Prelude.{ℕ, ◌≤◌}
use Rattle.sno_cards.specs.declared.limits.Limits.{Limits}

abbrev pub IsLimit : ℕ → Type 0
IsLimit n = (1 ≤ n) × (n ≤ 10000000)

abbrev pub AreLimits : Limits → Type 0
AreLimits limits = IsLimit limits.statements × IsLimit limits.steps
