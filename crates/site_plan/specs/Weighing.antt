-- Which limit a text would break, if one (own): where none does, with what its account handed in before, it runs.
use Rattle.std.specs.Prelude.{ℕ, ◌+◌, ◌==◌, Bool, true, false, ◌&&◌, Option, Some, None, option_map, if◌then◌else◌}
use Rattle.preflight.specs.declared.tally.Tally.{Tally}
use Rattle.preflight.specs.declared.quota.Limit.{Limit}
use Rattle.preflight.specs.declared.quota.Limit.TheVariants.{Texts, Bytes, Jobs, Statements, Largest, Work, DataSets, Records}
use Rattle.preflight.specs.declared.quota.Quota.{Quota}
use Rattle.preflight.specs.declared.quota.HandedIn.{HandedIn}
use Rattle.preflight.specs.Allowances.{broken_limit, with_text}
use Rattle.site_plan.specs.declared.reason.Reason.{Reason}
use Rattle.site_plan.specs.declared.reason.Reason.TheVariants as reason

-- a limit of what the account owns at the round's start
abbrev pub is_of_owned : Limit → Bool
is_of_owned DataSets = true
is_of_owned Records = true
is_of_owned _ = false

-- such a limit stops no text that has no job and makes no data set: so an account can always delete
abbrev pub spared : Tally → Option Limit → Option Limit
spared tally None = None
spared tally (Some limit) = if (is_of_owned limit && (tally.jobs == 0) && (tally.creates == 0)) then None else Some limit

-- the limit that stops a text, where the account has this handed in with it
abbrev pub stopped_by : Quota → HandedIn → Tally → Option Limit
stopped_by limits after tally = spared tally (broken_limit limits after)

-- how much there is of what a limit is about, and how much there may be
abbrev pub amount : Limit → HandedIn → ℕ
amount Texts handed = handed.texts
amount Bytes handed = handed.tally.bytes
amount Jobs handed = handed.tally.jobs
amount Statements handed = handed.tally.statements
amount Largest handed = handed.tally.largest
amount Work handed = handed.tally.work
amount DataSets handed = handed.data_sets + handed.tally.creates
amount Records handed = handed.records

abbrev pub allowed : Limit → Quota → ℕ
allowed Texts limits = limits.texts
allowed Bytes limits = limits.bytes
allowed Jobs limits = limits.jobs
allowed Statements limits = limits.statements
allowed Largest limits = limits.largest
allowed Work limits = limits.work
allowed DataSets limits = limits.data_sets
allowed Records limits = limits.records

-- why a text does not run, for a limit
abbrev pub weighed : Quota → HandedIn → Tally → Option Reason
weighed limits handed tally =
    let after = with_text handed tally in
    option_map (λ limit. reason.Limit limit (amount limit after) (allowed limit limits)) (stopped_by limits after tally)
