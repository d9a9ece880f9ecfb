-- What an account may hand in for a round (own): eight numbers, and which of them is broken first.
use Rattle.std.specs.Prelude.{ℕ, ◌+◌, ◌-◌, ◌^◌, min, max, nat_lt, Option, Some, None, if◌then◌else◌}
use Rattle.std.specs.Option.{option_or}
use Rattle.preflight.specs.declared.tally.Tally.{Tally}
use Rattle.preflight.specs.declared.quota.Quota.{Quota}
use Rattle.preflight.specs.declared.quota.HandedIn.{HandedIn}
use Rattle.preflight.specs.declared.quota.Limit.{Limit}
use Rattle.preflight.specs.declared.quota.Limit.TheVariants.{Texts, Bytes, Jobs, Statements, Largest, Work, DataSets, Records}

-- a number above its limit breaks it
abbrev pub above : ℕ → ℕ → Limit → Option Limit
above limit n name = if nat_lt limit n then Some name else None

-- the first limit that is broken. The data sets are those that the account owns when the round starts, and one for each
-- `$CREATE` card.
abbrev pub broken_limit : Quota → HandedIn → Option Limit
broken_limit limits handed =
    option_or (above limits.texts handed.texts Texts)
    (option_or (above limits.bytes handed.tally.bytes Bytes)
    (option_or (above limits.jobs handed.tally.jobs Jobs)
    (option_or (above limits.statements handed.tally.statements Statements)
    (option_or (above limits.largest handed.tally.largest Largest)
    (option_or (above limits.work handed.tally.work Work)
    (option_or (above limits.data_sets (handed.data_sets + handed.tally.creates) DataSets)
    (above limits.records handed.records Records)))))))

-- a number of 64 bits, or of 128: what is larger is told as the largest
abbrev pub told64 : ℕ → ℕ
told64 n = min n (2 ^ 64 - 1)

abbrev pub told128 : ℕ → ℕ
told128 n = min n (2 ^ 128 - 1)

-- of two texts, one after the other
abbrev pub both_tallies : Tally → Tally → Tally
both_tallies a b = record {
  jobs = told64 (a.jobs + b.jobs);
  statements = told128 (a.statements + b.statements);
  largest = max a.largest b.largest;
  work = told128 (a.work + b.work);
  creates = told64 (a.creates + b.creates);
  bytes = told64 (a.bytes + b.bytes);
}

-- one text more
abbrev pub with_text : HandedIn → Tally → HandedIn
with_text handed tally = record handed { texts = told64 (handed.texts + 1); tally = both_tallies handed.tally tally }
