-- What a site's file of limits says (own): each of the ten once, and `days` and the word `demonstration` or not; and how it is printed.
use Rattle.std.specs.Prelude.{◌≡◌, ◌<◌, ◌≤◌, ◌^◌, ℕ, ◌+◌, ◌==◌, ◌||◌, nat_lt, Bool, true, false, List, [], ◌∷◌, ◌++◌, map, Option, Some, None, option_map}
use Rattle.std.specs.Prelude.{Result, Ok, Err, if◌then◌else◌, bytes_eq, codes, decimal, length}
use Rattle.std.specs.Option.{option_map_or}
use Rattle.std.specs.List.{list_any, AllByRecursion}
use Rattle.std.specs.Str.Lines.{lines}
use Rattle.mon_text.specs.Lines.{words}
use Rattle.mon_text.specs.Counts.{is_count, value_of}
use Rattle.preflight.specs.declared.quota.Limit.TheVariants.{Texts, Bytes, Jobs, Statements, Largest, Work, DataSets, Records}
use Rattle.preflight.specs.declared.quota.Quota.{Quota}
use Rattle.site_plan.specs.Terms.{limit_name, limit_on}
use Rattle.site_plan.specs.Walks.{is_skipped, and_then, at_line, walked}
use Rattle.site_plan.specs.Tables.{ended_lines}
use Rattle.ledger_tables.specs.declared.limits.Bound.{Bound}
use Rattle.ledger_tables.specs.declared.limits.Bound.TheVariants.{HandedIn, Seconds, Output, Days}
use Rattle.ledger_tables.specs.declared.limits.Given.{Given}
use Rattle.ledger_tables.specs.declared.limits.Said.{Said}
use Rattle.ledger_tables.specs.declared.limits.Said.TheVariants.{Gives, Demonstration}
use Rattle.ledger_tables.specs.declared.limits.Limits.{Limits}
use Rattle.ledger_tables.specs.declared.limits.LimitsFault.{LimitsFault}
use Rattle.ledger_tables.specs.declared.limits.LimitsFault.TheVariants.{BadLine, WrongDays, Twice, Missing}

abbrev pub bound_name : Bound → List ℕ
bound_name (HandedIn limit) = limit_name limit
bound_name Seconds = codes "seconds"
bound_name Output = codes "output"
bound_name Days = codes "days"

abbrev pub bound_on : List ℕ → Option Bound
bound_on name =
    if bytes_eq (codes "seconds") name then Some Seconds
    else if bytes_eq (codes "output") name then Some Output
    else if bytes_eq (codes "days") name then Some Days
    else option_map HandedIn (limit_on name)

abbrev pub number_on : Option Bound → List ℕ → Option Said
number_on None number = None
number_on (Some bound) number = if is_count number then Some (Gives (record { bound = bound; number = value_of number })) else None

-- what these words say
abbrev pub said_on : List (List ℕ) → Option Said
said_on (word ∷ []) = if bytes_eq word (codes "demonstration") then Some Demonstration else None
said_on (name ∷ number ∷ []) = number_on (bound_on name) number
said_on _ = None

-- whether two lines say the same
abbrev pub is_same_bound : Bound → Bound → Bool
is_same_bound a b = bytes_eq (bound_name a) (bound_name b)

abbrev pub is_same : Said → Said → Bool
is_same (Gives a) (Gives b) = is_same_bound a.bound b.bound
is_same Demonstration Demonstration = true
is_same _ _ = false

-- answers are kept for one day at the least, and for a hundred years at the most
abbrev pub most_days : ℕ
most_days = 36500

abbrev pub is_beyond : Bound → ℕ → Bool
is_beyond Days number = number == 0 || nat_lt most_days number
is_beyond _ number = false

abbrev pub says_too_much : Said → Bool
says_too_much (Gives given) = is_beyond given.bound given.number
says_too_much Demonstration = false

abbrev pub with_said : List Said → Said → Result (List Said) LimitsFault
with_said said one =
    if says_too_much one then Err WrongDays
    else if list_any (is_same one) said then Err Twice
    else Ok (said ++ one ∷ [])

abbrev pub after_line : List Said → List ℕ → Result (List Said) LimitsFault
after_line said line = if is_skipped line then Ok said else option_map_or (with_said said) (said_on (words line)) (Err BadLine)

-- the number that is given for a bound
abbrev pub number_of : Bound → List Said → Option ℕ
number_of bound [] = None
number_of bound (Demonstration ∷ said) = number_of bound said
number_of bound (Gives given ∷ said) = if is_same_bound given.bound bound then Some given.number else number_of bound said

abbrev pub needed : {A : Type 0} → List Said → Bound → (ℕ → Result A LimitsFault) → Result A LimitsFault
needed said bound later = option_map_or later (number_of bound said) (Err (Missing bound))

-- what an account may hand in
abbrev pub quota_in : List Said → Result Quota LimitsFault
quota_in said =
    needed said (HandedIn Texts) (λ texts. needed said (HandedIn Bytes) (λ bytes. needed said (HandedIn Jobs) (λ jobs.
    needed said (HandedIn Statements) (λ statements. needed said (HandedIn Largest) (λ largest. needed said (HandedIn Work) (λ work.
    needed said (HandedIn DataSets) (λ data_sets. needed said (HandedIn Records) (λ records.
    Ok (record {
      texts = texts;
      bytes = bytes;
      jobs = jobs;
      statements = statements;
      largest = largest;
      work = work;
      data_sets = data_sets;
      records = records;
    })))))))))

abbrev pub is_demonstration : List Said → Bool
is_demonstration said = list_any (is_same Demonstration) said

abbrev pub limits_in : List Said → Result Limits LimitsFault
limits_in said =
    and_then (quota_in said) (λ quota. needed said Seconds (λ seconds. needed said Output (λ output.
    Ok (record { quota = quota; seconds = seconds; output = output; days = number_of Days said; demonstration = is_demonstration said }))))

-- what a text says, or its first line that is wrong, and why; a limit that is missing is missed behind the last line
abbrev pub limits_of : List ℕ → Result Limits (ℕ × LimitsFault)
limits_of text = and_then (walked after_line 1 [] (lines text)) (λ said. at_line (length (lines text) + 1) (limits_in said))

-- ---- printing

abbrev pub given_by : Limits → List Given
given_by limits =
    record { bound = HandedIn Texts; number = limits.quota.texts } ∷ record { bound = HandedIn Bytes; number = limits.quota.bytes }
    ∷ record { bound = HandedIn Jobs; number = limits.quota.jobs } ∷ record { bound = HandedIn Statements; number = limits.quota.statements }
    ∷ record { bound = HandedIn Largest; number = limits.quota.largest } ∷ record { bound = HandedIn Work; number = limits.quota.work }
    ∷ record { bound = HandedIn DataSets; number = limits.quota.data_sets } ∷ record { bound = HandedIn Records; number = limits.quota.records }
    ∷ record { bound = Seconds; number = limits.seconds } ∷ record { bound = Output; number = limits.output } ∷ []

abbrev pub given_line : Given → List ℕ
given_line given = bound_name given.bound ++ 32 ∷ decimal given.number

abbrev pub days_lines : Option ℕ → List (List ℕ)
days_lines None = []
days_lines (Some number) = given_line (record { bound = Days; number = number }) ∷ []

abbrev pub demonstration_lines : Bool → List (List ℕ)
demonstration_lines demonstration = if demonstration then codes "demonstration" ∷ [] else []

abbrev pub limit_lines : Limits → List (List ℕ)
limit_lines limits = map given_line (given_by limits) ++ (days_lines limits.days ++ demonstration_lines limits.demonstration)

abbrev pub limits_text : Limits → List ℕ
limits_text limits =
    ended_lines (map given_line (given_by limits)) ++ (ended_lines (days_lines limits.days) ++ ended_lines (demonstration_lines limits.demonstration))

-- numbers that are read as they were printed
abbrev pub AreSmall : Limits → Type 0
AreSmall limits = AllByRecursion (λ given. given.number < 2 ^ 63) (given_by limits)

-- days that there may be
abbrev pub AreDays : Option ℕ → Type 0
AreDays None = Unit {0}
AreDays (Some number) = (1 ≤ number) × (number ≤ most_days)

-- limits that are printed are read as themselves
abbrev pub ReadsLimits : Type 0
ReadsLimits = (limits : Limits) → AreSmall limits → AreDays limits.days → limits_of (limits_text limits) ≡ Ok limits
