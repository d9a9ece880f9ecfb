-- Limits that are printed are read as themselves.
use Rattle.std.proofs.Common.{◌≡◌, ℕ, ◌+◌, ◌<◌, ◌≤◌, ◌^◌, Bool, true, false, List, [], ◌∷◌, ◌++◌, map, length, Option, Some, None, Result, Ok, Err, if◌then◌else◌, refl, sym, ap, ◌∙◌, arith}
use Rattle.std.specs.{Prelude.{decimal, codes}, Option.{option_map_or}, List.{list_all, AllByRecursion}, Str.Lines.{lines}}
use Rattle.std.specs.List.{list_any, flat_map}
use Rattle.std.proofs.lemmas.{Bool.Decides.{nat_tests}, List.Concat.{flat_map-append}}
use Rattle.mon_text.specs.{Characters.{is_printable}, Counts.{value_of}, Lines.{is_nonempty, words}}
use Rattle.mon_text.proofs.{Counted.{is_count_of, count_of_decimal}, WrittenLines.{lines_written}}
use Rattle.preflight.specs.declared.quota.Limit.TheVariants.{Texts, Bytes, Jobs, Statements, Largest, Work, DataSets, Records}
use Rattle.site_plan.specs.Walks.{is_skipped, and_then, at_line, walked}
use Rattle.ledger_tables.specs.declared.limits.{Bound.{Bound}, Bound.TheVariants.{HandedIn, Seconds, Output, Days}, Given.{Given}, Said.{Said}, Limits.{Limits}}
use Rattle.ledger_tables.specs.declared.limits.{Said.TheVariants.{Gives, Demonstration}, LimitsFault.{LimitsFault}, LimitsFault.TheVariants.{BadLine, WrongDays, Twice}}
use Rattle.ledger_tables.proofs.Printed.{HasNoBlank, two_words, digits_have_no_blank, digits_are_some, digits_show, both_show}
use Rattle.ledger_tables.specs.Limits.{bound_name, bound_on, number_on, said_on, is_same, most_days, is_beyond, with_said, after_line, limits_in}
use Rattle.ledger_tables.specs.Limits.{given_by, given_line, days_lines, demonstration_lines, limit_lines, limits_text, AreSmall, AreDays, ReadsLimits}

-- ---- the names

bound_back : (b : Bound) → bound_on (bound_name b) ≡ Some b
bound_back (HandedIn Texts) = refl
bound_back (HandedIn Bytes) = refl
bound_back (HandedIn Jobs) = refl
bound_back (HandedIn Statements) = refl
bound_back (HandedIn Largest) = refl
bound_back (HandedIn Work) = refl
bound_back (HandedIn DataSets) = refl
bound_back (HandedIn Records) = refl
bound_back Seconds = refl
bound_back Output = refl
bound_back Days = refl

not_skipped : (b : Bound) (rest : List ℕ) → is_skipped (bound_name b ++ rest) ≡ false
not_skipped (HandedIn Texts) rest = refl
not_skipped (HandedIn Bytes) rest = refl
not_skipped (HandedIn Jobs) rest = refl
not_skipped (HandedIn Statements) rest = refl
not_skipped (HandedIn Largest) rest = refl
not_skipped (HandedIn Work) rest = refl
not_skipped (HandedIn DataSets) rest = refl
not_skipped (HandedIn Records) rest = refl
not_skipped Seconds rest = refl
not_skipped Output rest = refl
not_skipped Days rest = refl

has_no_blank : (b : Bound) → HasNoBlank (bound_name b)
has_no_blank (HandedIn Texts) = refl
has_no_blank (HandedIn Bytes) = refl
has_no_blank (HandedIn Jobs) = refl
has_no_blank (HandedIn Statements) = refl
has_no_blank (HandedIn Largest) = refl
has_no_blank (HandedIn Work) = refl
has_no_blank (HandedIn DataSets) = refl
has_no_blank (HandedIn Records) = refl
has_no_blank Seconds = refl
has_no_blank Output = refl
has_no_blank Days = refl

is_some_name : (b : Bound) → is_nonempty (bound_name b) ≡ true
is_some_name (HandedIn Texts) = refl
is_some_name (HandedIn Bytes) = refl
is_some_name (HandedIn Jobs) = refl
is_some_name (HandedIn Statements) = refl
is_some_name (HandedIn Largest) = refl
is_some_name (HandedIn Work) = refl
is_some_name (HandedIn DataSets) = refl
is_some_name (HandedIn Records) = refl
is_some_name Seconds = refl
is_some_name Output = refl
is_some_name Days = refl

shows : (b : Bound) → list_all is_printable (bound_name b) ≡ true
shows (HandedIn Texts) = refl
shows (HandedIn Bytes) = refl
shows (HandedIn Jobs) = refl
shows (HandedIn Statements) = refl
shows (HandedIn Largest) = refl
shows (HandedIn Work) = refl
shows (HandedIn DataSets) = refl
shows (HandedIn Records) = refl
shows Seconds = refl
shows Output = refl
shows Days = refl

-- ---- a line

line_shows : (given : Given) → given.number < 2 ^ 63 → list_all is_printable (given_line given) ≡ true
line_shows given fits = both_show (bound_name given.bound) (decimal given.number) (shows given.bound) (digits_show given.number fits)

takes : (said : List Said) (given : Given) → given.number < 2 ^ 63 → after_line said (given_line given) ≡ with_said said (Gives given)
takes said given fits =
    ap (λ (b : Bool). if b then Ok said else option_map_or (with_said said) (said_on (words (given_line given))) (Err BadLine))
    (not_skipped given.bound (32 ∷ decimal given.number))
    ∙ ap (λ (ws : List (List ℕ)). option_map_or (with_said said) (said_on ws) (Err BadLine))
    (two_words (bound_name given.bound) (decimal given.number) (has_no_blank given.bound) (digits_have_no_blank given.number fits)
    (is_some_name given.bound) (digits_are_some given.number fits))
    ∙ ap (λ (o : Option Bound). option_map_or (with_said said) (number_on o (decimal given.number)) (Err BadLine)) (bound_back given.bound)
    ∙ ap (λ (b : Bool). option_map_or (with_said said) (if b then Some (Gives (record { bound = given.bound; number = value_of (decimal given.number) })) else None) (Err BadLine))
    (is_count_of given.number fits)
    ∙ ap (λ (v : ℕ). with_said said (Gives (record { bound = given.bound; number = v }))) ((count_of_decimal given.number fits).1)

step : (n : ℕ) (said next : List Said) (given : Given) (more : List (List ℕ)) → given.number < 2 ^ 63 → with_said said (Gives given) ≡ Ok next
    → walked after_line n said (given_line given ∷ more) ≡ walked after_line (n + 1) next more
step n said next given more fits good =
    ap (λ (r : Result (List Said) LimitsFault). and_then (at_line n r) (λ known. walked after_line (n + 1) known more)) (takes said given fits ∙ good)

-- ---- days

within : (number : ℕ) → (1 ≤ number) × (number ≤ most_days) → is_beyond Days number ≡ false
within number are = grind (arith, nat_tests, are.0, are.1)

-- ---- all lines

module _ (limits : Limits) (small : AreSmall limits) where
  abbrev texts : Given
  texts = record { bound = HandedIn Texts; number = limits.quota.texts }

  abbrev bytes : Given
  bytes = record { bound = HandedIn Bytes; number = limits.quota.bytes }

  abbrev jobs : Given
  jobs = record { bound = HandedIn Jobs; number = limits.quota.jobs }

  abbrev statements : Given
  statements = record { bound = HandedIn Statements; number = limits.quota.statements }

  abbrev largest : Given
  largest = record { bound = HandedIn Largest; number = limits.quota.largest }

  abbrev work : Given
  work = record { bound = HandedIn Work; number = limits.quota.work }

  abbrev data_sets : Given
  data_sets = record { bound = HandedIn DataSets; number = limits.quota.data_sets }

  abbrev records : Given
  records = record { bound = HandedIn Records; number = limits.quota.records }

  abbrev seconds : Given
  seconds = record { bound = Seconds; number = limits.seconds }

  abbrev output : Given
  output = record { bound = Output; number = limits.output }

  abbrev of_five : List Said
  of_five = Gives texts ∷ Gives bytes ∷ Gives jobs ∷ Gives statements ∷ Gives largest ∷ []

  abbrev all : List Said
  all = Gives texts ∷ Gives bytes ∷ Gives jobs ∷ Gives statements ∷ Gives largest ∷ Gives work ∷ Gives data_sets ∷ Gives records ∷ Gives seconds ∷ Gives output ∷ []

  abbrev last_five : List (List ℕ) → List (List ℕ)
  last_five more = given_line work ∷ given_line data_sets ∷ given_line records ∷ given_line seconds ∷ given_line output ∷ more

  first_walk : (more : List (List ℕ)) → walked after_line 1 [] (map given_line (given_by limits) ++ more) ≡ walked after_line 6 of_five (last_five more)
  first_walk more =
      step 1 [] (Gives texts ∷ []) texts (given_line bytes ∷ given_line jobs ∷ given_line statements ∷ given_line largest ∷ last_five more) small.0 refl
      ∙ step 2 (Gives texts ∷ []) (Gives texts ∷ Gives bytes ∷ []) bytes (given_line jobs ∷ given_line statements ∷ given_line largest ∷ last_five more) small.1.0 refl
      ∙ step 3 (Gives texts ∷ Gives bytes ∷ []) (Gives texts ∷ Gives bytes ∷ Gives jobs ∷ []) jobs
      (given_line statements ∷ given_line largest ∷ last_five more) small.1.1.0 refl
      ∙ step 4 (Gives texts ∷ Gives bytes ∷ Gives jobs ∷ []) (Gives texts ∷ Gives bytes ∷ Gives jobs ∷ Gives statements ∷ []) statements
      (given_line largest ∷ last_five more) small.1.1.1.0 refl
      ∙ step 5 (Gives texts ∷ Gives bytes ∷ Gives jobs ∷ Gives statements ∷ []) of_five largest (last_five more) small.1.1.1.1.0 refl

  last_walk : (more : List (List ℕ)) → walked after_line 6 of_five (last_five more) ≡ walked after_line 11 all more
  last_walk more =
      step 6 of_five (of_five ++ Gives work ∷ []) work (given_line data_sets ∷ given_line records ∷ given_line seconds ∷ given_line output ∷ more) small.1.1.1.1.1.0 refl
      ∙ step 7 (of_five ++ Gives work ∷ []) (of_five ++ Gives work ∷ Gives data_sets ∷ []) data_sets
      (given_line records ∷ given_line seconds ∷ given_line output ∷ more) small.1.1.1.1.1.1.0 refl
      ∙ step 8 (of_five ++ Gives work ∷ Gives data_sets ∷ []) (of_five ++ Gives work ∷ Gives data_sets ∷ Gives records ∷ []) records
      (given_line seconds ∷ given_line output ∷ more) small.1.1.1.1.1.1.1.0 refl
      ∙ step 9 (of_five ++ Gives work ∷ Gives data_sets ∷ Gives records ∷ []) (of_five ++ Gives work ∷ Gives data_sets ∷ Gives records ∷ Gives seconds ∷ []) seconds
      (given_line output ∷ more) small.1.1.1.1.1.1.1.1.0 refl
      ∙ step 10 (of_five ++ Gives work ∷ Gives data_sets ∷ Gives records ∷ Gives seconds ∷ []) all output more small.1.1.1.1.1.1.1.1.1.0 refl

  -- what the lines say, with the last of them
  abbrev read : List (List ℕ) → Result Limits (ℕ × LimitsFault)
  read ls = and_then (walked after_line 1 [] ls) (λ said. at_line (length ls + 1) (limits_in said))

  walk : (more : List (List ℕ)) → walked after_line 1 [] (map given_line (given_by limits) ++ more) ≡ walked after_line 11 all more
  walk more = first_walk more ∙ last_walk more

  -- with the days
  abbrev of_days : ℕ → Given
  of_days number = record { bound = Days; number = number }

  abbrev rest : Option ℕ → Bool → List (List ℕ)
  rest days flag = days_lines days ++ demonstration_lines flag

  abbrev with_days : Option ℕ → List Said
  with_days None = all
  with_days (Some number) = all ++ Gives (of_days number) ∷ []

  abbrev next : Option ℕ → ℕ
  next None = 11
  next (Some number) = 12

  days_walk : (days : Option ℕ) → AreDays days → (more : List (List ℕ)) → walked after_line 11 all (days_lines days ++ more) ≡ walked after_line (next days) (with_days days) more
  days_walk None are more = refl
  days_walk (Some number) are more =
      step 11 all (with_days (Some number)) (of_days number) more (omega (arith, are.1))
      (ap (λ (b : Bool). if b then Err WrongDays else if list_any (is_same (Gives (of_days number))) all then Err Twice else Ok (with_days (Some number)))
      (within number are))

  -- and with the word
  abbrev flagged : Option ℕ → Bool → List Said
  flagged days false = with_days days
  flagged days true = with_days days ++ Demonstration ∷ []

  flag_walk : (days : Option ℕ) (flag : Bool) → walked after_line (next days) (with_days days) (demonstration_lines flag) ≡ Ok (flagged days flag)
  flag_walk None false = refl
  flag_walk None true = refl
  flag_walk (Some number) false = refl
  flag_walk (Some number) true = refl

  abbrev of : Option ℕ → Bool → Limits
  of days flag = record { quota = limits.quota; seconds = limits.seconds; output = limits.output; days = days; demonstration = flag }

  said : (days : Option ℕ) (flag : Bool) → limits_in (flagged days flag) ≡ Ok (of days flag)
  said None false = refl
  said None true = refl
  said (Some number) false = refl
  said (Some number) true = refl

  with_rest : (days : Option ℕ) (flag : Bool) → AreDays days → limits.days ≡ days → limits.demonstration ≡ flag
      → read (map given_line (given_by limits) ++ rest days flag) ≡ Ok limits
  with_rest days flag are d f =
      ap (λ (r : Result (List Said) (ℕ × LimitsFault)). and_then r (λ said. at_line (length (map given_line (given_by limits) ++ rest days flag) + 1) (limits_in said)))
      (walk (rest days flag) ∙ days_walk days are (demonstration_lines flag) ∙ flag_walk days flag)
      ∙ ap (at_line (length (map given_line (given_by limits) ++ rest days flag) + 1)) (said days flag)
      ∙ ap (λ (own : Option ℕ). Ok (of own flag)) (sym d)
      ∙ ap (λ (own : Bool). Ok (of limits.days own)) (sym f)

  flag_shows : (b : Bool) → AllByRecursion (λ (line : List ℕ). list_all is_printable line ≡ true) (demonstration_lines b)
  flag_shows false = tt
  flag_shows true = (refl, tt)

  rest_shows : (days : Option ℕ) (flag : Bool) → AreDays days → AllByRecursion (λ (line : List ℕ). list_all is_printable line ≡ true) (rest days flag)
  rest_shows None flag are = flag_shows flag
  rest_shows (Some number) flag are = (line_shows (of_days number) (omega (arith, are.1)), flag_shows flag)

  all_show : AreDays limits.days → AllByRecursion (λ (line : List ℕ). list_all is_printable line ≡ true) (limit_lines limits)
  all_show are = (
    line_shows texts small.0,
    (
      line_shows bytes small.1.0,
      (
        line_shows jobs small.1.1.0,
        (
          line_shows statements small.1.1.1.0,
          (
            line_shows largest small.1.1.1.1.0,
            (
              line_shows work small.1.1.1.1.1.0,
              (
                line_shows data_sets small.1.1.1.1.1.1.0,
                (
                  line_shows records small.1.1.1.1.1.1.1.0,
                  (line_shows seconds small.1.1.1.1.1.1.1.1.0, (line_shows output small.1.1.1.1.1.1.1.1.1.0, rest_shows limits.days limits.demonstration are)),
                ),
              ),
            ),
          ),
        ),
      ),
    ),
  )

  abbrev ended : List ℕ → List ℕ
  ended line = line ++ 10 ∷ []

  lines_are : AreDays limits.days → lines (limits_text limits) ≡ limit_lines limits
  lines_are are =
      ap lines
      (sym (flat_map-append ended (map given_line (given_by limits)) (rest limits.days limits.demonstration)
      ∙ ap (λ (text : List ℕ). flat_map ended (map given_line (given_by limits)) ++ text)
      (flat_map-append ended (days_lines limits.days) (demonstration_lines limits.demonstration))))
      ∙ lines_written is_printable refl refl (limit_lines limits) (all_show are)

pub reads_limits : ReadsLimits
reads_limits limits small are =
    ap (read limits small) (lines_are limits small are) ∙ with_rest limits small limits.days limits.demonstration are refl refl
