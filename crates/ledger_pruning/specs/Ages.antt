-- Which commits stay, and which answers go, where so many days are kept (own). Times are seconds since the beginning of 1970.
use Rattle.std.specs.Prelude.{ℕ, ◌+◌, ◌-◌, ◌*◌, ◌==◌, ◌&&◌, nat_eq, nat_lt, Bool, not, if◌then◌else◌}
use Rattle.std.specs.Prelude.{List, [], ◌∷◌, length, take, drop, Option, Some, None, codes}
use Rattle.std.specs.List.{list_any, ends_with}
use Rattle.std.specs.Option.{option_and_then}
use Rattle.mon_text.specs.Counts.{is_count, value_of}
use Rattle.ledger_pruning.specs.Pruning.{first_since}
use Rattle.ledger_pruning.specs.declared.ages.Answer.{Answer}

-- THE BEGINNING of so many days before now
abbrev pub since : (now days : ℕ) → ℕ
since now days = now - 86400 * days

-- ---- commits

-- how many of the last commits stay: those from the first on that is of a time or later, where these are the times from a number on
abbrev pub kept_since : (since commits first : ℕ) → List ℕ → ℕ
kept_since since commits first times = commits - (first + first_since since times)

-- ---- answers

-- an answer was given where its number was claimed, and neither its submission waits nor it is owed
abbrev pub is_given : (next : ℕ) → List ℕ → ℕ → Bool
is_given next pending number = nat_lt number next && not (list_any (λ other. other == number) pending)

-- and it goes where its file is older
abbrev pub is_outdated : (since next : ℕ) → List ℕ → Answer → Bool
is_outdated since next pending answer = is_given next pending answer.number && nat_lt answer.time since

-- ---- their names: NUMBER.NAME.out

-- where the first point stands, counted from a number on
abbrev pub point : ℕ → List ℕ → Option ℕ
point n [] = None
point n (c ∷ cs) = if c == 46 then Some n else point (n + 1) cs

-- what stands behind the number: a name of one character at the least, and `.out`
abbrev pub is_named : List ℕ → Bool
is_named rest = nat_lt 4 (length rest) && ends_with nat_eq rest (codes ".out")

abbrev pub number_of : List ℕ → List ℕ → Option ℕ
number_of digits rest = if is_named rest && is_count digits then Some (value_of digits) else None

abbrev pub answer_at : List ℕ → ℕ → Option ℕ
answer_at name place = number_of (take place name) (drop (place + 1) name)

abbrev pub answer_of : List ℕ → Option ℕ
answer_of name = option_and_then (answer_at name) (point 0 name)
