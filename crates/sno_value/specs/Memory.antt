-- Where values take memory (own).
use Rattle.std.specs.Prelude.{Bool, true, false, nat_lt, nat_le, length, Option, Some, None}
use Rattle.sno_text.specs.Patterns as patterns
use Rattle.sno_value.specs.declared.value.Value.{Value}
use Rattle.sno_value.specs.declared.value.Value.TheVariants.{Text, Integer, Pattern, Unevaluated, Table}
use Rattle.sno_value.specs.declared.outcome.Outcome.{Outcome}
use Rattle.sno_value.specs.declared.outcome.Outcome.TheVariants.{Gives, Fails, Faults}

-- what a copy shares with it: characters, of which there is at least one, or a pattern
abbrev pub has_shared : Value → Bool
has_shared (Text t) = nat_lt 0 (length t)
has_shared (Integer i) = false
has_shared (Pattern p) = true
has_shared (Unevaluated name) = nat_lt 0 (length name)
has_shared (Table n) = false

-- is it as deep as a pattern can be, so that it can't become a part of another
abbrev pub is_deepest : Option patterns.Pattern → Bool
is_deepest (Some p) = nat_le patterns.most_depth (patterns.depth p)
is_deepest None = false

-- a value is given; failure and faults take no memory
abbrev pub is_given : Outcome → Bool
is_given (Gives v) = true
is_given Fails = false
is_given (Faults fault) = false
