-- The values of the reading by the definitions.
use Rattle.std.specs.Prelude.{ℕ, Result, Ok, Err}
use Rattle.sno_statement.specs.declared.parser.Aim.{Aim as AnAim}
use Rattle.sno_statement.specs.Abstraction.{target_of, goto_of}
use Rattle.sno_statement.specs.declared.parser.Refusal.{Refusal}
use Rattle.sno_statement.specs.declared.parser.Led.{Led}
use Rattle.sno_statement.specs.Statements.{Body, Goto, Says}
use Rattle.sno_statement.specs.inner.Parsing.{Aim, Aimed, Stated, States}

abbrev pub aims_of : Result AnAim Refusal → Result Aim Refusal
aims_of (Ok a) = Ok (Aimed (target_of a.target) a.rest.lacking a.rest.tokens.now)
aims_of (Err r) = Err r

-- a statement that does this and goes there, with its leftmost place that lacks a variable, or 0
abbrev pub reached : Body → Goto → Result ℕ Refusal → Result Stated Refusal
reached b g (Ok n) = Ok (States (Says b g) n)
reached b g (Err r) = Err r

-- where it goes, whatever it does
abbrev pub led_of : Body → Result Led Refusal → Result Stated Refusal
led_of b (Ok l) = Ok (States (Says b (goto_of l.goto)) l.lacking)
led_of b (Err r) = Err r
