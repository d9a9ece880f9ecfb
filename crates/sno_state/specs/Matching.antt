-- A match within a statement: what it looks up and assigns meanwhile is done to the state of the job (own).
use Rattle.std.specs.Prelude.{ℕ, ◌^◌, pos, nat_lt, List, not, if◌then◌else◌}
use Rattle.std.specs.Fmt.{signed_decimal}
use Rattle.std.specs.Option.{option_map_or}
use Rattle.std.specs.Ordering.{int_eq}
use Rattle.interaction.specs.Interactions.{Returns, ◌>>=◌, interpreted}
use Rattle.interaction.specs.Asking.{Asking}
use Rattle.sno_pattern.specs.declared.host.Looked.{Looked}
use Rattle.sno_pattern.specs.declared.host.Looked.TheVariants as looked
use Rattle.sno_pattern.specs.declared.host.Taken.{Taken}
use Rattle.sno_pattern.specs.declared.host.Taken.TheVariants.{Part, Cursor}
use Rattle.sno_pattern.specs.declared.ending.MatchEnd.{MatchEnd}
use Rattle.sno_pattern.specs.declared.ending.MatchEnd.TheVariants as end
use Rattle.sno_pattern.specs.Looks.{Look, LookUp, Assign, Told, Found, Given, Refused, Faulty}
use Rattle.sno_pattern.specs.Steps.{match_of}
use Rattle.sno_text.specs.declared.fault.Fault.TheVariants.{WrongType}
use Rattle.sno_value.specs.declared.value.Value.{Value}
use Rattle.sno_value.specs.declared.value.Value.TheVariants.{Text, Integer, Pattern, Unevaluated, Table}
use Rattle.sno_value.specs.Values.{pattern_of}
use Rattle.sno_semantics.specs.declared.got.Halt.TheVariants.{Fault}
use Rattle.sno_semantics.specs.declared.got.Evaluated.{Evaluated}
use Rattle.sno_semantics.specs.declared.got.Evaluated.TheVariants.{Gives, Halts}
use Rattle.sno_store.specs.declared.store.Store.{Store as State}
use Rattle.sno_state.specs.Using.{used, assigned}

-- what a value stands for in a pattern; a table stands for none
abbrev pub looked_at : Value → Told
looked_at (Text t) = Found (looked.Text t)
looked_at (Integer i) = Found (looked.Text (signed_decimal i))
looked_at (Pattern p) = Found (looked.Pattern p)
looked_at (Unevaluated name) = Found (looked.Defer name)
looked_at (Table n) = Faulty WrongType

-- what a variable is assigned: a part of the text, or the number of characters before the cursor; no text has as many as 2 ^ 63
abbrev pub value_taken : Taken → Value
value_taken (Part text) = Text text
value_taken (Cursor at) = Integer (if nat_lt at (2 ^ 63) then pos at else pos 0)

-- neither using a variable nor assigning to one begins a statement or a match, so that only a fault ends the job in it
abbrev pub told_by : (Value → Told) → Evaluated → Told
told_by tells (Gives v) = tells v
told_by tells (Halts (Fault f)) = Faulty f
told_by tells _ = Refused

-- a variable that is looked up is used, and one that is assigned to is written as any other
abbrev pub looking : Look → State → Asking (Told × State)
looking (LookUp variable) s = used variable s >>= λ got. Returns (told_by looked_at got.0, got.1)
looking (Assign variable taken) s = assigned variable (value_taken taken) s >>= λ got. Returns (told_by (λ _. Given) got.0, got.1)

-- a text is matched by what a value stands for as a pattern, within so many steps; where &ANCHOR is not 0, from its first character
abbrev pub matched : ℕ → List ℕ → Value → State → Asking (MatchEnd × State)
matched steps text v s =
    option_map_or (λ p. interpreted looking (match_of text p (not (int_eq s.keywords.anchor (pos 0))) steps) s) (pattern_of v) (Returns (end.Fault WrongType, s))
