-- Statements that begin, and calls of functions that the program defined (the SNOBOL4 book, chapter 4; the limits, and in which
-- order they are tried, are own).
use Rattle.std.specs.Prelude.{ℕ, nat_lt, List, length, Option, Some, None, if◌then◌else◌}
use Rattle.std.specs.Option.{option_map_or}
use Rattle.sno_text.specs.declared.fault.Fault.TheVariants.{Depth}
use Rattle.sno_value.specs.declared.value.Value.{Value}
use Rattle.sno_semantics.specs.Keeping.{Entered, Undefined, Enters, Refused}
use Rattle.sno_store.specs.declared.store.Store.{Store as State}
use Rattle.sno_store.specs.States.{function_of, may_begin, with_statement}
use Rattle.sno_store.specs.Calls.{call_entered}

-- the statement of this number begins, if one more may in a job that may begin so many
abbrev pub begun : ℕ → ℕ → State → Option State
begun limit number s = if may_begin limit s then Some (with_statement number s) else None

-- the function of this name is called with these values: at most 200 calls are in one another, which is tried before the label
-- of the entry is sought
abbrev pub entered : List ℕ → List Value → State → Entered State
entered f vs s =
    option_map_or (λ d. if nat_lt (length s.levels) 200 then Enters d.entry (call_entered d vs s) else Refused Depth) (function_of f s) Undefined
