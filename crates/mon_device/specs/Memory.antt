-- What a call of a device over memory does (own): which call fails, and how many bytes the others move.
use Rattle.std.specs.Prelude.{ℕ, ◌-◌, ◌==◌, Bool, false, min, Option, Some, None}

-- the next call is the one that fails
abbrev pub fails_next : Option ℕ → Bool
fails_next None = false
fails_next (Some calls) = calls == 0

-- the calls before the one that fails, after one more call: once it has come, each further one fails too
abbrev pub counted_down : Option ℕ → Option ℕ
counted_down None = None
counted_down (Some calls) = Some (calls - 1)

-- as many bytes as there are, as there is room for, and as a call moves at the most
abbrev pub moved : ℕ → ℕ → ℕ → ℕ
moved there room most = min (min there room) most
