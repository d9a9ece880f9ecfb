-- What holds of whatever is asked of a service.
use Rattle.std.specs.Prelude.{◌≡◌, List, ◌++◌}
use Rattle.interaction.specs.Exchanges.{replies}
use Rattle.interaction.specs.Asking.{Asking, Exchange, IsTrace, IsTracePrefix}

-- two runs whose answers begin alike ask the same and end alike
abbrev pub RunsAlike : Type 0 → Type 0
RunsAlike A = (t : Asking A) (x y more others : List Exchange) (a b : A)
    → IsTrace t x a → IsTrace t y b → replies (x ++ more) ≡ replies (y ++ others)
    → (x ≡ y) × (a ≡ b)

-- what has begun goes on to some end
abbrev pub BegunGoesOn : Type 0 → Type 0
BegunGoesOn A = (t : Asking A) (x : List Exchange) → IsTracePrefix t x
    → (y : List Exchange) × (a : A) × IsTrace t (x ++ y) a
