-- What is kept of a call (the SNOBOL4 book, chapter 4).
use Rattle.std.specs.Prelude.{ℕ, List}
use Rattle.sno_value.specs.declared.value.Value.{Value}

-- a call: the function's name, the values of its variables before, and the statement that called
pub record CallFrame : Type 0 where
  pub name : List ℕ
  pub saved : List (List ℕ × Value)
  pub statement : ℕ
