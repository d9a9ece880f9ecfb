-- What the cards of a program hold (own).
use Rattle.std.specs.Prelude.{ℕ, List}
use Rattle.sno_cards.specs.Texts.{Placed}

-- the texts of the statements in order, what stands on the END line after END, and the index of the first data line
pub record ProgramText : Type 0 where
  pub statements : List (List Placed)
  pub end_rest : List Placed
  pub data_from : ℕ
