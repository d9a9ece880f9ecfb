-- What a split tells (own): the part of each text, by its number from 0, and the part of each name.
use Rattle.std.specs.Prelude.{ℕ, List}

pub record Told : Type 0 where
  pub texts : List ℕ
  pub names : List (List ℕ × ℕ)
