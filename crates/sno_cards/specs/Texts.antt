-- Texts whose characters know where they stand (own).
use Rattle.std.specs.Prelude.{ℕ, List, map}
use Rattle.sno_cards.specs.declared.refusal.Place.{Place}

-- a character and where it stands
pub record Placed : Type 0 where
  pub code : ℕ
  pub place : Place

-- the characters alone
abbrev pub text_of : List Placed → List ℕ
text_of cs = map (λ c. c.code) cs
