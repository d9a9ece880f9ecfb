-- A line that is cut into statements as its characters come.
use Rattle.std.specs.Prelude.{ℕ, List, [], ◌∷◌, ◌++◌, filter, Option, None, if◌then◌else◌}
use Rattle.sno_cards.specs.declared.cutting.Cutting.{Cutting}
use Rattle.sno_cards.specs.Texts.{Placed}
use Rattle.sno_cards.specs.Statements.{literal_after, ends_statement, is_statement}

-- the statements so far, the piece that has begun, and the quote of a literal that is open in it
pub record Cut : Type 0 where
  pub statements : List (List Placed)
  pub piece : List Placed
  pub literal : Option ℕ

abbrev pub cut_of : Cutting → Cut
cut_of c = record { statements = c.statements.items; piece = c.piece; literal = c.literal }

-- a line begins
abbrev pub begun : List (List Placed) → Cut
begun statements = record { statements = statements; piece = []; literal = None }

-- the piece is whole
abbrev pub ended : Cut → List (List Placed)
ended c = c.statements ++ filter is_statement (c.piece ∷ [])

-- one character more
abbrev pub step : Cut → Placed → Cut
step c p =
    if ends_statement c.literal p.code then record { statements = ended c; piece = []; literal = literal_after c.literal p.code }
    else record { statements = c.statements; piece = c.piece ++ p ∷ []; literal = literal_after c.literal p.code }

abbrev pub fed : Cut → List Placed → Cut
fed c [] = c
fed c (p ∷ ps) = fed (step c p) ps
