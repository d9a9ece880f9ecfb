use Rattle.std.proofs.Common.{◌≡◌, ℕ, ◌≤◌, List, [], ◌∷◌, map, length, None, refl, arith}
use Rattle.ledger_tables.specs.Limits.{said_on}
use Rattle.ledger_tables.proofs.limits.said_on.Goals as goal

too_many : {X : Type 0} (f : X → List ℕ) (ws : List X) → 3 ≤ length ws → None ≡ said_on (map f ws)
too_many f [] many = absurd (omega (arith, many))
too_many f (a ∷ []) many = absurd (omega (arith, many))
too_many f (a ∷ b ∷ []) many = absurd (omega (arith, many))
too_many f (a ∷ b ∷ c ∷ ws) many = refl

pub returns-in_default-2 : goal.returns-in_default-2
returns-in_default-2 c = too_many (λ word. word.now) c.args.words.now c.in_default.len_at_least
