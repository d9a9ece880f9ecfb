-- A card that lists the records of a data set for an account, with one blank before each.
use Rattle.std.specs.Prelude.{◌≡◌, ℕ, List, ◌∷◌, ◌++◌, codes}

abbrev pub Lists : List ℕ → List ℕ → List ℕ → Type 0
Lists text account name = text ≡ codes "$LIST" ++ 32 ∷ (account ++ 32 ∷ name)
