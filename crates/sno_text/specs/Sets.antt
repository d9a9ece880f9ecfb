-- Sets of characters, and how a text begins (SNOBOL4 book, chapter 2).
use Rattle.std.specs.Prelude.{ℕ, nat_eq, Bool, List}
use Rattle.std.specs.List.{list_any}

abbrev pub is_one_of : List ℕ → ℕ → Bool
is_one_of characters x = list_any (λ y. nat_eq y x) characters
