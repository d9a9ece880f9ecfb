-- Which data sets are taken of a checkpoint (own): those of some entries of its index.
use Rattle.std.specs.Prelude.{ℕ, nat_eq, Bool, List, filter}
use Rattle.std.specs.List.{list_any}
use Rattle.std.specs.Cmp.Lexicographic.{pointwise}
use Rattle.mon_catalogue.specs.Sets.{Sets}
use Rattle.ledger_index.specs.Index.{Entry}

-- the entries, and the data sets, whose names pass
abbrev pub picked : (List ℕ → Bool) → List Entry → List Entry
picked p entries = filter (λ e. p e.name) entries

abbrev pub of_names : (List ℕ → Bool) → Sets → Sets
of_names p sets = filter (λ named. p named.0) sets

-- one of these
abbrev pub is_among : List (List ℕ) → List ℕ → Bool
is_among names name = list_any (λ other. pointwise nat_eq other name) names
