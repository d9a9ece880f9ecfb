-- From which checkpoint the state behind so many commits can be told (own): the last that stands before these, and behind which all of
-- these stand.
use Rattle.std.specs.Prelude.{ℕ, ◌&&◌, nat_le, nat_lt, Bool, List, [], ◌∷◌, filter, Option, Some, None, if◌then◌else◌}

-- where the commits from a number on stand
abbrev pub serves : (first at checkpoint : ℕ) → Bool
serves first at checkpoint = nat_le first checkpoint && nat_le checkpoint at

abbrev pub greater : Option ℕ → ℕ → Option ℕ
greater None n = Some n
greater (Some m) n = if nat_lt n m then Some m else Some n

-- the greatest of numbers, if there are any
abbrev pub greatest : Option ℕ → List ℕ → Option ℕ
greatest best [] = best
greatest best (n ∷ ns) = greatest (greater best n) ns

abbrev pub start_for : (first at : ℕ) → List ℕ → Option ℕ
start_for first at checkpoints = greatest None (filter (λ c. serves first at c) checkpoints)
