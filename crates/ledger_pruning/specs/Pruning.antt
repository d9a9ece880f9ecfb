-- Which commits may be removed where a checkpoint stands (own). Commits are numbered from 0; a checkpoint stands behind so many.
use Rattle.std.specs.Prelude.{ℕ, suc, ◌-◌, nat_le, List, [], ◌∷◌, if◌then◌else◌}

-- THE FIRST THAT STAYS: so many of the last stay, and all that stand behind the checkpoint
abbrev pub first_kept : (commits checkpoint keep : ℕ) → ℕ
first_kept commits checkpoint keep = if nat_le checkpoint (commits - keep) then checkpoint else commits - keep

-- the first of a time or later, by the times of all; so many, if all are earlier
abbrev pub first_since : (since : ℕ) → List ℕ → ℕ
first_since since [] = 0
first_since since (time ∷ times) = if nat_le since time then 0 else suc (first_since since times)
