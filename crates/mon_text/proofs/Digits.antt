-- The number that digits go on to, after a number so far.
use Rattle.std.specs.{Prelude.{ℕ, ◌+◌, ◌-◌, ◌*◌, List}, List.{fold}}

abbrev pub read_on : ℕ → List ℕ → ℕ
read_on so_far text = fold (λ n c. 10 * n + (c - 48)) so_far text
