-- Entries chained by their buckets, so that a search looks at those of one bucket alone. A place is an index and one more; 0 is
-- no place.
use Rattle.std.specs.Prelude.{◌≡◌, ◌≢◌, ℕ, ◌+◌, ◌≤◌, ◌<◌, List, slice_index}

-- a place is that of the last of the first n entries that are in a bucket, or none where none of them is
pub record IsLast (buckets : List ℕ) (bucket n place : ℕ) : Type 0 where
  pub within : place ≤ n
  pub there : (k : ℕ) → place ≡ k + 1 → slice_index buckets k ≡ bucket
  pub none_behind : (k : ℕ) → place ≤ k → k < n → slice_index buckets k ≢ bucket

-- of the first n entries: the last place of each bucket, and for each entry the place before it in its bucket
pub record IsChained (buckets : List ℕ) (n : ℕ) (first next : List ℕ) : Type 0 where
  pub heads : (bucket : ℕ) → bucket < 128 → IsLast buckets bucket n (slice_index first bucket)
  pub links : (i : ℕ) → i < n → IsLast buckets (slice_index buckets i) i (slice_index next i)
