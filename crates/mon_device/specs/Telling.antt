-- What is told of the bytes of a stream of std (own).
use Rattle.std.specs.Prelude.{Bool, true, false, not, ◌||◌, IsTrue, is_some, ℕ, List, Option, None}

-- a stream's bytes where they are to be told, else nothing
abbrev pub where_told : Bool → Option (List ℕ) → Option (List ℕ)
where_told false bytes = None
where_told true bytes = bytes

-- where a stream's bytes are to be told, the stream tells them
abbrev pub MayTell : Bool → Option (List ℕ) → Type 0
MayTell tells bytes = IsTrue (not tells || is_some bytes)
