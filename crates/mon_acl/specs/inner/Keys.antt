-- What is kept of each entry beside it, for the search.
use Rattle.std.specs.Prelude.{◌≡◌, ◌≢◌, ℕ, ◌+◌, ◌*◌, ◌%◌, ◌/◌, ◌<◌, List, length, map, slice_index, Option, MatchOption}
use Rattle.mon_text.specs.Names.{head_of}
use Rattle.mon_acl.specs.declared.entries.Tag.{Tag}
use Rattle.mon_acl.specs.declared.entries.Entry.{Entry}
use Rattle.mon_acl.specs.Entries.{rank, qualifier}

-- a type and a name as a number: the name's length and its first seven characters, and in the last three bits the type
abbrev pub key_of : Tag → List ℕ → ℕ
key_of t name = head_of name * 8 + rank t

-- the key of an entry
abbrev pub key_in : Entry → ℕ
key_in e = key_of e.tag (qualifier e)

abbrev pub keys_of : List Entry → List ℕ
keys_of es = map key_in es

-- the bucket of a key: seven bits in which each bit of it counts, the highest of a product (own, after Fibonacci hashing)
abbrev pub bucket_of : ℕ → ℕ
bucket_of key = key * 11400714819323198485 % 18446744073709551616 / 144115188075855872

-- where a key stands among keys, if it does
abbrev pub IsIndexOfKey : ℕ → List ℕ → Option ℕ → Type 0
IsIndexOfKey key keys index = MatchOption index ((k : ℕ) → k < length keys → slice_index keys k ≢ key)
    (λ i. (i < length keys) × (slice_index keys i ≡ key))
