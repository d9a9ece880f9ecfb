-- What the entries of a kind say of a request, and the kinds that are found by halving.
use Rattle.std.specs.Prelude.{ℕ, Bool, true, false, ◌||◌, List, ◌∷◌, min}
use Rattle.std.specs.Ordering.{nat_cmp, is_eq}
use Rattle.std.specs.List.{list_any, position_or_len}
use Rattle.std.specs.Cmp.Lexicographic.{slice_cmp}
use Rattle.mon_acl.specs.declared.entries.Perms.{Perms}
use Rattle.mon_acl.specs.declared.entries.Tag.TheVariants.{Group}
use Rattle.mon_acl.specs.declared.entries.Entry.{Entry}
use Rattle.mon_acl.specs.Entries.{rank, sort_key}
use Rattle.mon_access.specs.declared.account.Account.{Account}
use Rattle.mon_access.specs.declared.finding.Found.{Found}
use Rattle.mon_access.specs.declared.finding.Found.TheVariants.{Nobody, Lacking, Holding}
use Rattle.mon_access.specs.Matches.{some_holds}

abbrev pub found_of : Bool → Bool → ℕ → Found
found_of true some first = Holding
found_of false true first = Lacking first
found_of false false first = Nobody

-- whether an entry of the kind holds the request, else where the first of the kind stands
abbrev pub found : (Entry → Bool) → List Entry → Perms → Found
found kind entries request = found_of (some_holds kind entries request) (list_any kind entries) (position_or_len kind entries)

-- some one entry of the kind holds the request
abbrev pub is_holding : Found → Bool
is_holding Holding = true
is_holding _ = false

-- what the entry at an index says, where it is the only one
abbrev pub judged : Bool → ℕ → Found
judged true index = Holding
judged false index = Lacking index

-- what the entries of two kinds say together
abbrev pub joined : Found → Found → Found
joined Holding g = Holding
joined f Holding = Holding
joined Nobody g = g
joined f Nobody = f
joined (Lacking i) (Lacking j) = Lacking (min i j)

-- the entry has this sort key
abbrev pub stands_at : List ℕ → Entry → Bool
stands_at key e = is_eq (slice_cmp nat_cmp (sort_key e) key)

-- an entry for a group of these names
abbrev pub is_for_one_of : List (List ℕ) → Entry → Bool
is_for_one_of names e = list_any (λ name. stands_at (rank Group ∷ name) e) names

-- an entry for the account's primary group, or for one of these
abbrev pub is_so_far : Account → List (List ℕ) → Entry → Bool
is_so_far account names e = stands_at (rank Group ∷ account.primary) e || is_for_one_of names e
