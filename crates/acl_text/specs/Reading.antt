-- Reading a text: the permission list that it spells, in canonical order, or its first refusal.
use Rattle.std.specs.Prelude.{ℕ, ◌≤◌, if◌then◌else◌, List, [], ◌∷◌, length, take, Result, Ok, Err, IsOk}
use Rattle.std.specs.Ordering.{is_lt}
use Rattle.mon_acl.specs.declared.entries.Entry.{Entry}
use Rattle.mon_acl.specs.declared.refusals.AclError.{AclError}
use Rattle.mon_acl.specs.Entries.{compared}
use Rattle.acl_text.specs.Texts.{pieces, long_pieces}
use Rattle.acl_text.specs.Refusals.{◌>>=◌, entries_of, lacking}
use Rattle.std.specs.Option.{option_map_or}

-- an entry put behind those that stand before it in canonical order
abbrev pub put_in : Entry → List Entry → List Entry
put_in e [] = e ∷ []
put_in e (x ∷ xs) = if is_lt (compared x e) then x ∷ put_in e xs else e ∷ x ∷ xs

-- the entries in canonical order
abbrev pub arranged : List Entry → List Entry
arranged [] = []
arranged (e ∷ es) = put_in e (arranged es)

-- the list that the texts of entries spell, or their first refusal, or what the list lacks
abbrev pub read_pieces : List (List ℕ) → Result (List Entry) AclError
read_pieces texts = entries_of texts >>= λ es. option_map_or Err (lacking es) (Ok (arranged es))

-- the list that a short text spells, or its first refusal
abbrev pub read_short : List ℕ → Result (List Entry) AclError
read_short text = read_pieces (pieces text)

-- the list that a long text spells, or its first refusal
abbrev pub read_long : List ℕ → Result (List Entry) AclError
read_long text = read_pieces (long_pieces text)

-- reading these texts may take memory: there are five, and none of the first five is refused
abbrev pub MayGrow : List (List ℕ) → Type 0
MayGrow texts = (5 ≤ length texts) × IsOk (entries_of (take 5 texts))
