-- How a list is built while its text is read: the entries so far stand in canonical order.
use Rattle.std.specs.Prelude.{◌≡◌, ℕ, ◌+◌, ◌∷◌, List, [], length, Option, Some, None, Result, Ok, Bool}
use Rattle.std.specs.List.{slice_split}
use Rattle.mon_acl.specs.declared.entries.Entry.{Entry}
use Rattle.acl_text.specs.declared.pieces.Form.{Form}
use Rattle.acl_text.specs.declared.pieces.Form.TheVariants.{Short, Long}
use Rattle.mon_acl.specs.declared.refusals.AclError.{AclError}
use Rattle.acl_text.specs.Texts.{pieces, long_pieces}
use Rattle.acl_text.specs.Refusals.{◌>>=◌, entry_of, joined, entries_of}
use Rattle.acl_text.specs.Reading.{put_in, arranged}

-- the parts of what stands behind a separator, where there is one
abbrev pub parts_behind : (ℕ → Bool) → Option (List ℕ) → List (List ℕ)
parts_behind is_separator (Some rest) = slice_split is_separator rest
parts_behind is_separator None = []

-- the texts of the entries, by the form of the text
abbrev pub pieces_in : Form → List ℕ → List (List ℕ)
pieces_in Short text = pieces text
pieces_in Long text = long_pieces text

-- those of what is left of a text, where anything is
abbrev pub pieces_left : Form → Option (List ℕ) → List (List ℕ)
pieces_left form (Some rest) = pieces_in form rest
pieces_left form None = []

-- what stands between entries
abbrev pub separator_of : Form → ℕ
separator_of Short = 44
separator_of Long = 10

-- what is left of a text with the separator before it, where anything is
abbrev pub separated : ℕ → Option (List ℕ) → List ℕ
separated separator (Some rest) = separator ∷ rest
separated separator None = []

-- the next piece of what is left, the n-th, has this entry, or is refused so, and stands before what is left then
abbrev pub IsNext : Form → ℕ → Option (List ℕ) → Option (List ℕ) → Result Entry AclError → Type 0
IsNext form n rest after entry = (piece : List ℕ) × (pieces_left form rest ≡ piece ∷ pieces_left form after) × (entry ≡ entry_of n piece)

-- how many there may still be
abbrev pub left : Option (List ℕ) → ℕ
left (Some rest) = length rest + 1
left None = 0

-- the entries so far with one more
abbrev pub added : ℕ → Entry → List Entry → Result (List Entry) AclError
added n e es = joined n e es >>= λ _. Ok (put_in e es)

-- the entries so far with that of the n-th piece, where it has one
abbrev pub entry_added : ℕ → Result Entry AclError → List Entry → Result (List Entry) AclError
entry_added n entry es = entry >>= λ e. added n e es

-- the same, by the piece's text
abbrev pub piece_added : ℕ → List ℕ → List Entry → Result (List Entry) AclError
piece_added n piece es = entry_added n (entry_of n piece) es

-- the entries of these texts
abbrev pub canonical_entries_of : List (List ℕ) → Result (List Entry) AclError
canonical_entries_of texts = entries_of texts >>= λ es. Ok (arranged es)
