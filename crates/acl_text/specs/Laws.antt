-- What holds of texts and lists whatever they are: each is the contract of a function in `laws`.
use Rattle.std.specs.Prelude.{◌≡◌, ℕ, ◌⊎◌, false, List, [], ◌∷◌, ◌++◌, All, flat_map, IsTrue, Option, None, Ok, ◌↔◌, IsPermutation}
use Rattle.mon_acl.specs.declared.entries.Perms.{Perms}
use Rattle.mon_acl.specs.declared.entries.Entry.{Entry}
use Rattle.mon_acl.specs.Entries.{IsValidAcl, IsCanonical, IsAcl}
use Rattle.acl_text.specs.Texts.{is_gap, IsShortText, IsLongText}
use Rattle.acl_text.specs.Refusals.{acl_refusal, long_refusal}
use Rattle.acl_text.specs.Reading.{read_short, read_long}
use Rattle.acl_text.specs.Printing.{short_form, long_line, long_form}
use Rattle.mon_text.specs.Characters.{is_line_feed}

-- reading gives the list that the text spells, and every list that a text spells is read
abbrev pub ReadingSpells : Type 0
ReadingSpells = (text : List ℕ) (es : List Entry) → IsShortText text es ↔ (read_short text ≡ Ok es)

-- a text spells one list at the most
abbrev pub OneList : Type 0
OneList = (text : List ℕ) (es fs : List Entry) → IsShortText text es → IsShortText text fs → es ≡ fs

-- a text is refused exactly where it spells no list
abbrev pub RefusedOrSpells : Type 0
RefusedOrSpells = (text : List ℕ) → (acl_refusal text ≡ None) ↔ ((es : List Entry) × IsShortText text es)

-- a printed list is read back
abbrev pub ReadsBack : Type 0
ReadsBack = (es : List Entry) → IsAcl es → read_short (short_form es) ≡ Ok es

-- two lists with one short form are one
abbrev pub OneForm : Type 0
OneForm = (es fs : List Entry) → IsAcl es → IsAcl fs → short_form es ≡ short_form fs → es ≡ fs

-- a valid list has exactly one canonical order
abbrev pub OneOrder : Type 0
OneOrder =
    (es : List Entry) → IsValidAcl es →
    (cs : List Entry) × IsPermutation es cs × IsAcl cs × ((ds : List Entry) → IsPermutation es ds → IsCanonical ds → ds ≡ cs)

-- the texts of a list's entries, in any order, spell the list
abbrev pub AnyOrder : Type 0
AnyOrder = (es ds : List Entry) → IsAcl es → IsPermutation es ds → IsShortText (short_form ds) es

-- reading a long text gives the list that it spells, and every list that a long text spells is read
abbrev pub LongReadingSpells : Type 0
LongReadingSpells = (text : List ℕ) (es : List Entry) → IsLongText text es ↔ (read_long text ≡ Ok es)

-- a long text spells one list at the most
abbrev pub OneLongList : Type 0
OneLongList = (text : List ℕ) (es fs : List Entry) → IsLongText text es → IsLongText text fs → es ≡ fs

-- a long text is refused exactly where it spells no list
abbrev pub LongRefusedOrSpells : Type 0
LongRefusedOrSpells = (text : List ℕ) → (long_refusal text ≡ None) ↔ ((es : List Entry) × IsLongText text es)

-- a printed list is read back, effective comments and all
abbrev pub LongReadsBack : Type 0
LongReadsBack = (es : List Entry) → IsAcl es → read_long (long_form es) ≡ Ok es

-- two lists with one long form are one
abbrev pub OneLongForm : Type 0
OneLongForm = (es fs : List Entry) → IsAcl es → IsAcl fs → long_form es ≡ long_form fs → es ≡ fs

-- the lines of a list's entries, in any order and under any mask, spell the list
abbrev pub AnyLineOrder : Type 0
AnyLineOrder =
    (mask : Option Perms) (es ds : List Entry) → IsAcl es → IsPermutation es ds → IsLongText (flat_map (long_line mask) ds) es

-- blanks, `#` and anything within the line
abbrev pub IsComment : List ℕ → Type 0
IsComment text =
    (blanks : List ℕ) × (words : List ℕ) × All (λ c. IsTrue (is_gap c)) blanks × All (λ c. is_line_feed c ≡ false) words ×
    (text ≡ blanks ++ 35 ∷ words)

-- what may stand behind a line: nothing, or LF and further lines
abbrev pub BeginsLine : List ℕ → Type 0
BeginsLine rest = (rest ≡ []) ⊎ ((lines : List ℕ) × (rest ≡ 10 ∷ lines))

-- a comment at the end of any line, such as an effective comment, changes nothing of what a long text says
abbrev pub CommentsSayNothing : Type 0
CommentsSayNothing =
    (before comment rest : List ℕ) → IsComment comment → BeginsLine rest →
    read_long (before ++ comment ++ rest) ≡ read_long (before ++ rest)
