-- What changes one state of a site's data sets into another, as records, and the text of these (own). They have no time and no number: both
-- stand in the commit's own record. The number of an audit says how many jobs ran so far.
use Rattle.std.specs.Prelude.{ℕ, ◌==◌, ◌&&◌, nat_eq, Bool, List, [], ◌∷◌, ◌++◌, length, map, drop, if◌then◌else◌}
use Rattle.std.specs.List.{common_prefix_len}
use Rattle.std.specs.Cmp.Lexicographic.{pointwise}
use Rattle.acl_text.specs.Printing.{short_form}
use Rattle.mon_catalogue.specs.declared.data_set.DataSet.{DataSet}
use Rattle.mon_catalogue.specs.Modes.{mode_word}
use Rattle.mon_catalogue.specs.Sets.{Sets}
use Rattle.mon_catalogue.specs.Text.{set_line, text_of}
use Rattle.ledger_text.specs.Text.{commit_text}
use Rattle.ledger_text.specs.Records.{Said, Audit, Keep, Set, Gone, Tables, fields_of}

-- ---- one data set

-- what stands before the records of a data set in a catalogue's text
abbrev pub head_text : List ℕ × DataSet → List ℕ
head_text named = text_of (set_line named.0 named.1 ∷ short_form named.1.acl ∷ [])

-- the whole of it
abbrev pub whole : List ℕ × DataSet → Said
whole named = Set 0 named.0 (head_text named) (text_of named.1.records)

-- none has this name any more
abbrev pub gone : List ℕ × DataSet → Said
gone named = Gone 0 named.0

-- how many of the first records are the same
abbrev pub shared : List (List ℕ) → List (List ℕ) → ℕ
shared records others = common_prefix_len (pointwise nat_eq) records others

-- nothing, if that are all; else the records behind these
abbrev pub kept : List ℕ → List (List ℕ) → List (List ℕ) → ℕ → List Said
kept name was is n = if n == length was && n == length is then [] else Keep 0 name n (text_of (drop n is)) ∷ []

-- but for the records it is the same
abbrev pub same_head : DataSet → DataSet → Bool
same_head was is =
    pointwise nat_eq was.owner is.owner && pointwise nat_eq was.group is.group && pointwise nat_eq (mode_word was.mode) (mode_word is.mode)
    && pointwise nat_eq (short_form was.acl) (short_form is.acl)

-- a data set of this name was so, and is so
abbrev pub changed : List ℕ → DataSet → DataSet → List Said
changed name was is = if same_head was is then kept name was.records is.records (shared was.records is.records) else whole (name, is) ∷ []

-- ---- all of them

-- A data set that is none of those that are met is gone; one that comes behind all these is new, and stands last.
abbrev pub changes_between : Sets → Sets → List Said
changes_between [] after = map whole after
changes_between (old ∷ before) [] = gone old ∷ changes_between before []
changes_between (old ∷ before) (new ∷ after) =
    if pointwise nat_eq old.0 new.0 then changed old.0 old.1 new.1 ++ changes_between before after
    else gone old ∷ changes_between before (new ∷ after)

-- a text ran, behind which so many jobs have run, and told this
abbrev pub run_changes : ℕ → List ℕ → Sets → Sets → List Said
run_changes jobs audit before after = Audit jobs audit ∷ changes_between before after

-- the operator's tables are these
abbrev pub tables_changes : List ℕ → List ℕ → List ℕ → List Said
tables_changes accounts users limits = Tables (commit_text (accounts ∷ users ∷ limits ∷ [])) ∷ []

-- ---- the text

abbrev pub said_text : Said → List ℕ
said_text said = commit_text (fields_of 0 said)

abbrev pub change_text : List Said → List ℕ
change_text changes = commit_text (map said_text changes)
