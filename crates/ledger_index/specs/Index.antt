-- The index of a checkpoint as text (own): a text of fields, the first of them what it is a checkpoint of, then one for each data set.
-- Each field is itself a text of fields.
use Rattle.std.specs.Prelude.{ℕ, List, [], ◌∷◌, map, decimal, Option, Some, None, option_map}
use Rattle.std.specs.Option.{option_and_then}
use Rattle.ledger_text.specs.Text.{commit_text, commit_of}
use Rattle.ledger_text.specs.Records.{count_of}
use Rattle.ledger_index.specs.declared.index.Span.{Span}
use Rattle.ledger_index.specs.declared.index.Entry.{Entry as CodeEntry}
use Rattle.ledger_index.specs.declared.index.Head.{Head as CodeHead}
use Rattle.ledger_index.specs.declared.index.Index.{Index as CodeIndex}

-- ---- what it says

-- of a data set: where its records stand among the lines of all data sets, and the digest of their lines
pub record Entry : Type 0 where
  pub name : List ℕ
  pub owner : List ℕ
  pub group : List ℕ
  pub mode : List ℕ
  pub list : List ℕ
  pub span : Span
  pub digest : List ℕ

-- of the ledger: behind so many commits, of which the last has this digest, so many jobs ran; and texts of what else was known
pub record Head : Type 0 where
  pub count : ℕ
  pub last : List ℕ
  pub jobs : ℕ
  pub course : List ℕ
  pub tables : List ℕ

pub record Index : Type 0 where
  pub head : Head
  pub entries : List Entry

-- as the code has it
abbrev pub seen_entry : CodeEntry → Entry
seen_entry e = record {
  name = e.name.now;
  owner = e.owner.now;
  group = e.group.now;
  mode = e.mode.now;
  list = e.list.now;
  span = e.span;
  digest = e.digest.now;
}

abbrev pub seen_head : CodeHead → Head
seen_head h = record { count = h.count; last = h.last.now; jobs = h.jobs; course = h.course.now; tables = h.tables.now }

abbrev pub seen_entries : List CodeEntry → List Entry
seen_entries entries = map seen_entry entries

abbrev pub seen_index : CodeIndex → Index
seen_index index = record { head = seen_head index.head; entries = seen_entries index.entries.items }

-- ---- printing

abbrev pub entry_fields : Entry → List (List ℕ)
entry_fields e = e.name ∷ e.owner ∷ e.group ∷ e.mode ∷ e.list ∷ decimal e.span.count ∷ decimal e.span.place ∷ decimal e.span.size ∷ e.digest ∷ []

abbrev pub entry_text : Entry → List ℕ
entry_text e = commit_text (entry_fields e)

abbrev pub head_fields : Head → List (List ℕ)
head_fields h = decimal h.count ∷ h.last ∷ decimal h.jobs ∷ h.course ∷ h.tables ∷ []

abbrev pub head_text : Head → List ℕ
head_text h = commit_text (head_fields h)

abbrev pub index_fields : Index → List (List ℕ)
index_fields index = head_text index.head ∷ map entry_text index.entries

abbrev pub index_text : Index → List ℕ
index_text index = commit_text (index_fields index)

-- ---- reading

abbrev pub span_of : ℕ → ℕ → ℕ → Span
span_of count place size = record { count = count; place = place; size = size }

abbrev pub span_in : List ℕ → List ℕ → List ℕ → Option Span
span_in count place size =
    option_and_then (λ c. option_and_then (λ p. option_map (span_of c p) (count_of size)) (count_of place)) (count_of count)

abbrev pub entry_with : List ℕ → List ℕ → List ℕ → List ℕ → List ℕ → List ℕ → Span → Entry
entry_with name owner group mode list digest span =
    record { name = name; owner = owner; group = group; mode = mode; list = list; span = span; digest = digest }

abbrev pub entry_in : List (List ℕ) → Option Entry
entry_in (name ∷ owner ∷ group ∷ mode ∷ list ∷ count ∷ place ∷ size ∷ digest ∷ []) =
    option_map (entry_with name owner group mode list digest) (span_in count place size)
entry_in fields = None

abbrev pub entry_of : List ℕ → Option Entry
entry_of field = option_and_then entry_in (commit_of field)

-- all of them, or none
abbrev pub and_entries : Option (List Entry) → Entry → Option (List Entry)
and_entries more e = option_map (λ es. e ∷ es) more

abbrev pub entries_of : List (List ℕ) → Option (List Entry)
entries_of [] = Some []
entries_of (field ∷ fields) = option_and_then (and_entries (entries_of fields)) (entry_of field)

abbrev pub head_with : List ℕ → List ℕ → List ℕ → ℕ → ℕ → Head
head_with last course tables count jobs = record { count = count; last = last; jobs = jobs; course = course; tables = tables }

abbrev pub head_in : List (List ℕ) → Option Head
head_in (count ∷ last ∷ jobs ∷ course ∷ tables ∷ []) =
    option_and_then (λ c. option_map (head_with last course tables c) (count_of jobs)) (count_of count)
head_in fields = None

abbrev pub head_of : List ℕ → Option Head
head_of field = option_and_then head_in (commit_of field)

abbrev pub index_with : Head → List Entry → Index
index_with head entries = record { head = head; entries = entries }

abbrev pub with_entries : Option (List Entry) → Head → Option Index
with_entries entries head = option_map (index_with head) entries

abbrev pub index_in : List (List ℕ) → Option Index
index_in [] = None
index_in (head ∷ fields) = option_and_then (with_entries (entries_of fields)) (head_of head)

-- the index that a text is of, if it is one
abbrev pub index_of : List ℕ → Option Index
index_of text = option_and_then index_in (commit_of text)
