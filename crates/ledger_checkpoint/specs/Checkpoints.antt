-- A CHECKPOINT (own): a site's state behind so many commits, as two texts. The one has a piece for each data set, the change that puts it
-- whole, one behind the other; the other, the index, says which data sets there are, and of each where its piece stands.
use Rattle.std.specs.Prelude.{ℕ, ◌+◌, List, [], ◌∷◌, length}
use Rattle.std.specs.List.{flat_map}
use Rattle.acl_text.specs.Printing.{short_form}
use Rattle.mon_catalogue.specs.declared.data_set.DataSet.{DataSet}
use Rattle.mon_catalogue.specs.Modes.{mode_word}
use Rattle.mon_catalogue.specs.Sets.{Sets}
use Rattle.ledger_text.specs.Digests.{digest_of}
use Rattle.ledger_text.specs.Text.{commit_text}
use Rattle.ledger_text.specs.Records.{Said, Audit, Tables}
use Rattle.ledger_index.specs.declared.index.Span.{Span}
use Rattle.ledger_index.specs.Index.{Entry, Head, Index}
use Rattle.ledger_sets.specs.Changes.{whole, change_text}
use Rattle.ledger_sets.specs.Applying.{Site}

-- ---- what it says

-- of a data set
abbrev pub piece_of : List ℕ × DataSet → List ℕ
piece_of named = change_text (whole named ∷ [])

abbrev pub span_at : ℕ → List ℕ × DataSet → Span
span_at place named = record { count = length named.1.records; place = place; size = length (piece_of named) }

abbrev pub entry_at : ℕ → List ℕ × DataSet → Entry
entry_at place named = record {
  name = named.0;
  owner = named.1.owner;
  group = named.1.group;
  mode = mode_word named.1.mode;
  list = short_form named.1.acl;
  span = span_at place named;
  digest = digest_of (piece_of named);
}

-- of all, the piece of the first at this place
abbrev pub entries_from : ℕ → Sets → List Entry
entries_from place [] = []
entries_from place (named ∷ sets) = entry_at place named ∷ entries_from (place + length (piece_of named)) sets

-- their pieces
abbrev pub pieces_text : Sets → List ℕ
pieces_text sets = flat_map piece_of sets

abbrev pub tables_text : Site → List ℕ
tables_text site = commit_text (site.accounts ∷ site.users ∷ site.limits ∷ [])

-- of a site, behind so many commits, of which the last has this digest
abbrev pub head_for : ℕ → List ℕ → List ℕ → Site → Head
head_for count last course site = record { count = count; last = last; jobs = site.jobs; course = course; tables = tables_text site }

abbrev pub index_for : ℕ → List ℕ → List ℕ → Site → Index
index_for count last course site = record { head = head_for count last course site; entries = entries_from 0 site.sets }

-- ---- what an index says besides the data sets, as a change

abbrev pub rest_said : Head → List Said
rest_said head = Audit head.jobs [] ∷ Tables head.tables ∷ []

abbrev pub rest_of : Head → List ℕ
rest_of head = change_text (rest_said head)
