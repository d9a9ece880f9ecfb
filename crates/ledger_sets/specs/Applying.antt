-- What a change makes of a site's state (own).
use Rattle.std.specs.Prelude.{ℕ, nat_eq, nat_le, List, [], ◌∷◌, ◌++◌, length, take, Option, Some, None, option_map, is_some, Result, Ok, Err}
use Rattle.std.specs.Prelude.{if◌then◌else◌}
use Rattle.std.specs.Option.{option_and_then}
use Rattle.std.specs.Cmp.Lexicographic.{pointwise}
use Rattle.std.specs.Str.Lines.{lines}
use Rattle.mon_text.specs.declared.stop.Stop.{Stop}
use Rattle.mon_catalogue.specs.declared.version.Version.TheVariants.{Two}
use Rattle.mon_catalogue.specs.declared.data_set.DataSet.{DataSet}
use Rattle.mon_catalogue.specs.declared.loading.CatalogueError.{CatalogueError}
use Rattle.mon_catalogue.specs.Sets.{Sets, find_set}
use Rattle.mon_catalogue.specs.Changes.{without_set, with_changed}
use Rattle.mon_catalogue.specs.Reading.{catalogue_of}
use Rattle.ledger_text.specs.Text.{commit_of}
use Rattle.ledger_text.specs.Records as said
use Rattle.ledger_text.specs.Records.{Said, said_of}

-- the data sets, how many jobs ran so far, and the operator's three texts
pub record Site : Type 0 where
  pub sets : Sets
  pub jobs : ℕ
  pub accounts : List ℕ
  pub users : List ℕ
  pub limits : List ℕ

-- before all changes
abbrev pub no_site : Site
no_site = record { sets = []; jobs = 0; accounts = []; users = []; limits = [] }

abbrev pub with_sets : Site → Sets → Site
with_sets site sets = record site { sets = sets }

abbrev pub with_jobs : Site → ℕ → Site
with_jobs site jobs = record site { jobs = jobs }

-- ---- a record of a change

-- a data set whose first records stay, with these behind them
abbrev pub kept_as : ℕ → List (List ℕ) → DataSet → DataSet
kept_as first records set = record set { records = take first set.records ++ records }

abbrev pub keeping : List ℕ → ℕ → List (List ℕ) → Sets → Option Sets
keeping name first records sets =
    option_and_then (λ set. if nat_le first (length set.records) then Some (with_changed name (kept_as first records) sets) else None) (find_set name sets)

-- this data set in its place; or last, if it is new
abbrev pub put_set : List ℕ → DataSet → Sets → Sets
put_set name set sets = if is_some (find_set name sets) then with_changed name (λ _. set) sets else sets ++ (name, set) ∷ []

abbrev pub put_only : List ℕ → Sets → Sets → Option Sets
put_only name ((other, set) ∷ []) sets = if pointwise nat_eq name other then Some (put_set name set sets) else None
put_only name others sets = None

-- the one that these lines of a catalogue's text spell
abbrev pub setting : List ℕ → Result Sets (Stop CatalogueError) → Sets → Option Sets
setting name (Ok spelled) sets = put_only name spelled sets
setting name (Err stop) sets = None

abbrev pub removing : List ℕ → Sets → Option Sets
removing name sets = if is_some (find_set name sets) then Some (without_set name sets) else None

-- the operator's three texts
abbrev pub tabled : Option (List (List ℕ)) → Site → Option Site
tabled (Some (accounts ∷ users ∷ limits ∷ [])) site =
    Some (record { sets = site.sets; jobs = site.jobs; accounts = accounts; users = users; limits = limits })
tabled fields site = None

abbrev pub after_said : Said → Site → Option Site
after_said (said.Keep n name first records) site = option_map (with_sets site) (keeping name first (lines records) site.sets)
after_said (said.Set n name head records) site = option_map (with_sets site) (setting name (catalogue_of Two (lines head ++ lines records)) site.sets)
after_said (said.Gone n name) site = option_map (with_sets site) (removing name site.sets)
after_said (said.Audit n lines) site = Some (with_jobs site n)
after_said (said.Tables tables) site = tabled (commit_of tables) site
after_said (said.Took n account uid name text) site = None
after_said (said.Refused n account uid name reply) site = None
after_said (said.Ran n printout) site = None
after_said (said.Dropped n reason reply) site = None
after_said (said.Gave first last) site = None
after_said (said.Checked count digest) site = None
after_said (said.Edit who act) site = None

-- ---- records one after the other

abbrev pub after_all : List Said → Site → Option Site
after_all [] site = Some site
after_all (change ∷ changes) site = option_and_then (after_all changes) (after_said change site)

-- as they stand in a text of fields
abbrev pub after_timed : Option (ℕ × Said) → Site → Option Site
after_timed None site = None
after_timed (Some entry) site = after_said entry.1 site

-- of the fields of a record
abbrev pub after_field : List ℕ → Site → Option Site
after_field field site = after_timed (option_and_then said_of (commit_of field)) site

abbrev pub after_fields : List (List ℕ) → Site → Option Site
after_fields [] site = Some site
after_fields (field ∷ fields) site = option_and_then (after_fields fields) (after_field field site)

-- A CHANGE'S TEXT: nothing, or fields, each a record
abbrev pub after_change : List ℕ → Site → Option Site
after_change [] site = Some site
after_change (c ∷ text) site = option_and_then (λ fields. after_fields fields site) (commit_of (c ∷ text))

-- texts one after the other
abbrev pub after_changes : List (List ℕ) → Site → Option Site
after_changes [] site = Some site
after_changes (change ∷ changes) site = option_and_then (after_changes changes) (after_change change site)
