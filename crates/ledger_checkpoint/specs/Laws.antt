-- What holds of checkpoints: each is the contract of a function in `laws`.
use Rattle.std.specs.Prelude.{◌≡◌, ◌⊎◌, ℕ, Bool, List, [], ◌∷◌, ◌++◌, map, take, drop, Some, Ok}
use Rattle.std.specs.List.{AllByRecursion}
use Rattle.mon_catalogue.specs.declared.data_set.DataSet.{DataSet}
use Rattle.mon_catalogue.specs.Sets.{Sets}
use Rattle.mon_catalogue.specs.Stored.{IsStored, ArePrintable}
use Rattle.ledger_text.specs.Text.{AreShort, Collide}
use Rattle.ledger_text.specs.Digests.{digest_of}
use Rattle.ledger_index.specs.Index.{Entry, Index, index_text}
use Rattle.ledger_index.specs.Opening.{Sealed, opened}
use Rattle.ledger_index.specs.Laws.{IsSmall}
use Rattle.ledger_sets.specs.Changes.{whole}
use Rattle.ledger_sets.specs.Laws.{AreSmall}
use Rattle.ledger_sets.specs.Applying.{Site, no_site, with_sets, after_changes}
use Rattle.ledger_checkpoint.specs.Checkpoints.{piece_of, entries_from, pieces_text, head_for, index_for, rest_said, rest_of}
use Rattle.ledger_checkpoint.specs.Picking.{picked, of_names}
use Rattle.ledger_checkpoint.specs.Taking.{AreTexts}

-- Whatever the pieces are, those that are taken of the entries of some names are those of the data sets of these names, or two texts of one
-- digest are shown.
abbrev pub PickedAreOwn : Type 0
PickedAreOwn = (p : List ℕ → Bool) (place : ℕ) (sets : Sets) (texts : List (List ℕ)) → AreTexts (picked p (entries_from place sets)) texts
    → (texts ≡ map piece_of (of_names p sets)) ⊎ Collide digest_of

-- so it is: what is written of a checkpoint can be taken
abbrev pub OwnArePicked : Type 0
OwnArePicked = (p : List ℕ → Bool) (place : ℕ) (sets : Sets) → AreTexts (picked p (entries_from place sets)) (map piece_of (of_names p sets))

-- the piece that an entry speaks of has the digest that it says
abbrev pub HasItsPiece : List ℕ → Entry → Type 0
HasItsPiece pieces e = digest_of (take e.span.size (drop e.span.place pieces)) ≡ e.digest

abbrev pub PiecesStand : Type 0
PiecesStand = (sets : Sets) → AllByRecursion (HasItsPiece (pieces_text sets)) (entries_from 0 sets)

-- numbers and lengths that a machine can have
abbrev pub IsSmallSet : List ℕ × DataSet → Type 0
IsSmallSet named = AreSmall (whole named ∷ [])

-- behind the pieces of data sets there are these
abbrev pub PiecesLead : Type 0
PiecesLead = (sets : Sets) → IsStored sets → ArePrintable sets → AllByRecursion IsSmallSet sets
    → after_changes (map piece_of sets) no_site ≡ Some (with_sets no_site sets)

-- what can be written of a site is read again
pub record IsWritable (count : ℕ) (last course : List ℕ) (site : Site) : Type 0 where
  pub small : IsSmall (index_for count last course site)
  pub tables : AreShort (site.accounts ∷ site.users ∷ site.limits ∷ [])
  pub stored : IsStored site.sets
  pub printable : ArePrintable site.sets
  pub pieces : AllByRecursion IsSmallSet site.sets
  pub rest : AreSmall (rest_said (head_for count last course site))

-- and behind what the index says besides there is the state
abbrev pub ComesBack : Type 0
ComesBack = (count : ℕ) (last course : List ℕ) (site : Site) → IsWritable count last course site
    → after_changes (map piece_of site.sets ++ rest_of (head_for count last course site) ∷ []) no_site ≡ Some site

-- changes behind others
abbrev pub GoesOn : Type 0
GoesOn = (changes more : List (List ℕ)) (site : Site) → after_changes changes no_site ≡ Some site
    → after_changes more site ≡ after_changes (changes ++ more) no_site

-- the ledger has the digest of its index
abbrev pub sealed_for : ℕ → List ℕ → List ℕ → Site → Sealed
sealed_for count last course site = record { count = count; last = last; digest = digest_of (index_text (index_for count last course site)) }

-- THE LAW: whatever a checkpoint's files have, if it is opened and its pieces are taken, then they come to what the changes before it come
-- to, and so whatever is changed behind them; or two texts of one digest are shown.
abbrev pub OpensTheSame : Type 0
OpensTheSame = (changes : List (List ℕ)) (site : Site) (count : ℕ) (last course text : List ℕ) (index : Index) (texts : List (List ℕ))
    → after_changes changes no_site ≡ Some site → IsWritable count last course site
    → opened (sealed_for count last course site) text ≡ Ok index → AreTexts index.entries texts
    → ((more : List (List ℕ)) → after_changes ((texts ++ rest_of index.head ∷ []) ++ more) no_site ≡ after_changes (changes ++ more) no_site)
    ⊎ Collide digest_of
