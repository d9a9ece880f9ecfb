-- What holds of indices: each is the contract of a function in `laws`.
use Rattle.std.specs.Prelude.{◌≡◌, ◌≢◌, ◌⊎◌, ◌<◌, ◌^◌, ℕ, List, ◌∷◌, ◌++◌, Some, Ok}
use Rattle.std.specs.List.{AllByRecursion}
use Rattle.ledger_text.specs.Text.{AreShort, Collide}
use Rattle.ledger_text.specs.Digests.{digest_of}
use Rattle.ledger_index.specs.Index.{Entry, Index, entry_fields, head_fields, index_fields, index_text, index_of}
use Rattle.ledger_index.specs.Opening.{Sealed, opened}

-- numbers and lengths that a machine can have
pub record IsSmallEntry (e : Entry) : Type 0 where
  pub count : e.span.count < 2 ^ 63
  pub place : e.span.place < 2 ^ 63
  pub size : e.span.size < 2 ^ 63
  pub fields : AreShort (entry_fields e)

pub record IsSmall (index : Index) : Type 0 where
  pub count : index.head.count < 2 ^ 63
  pub jobs : index.head.jobs < 2 ^ 63
  pub head : AreShort (head_fields index.head)
  pub entries : AllByRecursion IsSmallEntry index.entries
  pub fields : AreShort (index_fields index)

-- what is printed is read as itself
abbrev pub ReadsBack : Type 0
ReadsBack = (index : Index) → IsSmall index → index_of (index_text index) ≡ Some index

-- the ledger means this index
abbrev pub sealed_as : Index → Sealed
sealed_as index = record { count = index.head.count; last = index.head.last; digest = digest_of (index_text index) }

abbrev pub OpensItself : Type 0
OpensItself = (index : Index) → IsSmall index → opened (sealed_as index) (index_text index) ≡ Ok index

-- of what is cut off nothing is opened
abbrev pub RefusesParts : Type 0
RefusesParts = (index other : Index) (sealed : Sealed) (front : List ℕ) (c : ℕ) (lost : List ℕ) → IsSmall index
    → index_text index ≡ front ++ c ∷ lost → opened sealed front ≢ Ok other

-- whatever text is opened: it is the index whose digest the ledger has, or two texts of one digest are shown
abbrev pub OpensOne : Type 0
OpensOne = (index other : Index) (count : ℕ) (last text : List ℕ) → IsSmall index
    → opened (record { count = count; last = last; digest = digest_of (index_text index) }) text ≡ Ok other
    → (other ≡ index) ⊎ Collide digest_of
