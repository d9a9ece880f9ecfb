-- What holds of a site that is opened from a checkpoint (own): each is the contract of a function in `laws`.
use Rattle.std.specs.Prelude.{◌≡◌, ◌⊎◌, ℕ, List, [], ◌∷◌, ◌++◌, Some, Ok}
use Rattle.ledger_text.specs.Text.{Collide}
use Rattle.ledger_text.specs.Digests.{digest_of}
use Rattle.ledger_index.specs.Index.{Index}
use Rattle.ledger_index.specs.Opening.{opened}
use Rattle.ledger_index.specs.Course.{course_text, IsSmallCourse}
use Rattle.ledger_sets.specs.Applying.{Site, no_site, after_changes}
use Rattle.ledger_checkpoint.specs.Checkpoints.{rest_of}
use Rattle.ledger_checkpoint.specs.Taking.{AreTexts}
use Rattle.ledger_checkpoint.specs.Laws.{IsWritable, sealed_for}
use Rattle.ledger_run.specs.declared.ledger.Ledger.{Ledger}
use Rattle.ledger_run.specs.Runs.{AreAlike, seen_ledger}
use Rattle.ledger_run.specs.Following.{IsOfChain}
use Rattle.ledger_run.specs.Known.{course_by, IsKnown}
use Rattle.ledger_machine.specs.Steps.{site_step}

-- each submission does the same over changes that come to the same, whatever is changed behind them
abbrev pub ChangesAreAlike : Type 0
ChangesAreAlike = (one other : List (List ℕ))
    → ((more : List (List ℕ)) → after_changes (one ++ more) no_site ≡ after_changes (other ++ more) no_site) → AreAlike site_step one other

-- a checkpoint can be written of this ledger, and of a machine with these changes behind it, which come to this site
pub record IsWritten (was : Ledger) (behind : List (List ℕ)) (site : Site) : Type 0 where
  pub came : after_changes behind no_site ≡ Some site
  pub writable : IsWritable was.commits was.last.items (course_text (course_by was)) site
  pub course : IsSmallCourse (course_by was)

-- its index is opened, its pieces are taken, and a ledger is known by what it says
pub record IsTaken (was : Ledger) (site : Site) (text : List ℕ) (index : Index) (texts : List (List ℕ)) (now : Ledger) : Type 0 where
  pub open_is : opened (sealed_for was.commits was.last.items (course_text (course_by was)) site) text ≡ Ok index
  pub fit : AreTexts index.entries texts
  pub known : IsKnown index.head.course index.head.count index.head.last now

-- THE LAW: then ledger and machine are those of the commits that the ledger was of
abbrev pub OpensFromIt : Type 0
OpensFromIt = (was now : Ledger) (behind : List (List ℕ)) (site : Site) (text : List ℕ) (index : Index) (texts front : List (List ℕ))
    → IsWritten was behind site → IsTaken was site text index texts now → IsOfChain (seen_ledger was) behind site_step front
    → IsOfChain (seen_ledger now) (texts ++ rest_of index.head ∷ []) site_step front ⊎ Collide digest_of
