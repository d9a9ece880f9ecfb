-- Which commit is the first that does not name the one before it, and which the first whose run comes to something else again (own).
use Rattle.std.specs.Prelude.{ℕ, suc, Bool, true, false, ◌&&◌, List, [], ◌∷◌, ◌++◌, Option, None, Some, if◌then◌else◌, bytes_eq}
use Rattle.ledger_text.specs.Text.{commit_of}
use Rattle.ledger_text.specs.Digests.{digest_of}
use Rattle.ledger_text.specs.Records as said
use Rattle.ledger_text.specs.Records.{Said}
use Rattle.ledger_laws.specs.Course.{behind_first}
use Rattle.ledger_run.specs.Meaning.{Step}
use Rattle.ledger_site.specs.Past.{Told, told_by}

-- the fields of a commit begin with this digest
abbrev pub names : List ℕ → Option (List (List ℕ)) → Bool
names before (Some (named ∷ head ∷ change ∷ [])) = bytes_eq named before
names before fields = false

-- of these commits, the first of which has this number and is behind one of this digest
abbrev pub broken_from : {A : Type 0} → (A → List ℕ) → ℕ → List ℕ → List A → Option ℕ
broken_from text number before [] = None
broken_from text number before (commit ∷ commits) =
    if names before (commit_of (text commit)) then broken_from text (suc number) (digest_of (text commit)) commits else Some number

-- ---- runs once more

-- the submissions that wait, and what was changed so far
pub record Again : Type 0 where
  pub waiting : List (List ℕ)
  pub behind : List (List ℕ)

abbrev pub again : List (List ℕ) → List (List ℕ) → Again
again waiting behind = record { waiting = waiting; behind = behind }

-- whether the first of those that wait prints this and changes this
abbrev pub comes_to : Step → List (List ℕ) → List (List ℕ) → List ℕ → List ℕ → Bool
comes_to step [] behind printout change = false
comes_to step (text ∷ waiting) behind printout change = bytes_eq (step text behind).0 printout && bytes_eq (step text behind).1 change

abbrev pub one_waits : List (List ℕ) → Bool
one_waits [] = false
one_waits (text ∷ waiting) = true

-- whether what a commit says comes out again
abbrev pub holds : Step → Said → List ℕ → Again → Bool
holds step (said.Ran n printout) change so_far = comes_to step so_far.waiting so_far.behind printout change
holds step (said.Dropped n reason reply) change so_far = one_waits so_far.waiting
holds step other change so_far = true

abbrev pub behind_said : Said → List ℕ → Again → Again
behind_said (said.Took n account uid name text) change so_far = again (so_far.waiting ++ text ∷ []) so_far.behind
behind_said (said.Ran n printout) change so_far = again (behind_first so_far.waiting) (so_far.behind ++ change ∷ [])
behind_said (said.Dropped n reason reply) change so_far = again (behind_first so_far.waiting) so_far.behind
behind_said (said.Edit who act) change so_far = again so_far.waiting (so_far.behind ++ change ∷ [])
behind_said other change so_far = so_far

-- THE FIRST COMMIT, from the one of this number on, of which it does not
abbrev pub other_at : Step → ℕ → Again → (Again → Option ℕ) → Option Told → Option ℕ
other_at step number so_far later None = None
other_at step number so_far later (Some one) =
    if holds step one.said one.change so_far then later (behind_said one.said one.change so_far) else Some number

abbrev pub other_from : {A : Type 0} → (A → List ℕ) → Step → ℕ → List A → Again → Option ℕ
other_from text step number [] so_far = None
other_from text step number (commit ∷ commits) so_far =
    other_at step number so_far (other_from text step (suc number) commits) (told_by (text commit))
