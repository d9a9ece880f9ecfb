-- The stretch in which a submission ran (own): the commits between two acts of the operator, and the submissions that ran there.
use Rattle.std.specs.Prelude.{◌≡◌, ℕ, suc, ◌==◌, nat_le, ◌&&◌, Bool, true, false, List, [], ◌∷◌, ◌++◌, take, Option, None, Some, if◌then◌else◌}
use Rattle.std.specs.Borrow.{Bor}
use Rattle.ledger_text.specs.Records as said
use Rattle.ledger_text.specs.Records.{Said}
use Rattle.ledger_laws.specs.Course.{behind_first}
use Rattle.ledger_run.specs.Senders.{first_of}
use Rattle.ledger_sets.specs.Applying.{Site, no_site}
use Rattle.ledger_site.specs.Past.{Told, texts_in, told_by, after_texts}
use Rattle.ledger_site.specs.declared.stretch.Span.{Span}

-- ---- which commits they are

abbrev pub span : ℕ → ℕ → Bool → Span
span first behind is_found = record { first = first; behind = behind; is_found = is_found }

abbrev pub is_act : Said → Bool
is_act (said.Edit who act) = true
is_act other = false

abbrev pub is_run_of : ℕ → Said → Bool
is_run_of number (said.Ran n printout) = n == number
is_run_of number other = false

-- behind an act of the operator another stretch begins
abbrev pub first_behind : ℕ → ℕ → Said → ℕ
first_behind place first one = if is_act one then suc place else first

abbrev pub found_behind : ℕ → Bool → Said → Bool
found_behind number is_found one = if is_run_of number one then true else is_found

-- it ends where the operator acts, if the submission was found
abbrev pub ends_at : Bool → Said → Bool
ends_at is_found one = is_found && is_act one

abbrev pub span_told : ℕ → ℕ → ℕ → Bool → (ℕ → Bool → Span) → Option Told → Span
span_told number place first is_found later None = later first is_found
span_told number place first is_found later (Some one) =
    if ends_at is_found one.said then span first place is_found
    else later (first_behind place first one.said) (found_behind number is_found one.said)

-- from the commit of this place on
abbrev pub span_from : {A : Type 0} → (A → List ℕ) → ℕ → ℕ → ℕ → Bool → List A → Span
span_from text number place first is_found [] = span first place is_found
span_from text number place first is_found (commit ∷ commits) =
    span_told number place first is_found (λ next found. span_from text number (suc place) next found commits) (told_by (text commit))

-- ---- which submissions ran there: the first that waits is the one that runs

pub record Queue : Type 0 where
  pub waiting : List (List ℕ)
  pub ran : List (List ℕ)

abbrev pub queue : List (List ℕ) → List (List ℕ) → Queue
queue waiting ran = record { waiting = waiting; ran = ran }

-- those that the code has
abbrev pub seen_queue : List (Bor (List ℕ)) → List (List ℕ) → Queue
seen_queue waiting ran = queue (texts_in waiting) ran

abbrev pub after_run : Bool → List (List ℕ) → List (List ℕ) → List (List ℕ)
after_run true waiting ran = ran ++ first_of waiting
after_run false waiting ran = ran

abbrev pub queue_after : Bool → Said → Queue → Queue
queue_after is_there (said.Took n account uid name text) so_far = queue (so_far.waiting ++ text ∷ []) so_far.ran
queue_after is_there (said.Ran n printout) so_far = queue (behind_first so_far.waiting) (after_run is_there so_far.waiting so_far.ran)
queue_after is_there (said.Dropped n reason reply) so_far = queue (behind_first so_far.waiting) so_far.ran
queue_after is_there other so_far = so_far

abbrev pub queue_told : Bool → Option Told → Queue → Queue
queue_told is_there None so_far = so_far
queue_told is_there (Some one) so_far = queue_after is_there one.said so_far

-- from the commit of this place on; those before the first do not count
abbrev pub queue_from : {A : Type 0} → (A → List ℕ) → ℕ → ℕ → List A → Queue → Queue
queue_from text first place [] so_far = so_far
queue_from text first place (commit ∷ commits) so_far =
    queue_from text first (suc place) commits (queue_told (nat_le first place) (told_by (text commit)) so_far)

-- ---- the stretch

-- the commits of this span; the state before them, and what ran there
pub record IsStretch {A : Type 0} (text : A → List ℕ) (commits : List A) (number : ℕ) (state : Site) (texts : List (List ℕ)) : Type 0 where
  pub span : Span
  pub is : span ≡ span_from text number 0 0 false commits
  pub ran_there : span.is_found ≡ true
  pub before : after_texts text (take span.first commits) no_site ≡ Some state
  pub ran : texts ≡ (queue_from text span.first 0 (take span.behind commits) (queue [] [])).ran
