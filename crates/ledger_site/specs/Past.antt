-- What commits said (own): when, what, and with which change; and what they come to.
use Rattle.std.specs.Prelude.{ℕ, suc, nat_lt, Bool, false, List, [], ◌∷◌, map, Option, None, Some, option_map, if◌then◌else◌}
use Rattle.std.specs.Borrow.{Bor}
use Rattle.std.specs.Option.{option_and_then, option_map_or}
use Rattle.ledger_text.specs.Text.{commit_of}
use Rattle.ledger_text.specs.Records as said
use Rattle.ledger_text.specs.Records.{Said, seen, said_of}
use Rattle.ledger_sets.specs.Applying.{Site, after_change}
use Rattle.ledger_site.specs.declared.past.Said as code

pub record Told : Type 0 where
  pub time : ℕ
  pub said : Said
  pub change : List ℕ

-- what the code has of it
abbrev pub told : code.Said → Told
told one = record { time = one.time; said = seen one.«record»; change = one.change.now }

-- texts that the code lends
abbrev pub texts_in : List (Bor (List ℕ)) → List (List ℕ)
texts_in lent = map (λ text. text.now) lent

-- ---- a commit: its first field is the digest of the one before, the others are a record and its change

abbrev pub timed : List ℕ → ℕ × Said → Told
timed change entry = record { time = entry.0; said = entry.1; change = change }

-- of the fields of a record
abbrev pub told_head : List ℕ → Option (List (List ℕ)) → Option Told
told_head change fields = option_map (timed change) (option_and_then said_of fields)

-- of the fields of a commit
abbrev pub told_in : Option (List (List ℕ)) → Option Told
told_in (Some (named ∷ head ∷ change ∷ [])) = told_head change (commit_of head)
told_in fields = None

abbrev pub told_by : List ℕ → Option Told
told_by text = told_in (commit_of text)

-- ---- the state behind some

-- the change that a record makes: of the others none makes one
abbrev pub change_of : Said → List ℕ → Option (List ℕ)
change_of (said.Ran n printout) change = Some change
change_of (said.Edit who act) change = Some change
change_of other change = None

abbrev pub after_told : Told → Site → Option Site
after_told one site = option_map_or (λ change. after_change change site) (change_of one.said one.change) (Some site)

-- none where the text is none of a commit, or its change none of this site
abbrev pub after_text : List ℕ → Site → Option Site
after_text text site = option_and_then (λ one. after_told one site) (told_by text)

abbrev pub after_texts : {A : Type 0} → (A → List ℕ) → List A → Site → Option Site
after_texts text [] site = Some site
after_texts text (commit ∷ commits) site = option_and_then (after_texts text commits) (after_text (text commit) site)

-- ---- how many stand before the first run of a submission with a larger number than this one

abbrev pub is_later : ℕ → Said → Bool
is_later number (said.Ran n printout) = nat_lt number n
is_later number other = false

abbrev pub runs_later : ℕ → Option Told → Bool
runs_later number None = false
runs_later number (Some one) = is_later number one.said

abbrev pub count_from : {A : Type 0} → (A → List ℕ) → ℕ → ℕ → List A → ℕ
count_from text number count [] = count
count_from text number count (commit ∷ commits) =
    if runs_later number (told_by (text commit)) then count else count_from text number (suc count) commits
