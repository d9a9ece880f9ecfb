-- What an account is answered at a site does not depend on what it may neither read nor count (own), also where others' texts run in
-- between. Nothing is said of time and memory, of what it infers from its own denials, and of the numbers of its jobs, which tell how
-- many jobs others handed in before.
use Rattle.std.specs.Prelude.{◌≡◌, ℕ, List, [], ◌∷◌, Some}
use Rattle.mon_access.specs.declared.account.Account.{Account}
use Rattle.mon_access.specs.Accounts.{find_account}
use Rattle.mon_catalogue.specs.Sets.{Sets, NamesDiffer}
use Rattle.scheduler.specs.Marks.{Marks}
use Rattle.mon_monitor.specs.Agreeing.{LooksAlike, Both}
use Rattle.mon_monitor.specs.Printouts.{printouts_text}
use Rattle.mon_monitor.specs.Played.{Played}
use Rattle.preflight.specs.Rounds.{Handed, IsHanded}
use Rattle.rounds.specs.Delivery.{text_played}

-- a text that runs: behind so many jobs, and where memory breaks turns off
pub record TextRun : Type 0 where
  pub jobs : ℕ
  pub text : Handed
  pub marks : Marks

abbrev pub ran : ℕ → List Account → TextRun → Sets → Played
ran slots accounts run sets = text_played slots accounts run.jobs run.marks sets run.text

-- the data sets behind these, one after the other
abbrev pub left_by : ℕ → List Account → List TextRun → Sets → Sets
left_by slots accounts [] sets = sets
left_by slots accounts (run ∷ runs) sets = left_by slots accounts runs (ran slots accounts run sets).after.scheduler.sets

-- what others hand in first, in the one site and in the other; and then a text of the account's, the same in both
pub record Visit : Type 0 where
  pub here : List TextRun
  pub there : List TextRun
  pub own : TextRun

pub record IsOwnText (account : Account) (text : Handed) : Type 0 where
  pub handed : IsHanded text
  pub own : text.own ≡ account.name

-- at each visit the account finds data sets that look alike to it: the same names, owners, groups, modes and lists, and the same records
-- where it owns the set or may read it, as many where it may count them
abbrev pub FindsAlike : ℕ → List Account → Account → List Visit → Sets → Sets → Type 0
FindsAlike slots accounts account [] sets others = Unit {0}
FindsAlike slots accounts account (visit ∷ visits) sets others =
    let mine = left_by slots accounts visit.here sets in
    let theirs = left_by slots accounts visit.there others in
    Both (LooksAlike account) mine theirs × IsOwnText account visit.own.text
    × FindsAlike slots accounts account visits (ran slots accounts visit.own mine).after.scheduler.sets
    (ran slots accounts visit.own theirs).after.scheduler.sets

-- what the account is answered at each of its visits
abbrev pub answers : ℕ → List Account → (Visit → List TextRun) → List Visit → Sets → List (List ℕ)
answers slots accounts before [] sets = []
answers slots accounts before (visit ∷ visits) sets =
    let p = ran slots accounts visit.own (left_by slots accounts (before visit) sets) in
    printouts_text p.printouts ∷ answers slots accounts before visits p.after.scheduler.sets

-- ONE TEXT: over data sets that look alike to its account it prints the same, and what it leaves looks alike again
pub record IsAnsweredAlike (account : Account) (one other : Played) : Type 0 where
  pub printouts : one.printouts ≡ other.printouts
  pub after : Both (LooksAlike account) one.after.scheduler.sets other.after.scheduler.sets

abbrev pub TextsIsolated : Type 0
TextsIsolated = (slots : ℕ) (accounts : List Account) (account : Account) (run : TextRun) (sets others : Sets)
    → find_account accounts account.name ≡ Some account → NamesDiffer sets → Both (LooksAlike account) sets others → IsOwnText account run.text
    → IsAnsweredAlike account (ran slots accounts run sets) (ran slots accounts run others)

-- A SITE: whatever others hand in, if at each visit the account finds data sets that look alike, its answers are the same
abbrev pub SitesIsolated : Type 0
SitesIsolated = (slots : ℕ) (accounts : List Account) (account : Account) (sets others : Sets)
    → find_account accounts account.name ≡ Some account → NamesDiffer sets → NamesDiffer others
    → (visits : List Visit) → FindsAlike slots accounts account visits sets others
    → answers slots accounts (λ visit. visit.here) visits sets ≡ answers slots accounts (λ visit. visit.there) visits others
