-- What holds of texts that are handed in: each is the contract of a function in `laws`.
use Rattle.std.specs.Prelude.{◌≡◌, ◌↔◌, ℕ, ◌+◌, ◌≤◌, ◌<◌, List, Some, None}
use Rattle.std.specs.Str.Lines.{lines}
use Rattle.mon_access.specs.declared.account.Account.{Account}
use Rattle.mon_access.specs.Accounts.{HaveDifferentNames}
use Rattle.mon_catalogue.specs.Sets.{Sets}
use Rattle.mon_catalogue.specs.Stored.{IsStored, ArePrintable}
use Rattle.mon_catalogue.specs.Text.{text_of}
use Rattle.deck_syntax.specs.Sections.{deck_of}
use Rattle.deck_syntax.specs.Spelling.{SpellsAccounts, IsDeck}
use Rattle.preflight.specs.declared.quota.Quota.{Quota}
use Rattle.preflight.specs.declared.quota.HandedIn.{HandedIn}
use Rattle.preflight.specs.declared.quota.Limit.{Limit}
use Rattle.preflight.specs.declared.quota.Limit.TheVariants.{Texts, Bytes, Jobs, Statements, Largest, Work, DataSets, Records}
use Rattle.preflight.specs.Allowances.{broken_limit}
use Rattle.preflight.specs.Examined.{Verdict, IsVerdict}
use Rattle.preflight.specs.Rounds.{Handed, AreHanded, round_lines, round_deck}

-- what is said of a text, and that nothing else can be
pub record HasOneVerdict (own : List ℕ) (ls : List (List ℕ)) : Type 0 where
  pub verdict : Verdict
  pub is : IsVerdict own ls verdict
  pub only : (other : Verdict) → IsVerdict own ls other → other ≡ verdict

-- each text is one that its account may hand in, for what it asks, or has a first line that is wrong, for one reason
abbrev pub OneVerdict : Type 0
OneVerdict = (own : List ℕ) (ls : List (List ℕ)) → HasOneVerdict own ls

-- each number of what is handed in is within its own limit
pub record AreWithin (limits : Quota) (handed : HandedIn) : Type 0 where
  pub texts : handed.texts ≤ limits.texts
  pub bytes : handed.tally.bytes ≤ limits.bytes
  pub jobs : handed.tally.jobs ≤ limits.jobs
  pub statements : handed.tally.statements ≤ limits.statements
  pub largest : handed.tally.largest ≤ limits.largest
  pub work : handed.tally.work ≤ limits.work
  pub data_sets : handed.data_sets + handed.tally.creates ≤ limits.data_sets
  pub records : handed.records ≤ limits.records

-- the number that has this name is above its limit
abbrev pub IsAbove : Quota → HandedIn → Limit → Type 0
IsAbove limits handed Texts = limits.texts < handed.texts
IsAbove limits handed Bytes = limits.bytes < handed.tally.bytes
IsAbove limits handed Jobs = limits.jobs < handed.tally.jobs
IsAbove limits handed Statements = limits.statements < handed.tally.statements
IsAbove limits handed Largest = limits.largest < handed.tally.largest
IsAbove limits handed Work = limits.work < handed.tally.work
IsAbove limits handed DataSets = limits.data_sets < handed.data_sets + handed.tally.creates
IsAbove limits handed Records = limits.records < handed.records

-- no limit is broken exactly where each number is within its own; and the one that is told is broken
abbrev pub LimitsAreTold : Type 0
LimitsAreTold = (limits : Quota) (handed : HandedIn)
    → ((broken_limit limits handed ≡ None) ↔ AreWithin limits handed)
    × ((limit : Limit) → broken_limit limits handed ≡ Some limit → IsAbove limits handed limit)

-- the deck of a round is good, and asks for what its texts ask for, in order; so it is where its lines are written as a text,
-- each ended by LF
abbrev pub NeverRefused : Type 0
NeverRefused = (table : List (List ℕ)) (accounts : List Account) (sets : Sets) (texts : List Handed)
    → SpellsAccounts table accounts → HaveDifferentNames accounts → IsStored sets → ArePrintable sets → AreHanded texts
    → IsDeck (round_lines table sets texts) (round_deck accounts sets texts)
    × (deck_of (round_lines table sets texts) ≡ round_deck accounts sets texts)
    × (lines (text_of (round_lines table sets texts)) ≡ round_lines table sets texts)
