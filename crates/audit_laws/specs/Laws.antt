-- What holds of audits and the histories that they are of: each is the contract of a function in `laws`.
use Rattle.std.specs.Prelude.{◌≡◌, ℕ, ◌<◌, ◌^◌, false, List, map}
use Rattle.std.specs.List.{AllByRecursion, flat_map}
use Rattle.scheduler.specs.Marks.{Marks}
use Rattle.mon_monitor.specs.Audit.{audit_line, audit}
use Rattle.mon_monitor.specs.History.{Entry}
use Rattle.deck_driver.specs.declared.options.Options.{Options}
use Rattle.deck_driver.specs.Audits.{audit_for}
use Rattle.deck_run.specs.Headline.{history_of}
use Rattle.audit_laws.specs.Telling.{told_number}
use Rattle.audit_laws.specs.Reading.{audit_tells}
use Rattle.audit_laws.specs.Sound.{IsSound}
use Rattle.audit_laws.specs.Histories.{told_of}

-- a number of the machine is told as it is
abbrev pub NumbersAreTold : Type 0
NumbersAreTold = (n : ℕ) → n < 2 ^ 64 → told_number n ≡ n

-- the lines of an entry are those of no other that differs in what is told
abbrev pub LinesAreTold : Type 0
LinesAreTold = (entry other : Entry) → IsSound entry → IsSound other → audit_line entry ≡ audit_line other → told_of entry ≡ told_of other

-- an audit is read in one way: what is read of it is what its entries tell
abbrev pub AuditsAreRead : Type 0
AuditsAreRead = (entries : List Entry) → AllByRecursion IsSound entries → audit_tells (audit entries) ≡ flat_map told_of entries

-- in each history of a deck there stand names where names are due, and entries that a list may have
abbrev pub HistoriesAreSound : Type 0
HistoriesAreSound = (options : Options) (m : Marks) (bytes : List ℕ) → options.check ≡ false → AllByRecursion IsSound (history_of options m bytes)

-- So the audit tells the history: whichever two decks are run, with however many slots, and wherever memory breaks turns off, if they have one
-- audit, their histories are one in all that is told of them, entry by entry.
abbrev pub AuditTellsHistory : Type 0
AuditTellsHistory = (options other : Options) (m n : Marks) (bytes more : List ℕ) → options.check ≡ false → other.check ≡ false
    → audit_for options m bytes ≡ audit_for other n more
    → map told_of (history_of options m bytes) ≡ map told_of (history_of other n more)
