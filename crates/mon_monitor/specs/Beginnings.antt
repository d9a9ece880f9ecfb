-- Isolation from the beginning on (own): two decks that differ only in records that an account may neither read nor count.
use Rattle.std.specs.Prelude.{◌≡◌, ℕ, List, Some}
use Rattle.std.specs.List.{AllByRecursion}
use Rattle.mon_access.specs.declared.account.Account.{Account}
use Rattle.mon_access.specs.Accounts.{find_account}
use Rattle.mon_catalogue.specs.Sets.{Sets, NamesDiffer}
use Rattle.scheduler.specs.Marks.{Marks}
use Rattle.mon_monitor.specs.SystemStates.{first_system}
use Rattle.mon_monitor.specs.Events.{Event}
use Rattle.mon_monitor.specs.Printouts.{printouts_text}
use Rattle.mon_monitor.specs.Played.{played}
use Rattle.mon_monitor.specs.Agreeing.{LooksAlike, Both}
use Rattle.mon_monitor.specs.Isolation.{IsOwn}

-- Over catalogues that look alike to a known account, its own events alone print the same text, wherever memory breaks turns off.
abbrev pub FromTheBeginning : Type 0
FromTheBeginning = (slots : ℕ) (accounts : List Account) (account : Account) (sets others : Sets)
    → find_account accounts account.name ≡ Some account → NamesDiffer sets → Both (LooksAlike account) sets others
    → (E : List Event) → AllByRecursion (IsOwn account) E → (m : Marks)
    → printouts_text (played E m (first_system slots accounts sets)).printouts ≡ printouts_text (played E m (first_system slots accounts others)).printouts
