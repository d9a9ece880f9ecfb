-- What an account may neither read nor count does not show in what its own deck prints (own). Nothing is claimed of a deck with
-- cards of other accounts, of what an account infers from its own denial lines, or of the catalogue behind the printouts but that
-- it looks alike again.
use Rattle.std.specs.Prelude.{◌≡◌, ℕ, false, List, ◌++◌, Some}
use Rattle.std.specs.List.{AllByRecursion}
use Rattle.std.specs.Str.Lines.{lines}
use Rattle.mon_access.specs.declared.account.Account.{Account}
use Rattle.mon_access.specs.Accounts.{find_account}
use Rattle.deck_lines.specs.Commands.{account_of}
use Rattle.scheduler.specs.Marks.{Marks}
use Rattle.mon_monitor.specs.Agreeing.{LooksAlike, Both}
use Rattle.deck_syntax.specs.Decks.{Deck, Asked, Commands, Enters, Gives, Drains, Ending, Stopped, Refused}
use Rattle.deck_syntax.specs.Sections.{deck_of}
use Rattle.deck_driver.specs.declared.options.Options.{Options}
use Rattle.deck_driver.specs.Printouts.{closing, output_of}
use Rattle.deck_run.specs.Runs.{deck_ending, catalogue_after}

-- a card of the account's own: its command, its job, or turns
abbrev pub IsOwnCard : Account → Asked → Type 0
IsOwnCard account (Commands command) = account_of command ≡ account.name
IsOwnCard account (Enters job) = job.account ≡ account.name
IsOwnCard account (Gives turn) = Unit {0}
IsOwnCard account Drains = Unit {0}

-- both come to their `$STOP`, or both are refused: at other lines, perhaps, where the one catalogue is longer than the other
abbrev pub EndAlike : Ending → Ending → Type 0
EndAlike Stopped Stopped = Unit {0}
EndAlike Stopped (Refused n code) = ⊥
EndAlike (Refused n code) Stopped = ⊥
EndAlike (Refused n code) (Refused k other) = Unit {0}

-- Two decks that an account can't tell apart: one account table, which has it; the same cards in the same order, all its own;
-- and data sets that look alike to it, so that they differ only in records that it may neither read nor count.
pub record DecksAlike (account : Account) (deck other : Deck) : Type 0 where
  pub accounts : deck.accounts ≡ other.accounts
  pub known : find_account deck.accounts account.name ≡ Some account
  pub asked : deck.cards.asked ≡ other.cards.asked
  pub own : AllByRecursion (IsOwnCard account) deck.cards.asked
  pub ending : EndAlike deck.cards.ending other.cards.ending
  pub sets : Both (LooksAlike account) deck.catalogue other.catalogue

-- The outputs are one text up to the catalogue, and the catalogues look alike to the account again.
pub record PrintAlike (account : Account) (options : Options) (m : Marks) (bytes others : List ℕ) : Type 0 where
  pub printed : List ℕ
  pub here : output_of options m bytes ≡ printed ++ closing (catalogue_after options m bytes) (deck_ending bytes)
  pub there : output_of options m others ≡ printed ++ closing (catalogue_after options m others) (deck_ending others)
  pub after : Both (LooksAlike account) (catalogue_after options m bytes) (catalogue_after options m others)

-- Decks that an account can't tell apart print the same before their catalogues, wherever memory breaks turns off.
abbrev pub DecksIsolated : Type 0
DecksIsolated = (account : Account) (options : Options) (m : Marks) (bytes others : List ℕ) → options.check ≡ false
    → DecksAlike account (deck_of (lines bytes)) (deck_of (lines others)) → PrintAlike account options m bytes others
