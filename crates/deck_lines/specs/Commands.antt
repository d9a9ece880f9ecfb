-- The parts of a command (own).
use Rattle.std.specs.Prelude.{ℕ, List}
use Rattle.deck_lines.specs.declared.command.Command.{Command}
use Rattle.deck_lines.specs.declared.command.Command.TheVariants.{Create, Delete, SetAcl, ShowAcl, List as Listing, Catalog}

-- the account that asks
abbrev pub account_of : Command → List ℕ
account_of (Create account name mode) = account
account_of (Delete account name) = account
account_of (SetAcl account name text) = account
account_of (ShowAcl account name) = account
account_of (Listing account name) = account
account_of (Catalog account) = account
