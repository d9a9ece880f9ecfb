-- What one set of a catalogue adds to the names that an account is shown.
use Rattle.std.specs.Prelude.{ℕ, List, [], ◌∷◌, Option, None, Some}
use Rattle.mon_access.specs.declared.account.Account.{Account}
use Rattle.mon_catalogue.specs.Sets.{Sets}
use Rattle.mon_guard.specs.Views.{NamePart, name_lent}

abbrev pub one_or_none : Option NamePart → List NamePart
one_or_none None = []
one_or_none (Some shown) = shown ∷ []

-- the name of the set at this index where it is shown, or none
abbrev pub shown_at : Account → Sets → ℕ → List NamePart
shown_at account sets index = one_or_none (name_lent account sets index)
