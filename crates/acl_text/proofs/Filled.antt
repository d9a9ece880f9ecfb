-- Lines that are not blank.
use Rattle.std.specs.{Prelude.{ℕ, Bool, not, List}, List.{list_all}}
use Rattle.acl_text.specs.Texts.{is_gap}

-- not blanks alone
abbrev pub is_filled : List ℕ → Bool
is_filled line = not (list_all is_gap line)
