-- What is printed (own). The monitor's own lines begin with a word; a line that shows stored text begins with one blank.
use Rattle.std.specs.Prelude.{ℕ, List, ◌++◌, length, codes}
use Rattle.std.specs.List.{flat_map}
use Rattle.mon_acl.specs.Entries.{mask_of}
use Rattle.acl_text.specs.Printing.{long_line}
pub use Rattle.mon_device.specs.Words.{word, number}
use Rattle.mon_guard.specs.Views.{AclPart, NamePart}

-- a line that shows stored text
abbrev pub stored_line : List ℕ → List ℕ
stored_line text = word text ++ codes "\n"

-- how many there were
abbrev pub count_line : List ℕ → ℕ → List ℕ
count_line what n = what ++ number n ++ codes "\n"

-- records, and how many they are
abbrev pub records_text : List (List ℕ) → List ℕ
records_text records = flat_map stored_line records ++ count_line (codes "RECORDS") (length records)

-- a data set's owner, its group and its permission list, each entry with what the mask leaves of it, and how many entries
-- that has
abbrev pub acl_text : AclPart → List ℕ
acl_text list =
    codes "OWNER" ++ word list.owner ++ codes " GROUP" ++ word list.group ++ codes "\n"
    ++ flat_map (λ entry. word (long_line (mask_of list.acl) entry)) list.acl ++ count_line (codes "ENTRIES") (length list.acl)

-- a data set's name, its owner, its group and the number of its records
abbrev pub name_line : NamePart → List ℕ
name_line shown = word shown.name ++ word shown.owner ++ word shown.group ++ number shown.records ++ codes "\n"

-- the names of data sets, and how many they are
abbrev pub names_text : List NamePart → List ℕ
names_text names = flat_map name_line names ++ count_line (codes "NAMES") (length names)
