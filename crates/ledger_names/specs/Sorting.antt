-- Which files in boxes stand under numbers, and which can be claimed (own).
use Rattle.std.specs.Prelude.{ℕ, ◌+◌, Bool, true, false, not, ◌==◌, ◌&&◌, if◌then◌else◌, List, [], ◌∷◌}
use Rattle.ledger_disk.specs.declared.identity.Identity.{Identity}
use Rattle.ledger_names.specs.declared.sorting.Boxed.{Boxed}

-- whether a file is one of these
abbrev pub same_file : Identity → Identity → Bool
same_file a b = (a.device == b.device) && (a.inode == b.inode)

abbrev pub is_among : Identity → List Identity → Bool
is_among file [] = false
is_among file (one ∷ files) = if same_file file one then true else is_among file files

-- how many names this file has
abbrev pub names_of : Identity → List Boxed → ℕ
names_of file [] = 0
names_of file (one ∷ boxed) = (if same_file file one.file then 1 else 0) + names_of file boxed

-- whether it can be claimed, where these files stand under numbers
abbrev pub is_fit : List Identity → List Boxed → Identity → Bool
is_fit files all file = not (is_among file files) && names_of file all == 1

abbrev pub put_if : Bool → ℕ → List ℕ → List ℕ
put_if b drop drops = if b then drop ∷ drops else drops

-- the places of those that stand under numbers
abbrev pub done_of : List Identity → List Boxed → List ℕ
done_of files [] = []
done_of files (one ∷ boxed) = put_if (is_among one.file files) one.drop (done_of files boxed)

-- and of those that can be claimed
abbrev pub left_of : List Identity → List Boxed → List Boxed → List ℕ
left_of files all [] = []
left_of files all (one ∷ boxed) = put_if (is_fit files all one.file) one.drop (left_of files all boxed)
