-- How the words of a command line ask for an audit (own), before the other options are read.
use Rattle.std.specs.Prelude.{◌≡◌, ℕ, ◌==◌, Bool, false, not, List, [], ◌∷◌, Option, Some, None, drop, codes, nat_eq, if◌then◌else◌}
use Rattle.std.specs.List.{starts_with}
use Rattle.std.specs.Option.{option_map, option_map_or}
use Rattle.std.specs.Str.{bytes_eq}
use Rattle.deck_driver.specs.declared.options.Options.{Options}
use Rattle.snomon_library.specs.CommandLine.{Gives}

-- the words without those that ask for an audit, and the name of its file, where they do
pub record Asked : Type 0 where
  pub left : List (List ℕ)
  pub file : Option (List ℕ)

-- the name of a file has a character, and does not begin with `-`
abbrev pub is_file : List ℕ → Bool
is_file [] = false
is_file (c ∷ cs) = not (c == 45)

abbrev pub asked_for : List ℕ → List (List ℕ) → Option Asked
asked_for name words = if is_file name then Some (record { left = words; file = Some name }) else None

-- the file is named by the next word
abbrev pub asked_next : List (List ℕ) → Option Asked
asked_next [] = None
asked_next (name ∷ words) = asked_for name words

-- a word ends the options
abbrev pub is_end : List ℕ → Bool
is_end word = bytes_eq word (codes "--")

-- it asks for an audit, whose file it names too
abbrev pub file_in : List ℕ → Option (List ℕ)
file_in word = if starts_with nat_eq word (codes "--audit=") then Some (drop 8 word) else None

-- or the next word does
abbrev pub is_option : List ℕ → Bool
is_option word = bytes_eq word (codes "--audit")

abbrev pub behind : List ℕ → Asked → Asked
behind word asked = record asked { left = word ∷ asked.left }

-- what the words behind the program's name ask for, up to a word `--`; nothing, where the option has no file
abbrev pub asked_in : List (List ℕ) → Option Asked
asked_in [] = Some (record { left = []; file = None })
asked_in (word ∷ words) =
    if is_end word then Some (record { left = word ∷ words; file = None })
    else option_map_or (λ name. asked_for name words) (file_in word)
    (if is_option word then asked_next words else option_map (behind word) (asked_in words))

-- the first word is the program's name
abbrev pub audit_of : List (List ℕ) → Option Asked
audit_of [] = Some (record { left = []; file = None })
audit_of (program ∷ words) = option_map (behind program) (asked_in words)

-- The options and the file of an audit that a command line asks for, of which the first word is the program's name.
abbrev pub GivesAll : List (List ℕ) → Options → Option (List ℕ) → Type 0
GivesAll words options file = (left : List (List ℕ)) × (audit_of words ≡ Some (record { left = left; file = file })) × Gives left options
