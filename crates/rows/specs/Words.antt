-- The words that a worked deck is run with (own).
use Rattle.std.specs.Prelude.{ℕ, ◌+◌, Bool, List, [], ◌∷◌, ◌++◌, codes, if◌then◌else◌}
use Rattle.deck_driver.specs.declared.options.Slots.{Slots}

-- `--check` on a line of its own where the deck is only read, and else nothing
abbrev pub words_for : Bool → List ℕ
words_for check = if check then codes "--check\n" else []

-- `--slots`, and how many there are, each on a line of its own
abbrev pub slots_words : Slots → List ℕ
slots_words slots = codes "--slots\n" ++ (48 + slots.number) ∷ codes "\n"
