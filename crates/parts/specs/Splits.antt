-- Splits of texts by the names that their cards speak of (own).
use Rattle.std.specs.Prelude.{ℕ, nat_eq, ◌<◌, ◌||◌, Bool, List, slice_get, unwrap_or}
use Rattle.std.specs.List.{list_any}
use Rattle.std.specs.Map.{lookup}
use Rattle.std.specs.Cmp.Lexicographic.{pointwise}
use Rattle.parts_laws.specs.Runs.{Numbered, Split}
use Rattle.parts.specs.Told.{Told}
use Rattle.parts.specs.declared.text.Text.{Text}

-- a text speaks of the names that its cards have, or of all
abbrev pub speaks : Text → List ℕ → Bool
speaks text other = text.all || list_any (λ name. pointwise nat_eq name other) text.names.items

-- what a split does not tell goes to part 0
abbrev pub goes : Told → Split (List ℕ)
goes told = record {
  of_text = λ n. unwrap_or (slice_get told.texts n) 0;
  of_name = λ name. unwrap_or (lookup (pointwise nat_eq name) told.names) 0;
}

abbrev pub numbered : Text → Numbered Text
numbered text = record { number = text.number; text = text }

-- there are so many parts at most
pub record AreWithin (most : ℕ) (told : Told) : Type 0 where
  pub texts : (n : ℕ) → (goes told).of_text n < most
  pub names : (name : List ℕ) → (goes told).of_name name < most
