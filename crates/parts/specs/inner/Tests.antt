-- The tests by which splits are told.
use Rattle.std.specs.Prelude.{ℕ, nat_lt, ◌==◌, ◌&&◌, ◌||◌, Bool, not, List}
use Rattle.std.specs.List.{list_all}
use Rattle.parts.specs.Told.{Told}
use Rattle.parts.specs.Splits.{goes}
use Rattle.parts.specs.declared.text.Text.{Text}

abbrev pub name_goes : Told → ℕ → List ℕ → Bool
name_goes told part name = (goes told).of_name name == part

-- each name there could be
abbrev pub all_in : Told → ℕ → Bool
all_in told part = (part == 0) && list_all (λ e. e.1 == part) told.names

abbrev pub goes_along : Told → Text → Bool
goes_along told text =
    let part = (goes told).of_text text.number in
    list_all (name_goes told part) text.names.items && (not text.all || all_in told part)

abbrev pub are_within : ℕ → Told → Bool
are_within most told = list_all (λ part. nat_lt part most) told.texts && list_all (λ e. nat_lt e.1 most) told.names
