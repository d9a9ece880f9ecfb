-- What parts gave, joined (own): each printout by its text's number, each data set by its name, picked from the part it goes to.
use Rattle.std.specs.Prelude.{ℕ, nat_eq, ◌==◌, List, [], ◌++◌, codes, map, slice_get}
use Rattle.std.specs.List.{flat_map}
use Rattle.std.specs.Global.{Vec}
use Rattle.std.specs.Option.{option_map_or}
use Rattle.std.specs.Cmp.Lexicographic.{pointwise}
use Rattle.parts_laws.specs.Picking.{picked}
use Rattle.parts_laws.specs.Runs.{Split}
use Rattle.parts.specs.declared.joining.Part.{Part}

-- entries, by their bytes
abbrev pub bytes_of : {K : Type 0} → List (K × Vec ℕ) → List (K × List ℕ)
bytes_of entries = map (λ e. (e.0, e.1.items)) entries

-- of each text of the part of this number its printout; a part that there is not has none
abbrev pub printed_in : List Part → ℕ → List (ℕ × List ℕ)
printed_in parts k = option_map_or (λ part. bytes_of part.printed.entries) (slice_get parts k) []

-- and each data set that it left, as it is printed
abbrev pub left_in : List Part → ℕ → List (List ℕ × List ℕ)
left_in parts k = option_map_or (λ part. bytes_of part.left.entries) (slice_get parts k) []

abbrev pub texts_joined : Split (List ℕ) → List Part → List ℕ → List ℕ
texts_joined split parts numbers = flat_map (λ e. e.1) (picked (λ n m. n == m) split.of_text (printed_in parts) numbers)

abbrev pub sets_joined : Split (List ℕ) → List Part → List (List ℕ) → List ℕ
sets_joined split parts names = flat_map (λ e. e.1) (picked (pointwise nat_eq) split.of_name (left_in parts) names)

-- the printouts in the order of these numbers, and the catalogue in the order of these names
abbrev pub joined : Split (List ℕ) → List Part → List ℕ → List (List ℕ) → List ℕ
joined split parts numbers names = texts_joined split parts numbers ++ (codes "$CATALOGUE 2\n" ++ sets_joined split parts names)
