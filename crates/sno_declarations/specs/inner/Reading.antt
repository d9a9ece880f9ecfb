-- How the lists of a prototype are read.
use Rattle.std.specs.Prelude.{◌≡◌, ℕ, nat_eq, Bool, true, List, [], ◌++◌, Option, Some, None, if◌then◌else◌}
use Rattle.std.specs.BTreeSet.{BTreeSet, contains}
use Rattle.std.specs.Borrow.{Bor}
use Rattle.std.specs.List.{list_all, list_any, slice_split}
use Rattle.std.specs.Ordering.{nat_cmp}
use Rattle.std.specs.Cmp.Lexicographic.{pointwise, slice_cmp}
use Rattle.sno_declarations.specs.Prototypes.{is_identifier, items, are_different}
use Rattle.mon_text.specs.Characters.{is_comma}

-- two references by what they point to
abbrev pub told : Bor (List ℕ) × Bor (List ℕ) → List ℕ × List ℕ
told p = (p.0.now, p.1.now)

-- the items, if they are identifiers
abbrev pub listed : List ℕ → Option (List (List ℕ))
listed text = if list_all is_identifier (items text) then Some (items text) else None

-- what stands between the commas of what is left
abbrev pub items_from : Option (Bor (List ℕ)) → List (List ℕ)
items_from None = []
items_from (Some text) = slice_split is_comma text.now

-- a set has just the names of a list, which are all different
abbrev pub HasMet : BTreeSet (List ℕ) → List (List ℕ) → Type 0
HasMet met names = (are_different names ≡ true) × ((name : List ℕ) → contains (slice_cmp nat_cmp) met name ≡ list_any (λ other. pointwise nat_eq other name) names)

-- whether names are different from one another and from those that a set had; if so, it has them too
abbrev pub Meets : Bool → BTreeSet (List ℕ) → BTreeSet (List ℕ) → List (List ℕ) → Type 0
Meets new before after names =
    (others : List (List ℕ)) → HasMet before others → (new ≡ are_different (names ++ others)) × (new ≡ true → HasMet after (names ++ others))

abbrev pub both_listed : Option (List (List ℕ)) → Option (List (List ℕ)) → Option (List (List ℕ) × List (List ℕ))
both_listed (Some ps) (Some ls) = Some (ps, ls)
both_listed _ _ = None
