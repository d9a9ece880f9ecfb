-- Which names of a box are claimed (own): of those that were met, neither hidden ones, nor copies that editors keep, nor folders; the
-- first so many, in the order of their bytes.
use Rattle.std.specs.Prelude.{◌≡◌, ◌⊎◌, ℕ, Bool, not, ◌&&◌, List, [], ◌∷◌, ◌++◌, map, filter, length, Option, Some, None, option_map, if◌then◌else◌}
use Rattle.site_plan.specs.Names.{is_claimed}
use Rattle.ledger_turns.specs.Names.{first_names, kept_with}
use Rattle.ledger_boxes.specs.Sights.{Named, Sight, Met, is_folder}

abbrev pub is_due : Named → Bool
is_due entry = is_claimed entry.name && not (is_folder entry.kind)

-- the names that are kept, with one that is met
abbrev pub kept_due : ℕ → List (List ℕ) → Named → List (List ℕ)
kept_due most names entry = if is_due entry then kept_with most names entry.name else names

abbrev pub due_names : List Named → List (List ℕ)
due_names entries = map (λ entry. entry.name) (filter is_due entries)

abbrev pub met : ℕ → List Named → List Sight
met place entries = map (λ entry. Met place (Some entry)) entries

-- These were met in the box of this place, to its end or so many, and of them the first so many that are due are claimed; the others
-- wait.
pub record ListsFrom {B : Type 0} (seen : B → List Sight) (place looks most : ℕ) (names : List (List ℕ)) (old new : B) : Type 0 where
  pub entries : List Named
  pub behind : List Sight
  pub saw : seen new ≡ seen old ++ (met place entries ++ behind)
  pub are_all : (behind ≡ Met place None ∷ []) ⊎ ((behind ≡ []) × (length entries ≡ looks))
  pub are : names ≡ first_names most (due_names entries)
