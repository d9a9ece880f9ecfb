-- The names that are shown of one set more.
use Rattle.std.proofs.Common.{◌≡◌, ℕ, ◌+◌, ◌<◌, ◌≤◌, Bool, true, false, List, [], ◌∷◌, ◌++◌, length, map, take, Option, Some, None, slice_get, sym, ap, ◌∙◌, refl, append_assoc, inl, inr, arith, length-append, lit≤, cond, if◌then◌else◌}
use Rattle.std.specs.{List.{flat_map}, Option.{option_map_or}}
use Rattle.std.proofs.lemmas.{List.{take_more, map-append}, List.Concat.{flat_map-append}, List.Elements.{filter-append}, Option.{slice_get_cases}}
use Rattle.mon_access.specs.declared.account.Account.{Account}
use Rattle.mon_catalogue.specs.{declared.data_set.DataSet.{DataSet}, Sets.{Sets}}
use Rattle.mon_guard.specs.{Deciding.{may_be_shown}, Views.{NamePart, name_part, name_of, names_shown, names_lent}}
use Rattle.mon_command.specs.{Printouts.{name_line}, inner.Names.{one_or_none, shown_at}}

-- the set at a place, alone, if there is one
abbrev alone : Option (List ℕ × DataSet) → Sets
alone named = option_map_or (λ n. n ∷ []) named []

-- it shows its name, or none
alone_shown : (account : Account) (named : Option (List ℕ × DataSet)) → names_lent account (alone named) ≡ one_or_none (name_of account named)
alone_shown account None = refl
alone_shown account (Some named) = by (may_be_shown account named)
  where
    by : (b : Bool) → map name_part (cond b (named ∷ []) []) ≡ one_or_none (if b then Some (name_part named) else None)
    by true = refl
    by false = refl

module _ (account : Account) (sets : Sets) (index : ℕ) (inside : index < length sets) where
  pub sets_more : names_shown account (take (index + 1) sets) ≡ names_shown account (take index sets) ++ names_shown account (alone (slice_get sets index))
  sets_more = elim (slice_get_cases sets index).1 [
    | inl w ↦
        ap (names_shown account) (take_more sets index w.0 inside ∙ ap (λ x. take index sets ++ x ∷ []) w.3)
        ∙ filter-append (may_be_shown account) (take index sets) (w.0 ∷ [])
        ∙ ap (λ (o : Option (List ℕ × DataSet)). names_shown account (take index sets) ++ names_shown account (alone o)) (sym w.2)
    | inr w ↦ absurd (omega arith)
  ]

  shown_more : names_lent account (take (index + 1) sets) ≡ names_lent account (take index sets) ++ shown_at account sets index
  shown_more =
      ap (map name_part) sets_more
      ∙ map-append name_part (names_shown account (take index sets)) (names_shown account (alone (slice_get sets index)))
      ∙ ap (λ shown. names_lent account (take index sets) ++ shown) (alone_shown account (slice_get sets index))

  pub names_more : (start before after : List ℕ) → before ≡ start ++ flat_map name_line (names_lent account (take index sets))
      → after ≡ before ++ flat_map name_line (shown_at account sets index)
      → after ≡ start ++ flat_map name_line (names_lent account (take (index + 1) sets))
  names_more start before after so_far put =
      put ∙ ap (λ text. text ++ flat_map name_line (shown_at account sets index)) so_far
      ∙ append_assoc start (flat_map name_line (names_lent account (take index sets))) (flat_map name_line (shown_at account sets index))
      ∙ ap (λ text. start ++ text) (sym (flat_map-append name_line (names_lent account (take index sets)) (shown_at account sets index)))
      ∙ ap (λ shown. start ++ flat_map name_line shown) (sym shown_more)

  pub count_more : (count more : ℕ) → count ≡ length (names_lent account (take index sets)) → more ≡ length (shown_at account sets index)
      → count + more ≡ length (names_lent account (take (index + 1) sets))
  count_more count more so_far here =
      let whole : length (names_lent account (take (index + 1) sets)) ≡ length (names_lent account (take index sets) ++ shown_at account sets index) = ap length shown_more in
      omega (arith, length-append (names_lent account (take index sets)) (shown_at account sets index))

at_most_one : (shown : Option NamePart) → length (one_or_none shown) ≤ 1
at_most_one None = lit≤ tt
at_most_one (Some shown) = lit≤ tt

pub few_more : (account : Account) (sets : Sets) (index count more : ℕ) → count ≤ index → more ≡ length (shown_at account sets index) → count + more ≤ index + 1
few_more account sets index count more few here = omega (arith, at_most_one (name_of account (slice_get sets index)))
