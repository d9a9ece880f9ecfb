-- The lines of the data sets that are shown: one more set.
use Rattle.std.proofs.Common.{◌≡◌, ℕ, ◌+◌, ◌<◌, List, [], ◌∷◌, ◌++◌, length, take, Option, Some, None, refl, sym, ap, ◌∙◌, append-nil, true≢false, cond, codes}
use Rattle.std.{specs.Prelude.{◌↔◌, IsSome, option_map}, specs.List.{flat_map}, specs.Option.{option_map_or}, proofs.lemmas.List.Concat.{flat_map-append}}
use Rattle.mon_acl.specs.Permissions.{to_execute}
use Rattle.mon_access.specs.declared.{account.Account.{Account}, access.Decision.{Decision}, access.Decision.TheVariants.{Granted, Denied}}
use Rattle.mon_catalogue.specs.{declared.data_set.DataSet.{DataSet}, Sets.{Sets}}
use Rattle.interaction.specs.declared.answer.Reason.{Reason}
use Rattle.mon_guard.specs.{Deciding.{decision_on, is_granted}, Views.{names_shown}}
use Rattle.mon_command.{specs.Printouts.{word}, proofs.Names.{sets_more}}
use Rattle.audit.specs.{declared.grants.Grant.TheVariants.{ByEntry}, Words.{command_line}, Grants.{granting_entry, granted_words}, Catalogs.{shown_line}}
use Rattle.audit.specs.{inner.Parts.{entry_line, set_at_index}, Laws.{EntriesAreNamed}}

module _ (law : EntriesAreNamed) (by : List ℕ) (account : Account) (name : List ℕ) (set : DataSet) where
  -- what is put of a set by the entry that grants x, if one does
  abbrev put_line : Option Reason → List ℕ
  put_line entry = option_map_or (entry_line by name) entry []

  -- its line, where it is shown
  abbrev line_with : Option Reason → List ℕ
  line_with entry = command_line by (codes " CATALOG SHOWN" ++ word name ++ granted_words (option_map ByEntry entry))

  abbrev lines_if : Decision → List ℕ
  lines_if decision = flat_map (shown_line by account) (cond (is_granted decision) ((name, set) ∷ []) [])

  decided_is : (d : Decision) (entry : Option Reason) → (d ≡ Granted) ↔ IsSome entry → line_with entry ≡ shown_line by account (name, set) → put_line entry ≡ lines_if d
  decided_is Granted (Some reason) named line = sym (append-nil (entry_line by name reason)) ∙ ap (λ (l : List ℕ). l ++ []) line
  decided_is Granted None named line = absurd (true≢false (sym (named.0 refl)))
  decided_is (Denied decider) (Some reason) named line = let wrong : Denied decider ≡ Granted = named.1 refl in absurd (cc (wrong))
  decided_is (Denied decider) None named line = refl

  pub shown_is : (entry : Option Reason) → entry ≡ granting_entry account set to_execute
      → put_line entry ≡ flat_map (shown_line by account) (names_shown account ((name, set) ∷ []))
  shown_is entry is =
      ap put_line is ∙ decided_is (decision_on account set to_execute) (granting_entry account set to_execute) (law account set to_execute) refl

module _ (by : List ℕ) (account : Account) (sets : Sets) (index : ℕ) (inside : index < length sets) where
  pub lines_more : flat_map (shown_line by account) (names_shown account (take index sets)) ++ flat_map (shown_line by account) (names_shown account (set_at_index sets index))
      ≡ flat_map (shown_line by account) (names_shown account (take (index + 1) sets))
  lines_more =
      sym (ap (flat_map (shown_line by account)) (sets_more account sets index inside)
      ∙ flat_map-append (shown_line by account) (names_shown account (take index sets)) (names_shown account (set_at_index sets index)))
