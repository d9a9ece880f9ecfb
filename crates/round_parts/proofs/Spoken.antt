-- A text speaks of the names that are read from its cards.
use Rattle.std.proofs.Common.{◌≡◌, ℕ, suc, ◌+◌, nat_eq, Bool, true, false, List, [], ◌∷◌, ◌++◌, refl, sym, ap, ◌∙◌, map, append-nil}
use Rattle.std.specs.{Prelude.{◌||◌}, List.{list_any}, Cmp.Lexicographic.{pointwise}}
use Rattle.std.proofs.lemmas.List.{Folds.{list_any-append}, Concat.{flat_map-append}}
use Rattle.deck_lines.specs.declared.command.Command.{Command, TheVariants.{Create, Delete, SetAcl, ShowAcl, List as Listing, Catalog}}
use Rattle.deck_syntax.specs.{declared.job_deck.UnitCard.{UnitCard}, Decks.{Asked, Commands, Enters, Gives, Drains}}
use Rattle.deck_driver.specs.RunStates.{events_of}
use Rattle.deck_run.specs.Laws.{jobs_in}
use Rattle.preflight.specs.Rounds.{Handed}
use Rattle.parts_laws.specs.Runs.{Split, GoWithNames}
use Rattle.parts.specs.{Splits.{speaks}, declared.text.Text.{Text}}
use Rattle.parts.specs.Splits as splits
use Rattle.text_names.specs.Names as read
use Rattle.text_names.specs.Names.{names_of, is_of_all, names_in, asks_all, Speaks}
use Rattle.frame_laws.specs.Naming.{command_names, tied_by_cards, speak_of}
use Rattle.rounds.specs.InParts.{numbered}
use Rattle.round_parts.specs.Names.{AreRead, NamesAreSpoken}

or_false : (a : Bool) → (a || false) ≡ a
or_false true = refl
or_false false = refl

or_or : (k n a m : Bool) → ((k || n) || (a || m)) ≡ ((k || a) || (n || m))
or_or true n a m = refl
or_or false true true m = refl
or_or false true false m = refl
or_or false false a m = refl

module _ (other : List ℕ) where
  abbrev is_it : List ℕ → Bool
  is_it name = pointwise nat_eq name other

  -- a card, by the names that are read from it
  abbrev has : Bool → List (List ℕ) → Bool
  has all names = all || list_any is_it names

  of_command : (command : Command) → command_names command other ≡ has (read.is_catalog command) (read.command_names command)
  of_command (Create by name mode) = sym (or_false (is_it name))
  of_command (Delete by name) = sym (or_false (is_it name))
  of_command (SetAcl by name text) = sym (or_false (is_it name))
  of_command (ShowAcl by name) = sym (or_false (is_it name))
  of_command (Listing by name) = sym (or_false (is_it name))
  of_command (Catalog by) = refl

  of_ties : (cards : List UnitCard) → tied_by_cards cards other ≡ list_any is_it (map (λ card. card.set) cards)
  of_ties [] = refl
  of_ties (card ∷ cards) = ap (λ (b : Bool). is_it card.set || b) (of_ties cards)

  -- what one asks for, and then others
  one_more : (one : Asked) (asked : List Asked) (here rest : Bool) → here ≡ has (is_of_all one) (names_of one) → rest ≡ has (asks_all asked) (names_in asked)
      → (here || rest) ≡ has (asks_all (one ∷ asked)) (names_in (one ∷ asked))
  one_more one asked here rest first later =
      ap (λ (b : Bool). b || rest) first
      ∙ ap (λ (b : Bool). has (is_of_all one) (names_of one) || b) later
      ∙ or_or (is_of_all one) (list_any is_it (names_of one)) (asks_all asked) (list_any is_it (names_in asked))
      ∙ ap (λ (b : Bool). (is_of_all one || asks_all asked) || b) (sym (list_any-append is_it (names_of one) (names_in asked)))

  all_spoken : (k : ℕ) (asked : List Asked) → speak_of (events_of k asked) other ≡ has (asks_all asked) (names_in asked)
  all_spoken k [] = refl
  all_spoken k (Commands command ∷ asked) =
      one_more (Commands command) asked (command_names command other) (speak_of (events_of k asked) other) (of_command command) (all_spoken k asked)
  all_spoken k (Enters job ∷ asked) =
      one_more (Enters job) asked (tied_by_cards job.ties other) (speak_of (events_of (suc k) asked) other) (of_ties job.ties) (all_spoken (suc k) asked)
  all_spoken k (Gives turn ∷ asked) = one_more (Gives turn) asked false (speak_of (events_of k asked) other) refl (all_spoken k asked)
  all_spoken k (Drains ∷ asked) = one_more Drains asked false (speak_of (events_of k asked) other) refl (all_spoken k asked)

  -- with a drain behind it
  fenced : (asked : List Asked) → has (asks_all (asked ++ Drains ∷ [])) (names_in (asked ++ Drains ∷ [])) ≡ has (asks_all asked) (names_in asked)
  fenced asked =
      ap (λ (b : Bool). b || list_any is_it (names_in (asked ++ Drains ∷ []))) (list_any-append is_of_all asked (Drains ∷ []) ∙ or_false (asks_all asked))
      ∙ ap (λ (l : List (List ℕ)). has (asks_all asked) l) (flat_map-append names_of asked (Drains ∷ []) ∙ append-nil (names_in asked))

pub names_are_spoken : NamesAreSpoken
names_are_spoken text handed jobs other read_so =
    all_spoken other (suc jobs) (handed.asked ++ Drains ∷ [])
    ∙ fenced other handed.asked
    ∙ ap (λ (b : Bool). b || list_any (is_it other) (names_in handed.asked)) (sym read_so.all_is)
    ∙ ap (λ (l : List (List ℕ)). has other text.all l) (sym read_so.names_are)

-- a split of the texts as they were read is one of the round's
pub go_read : (split : Split (List ℕ)) (n jobs : ℕ) (texts : List Text) (handed : List Handed) → AreRead n texts handed
    → GoWithNames speaks split (map splits.numbered texts) → GoWithNames speak_of split (numbered n jobs handed)
go_read split n jobs [] [] are go = tt
go_read split n jobs [] (one ∷ handed) are go = absurd are
go_read split n jobs (text ∷ texts) [] are go = absurd are
go_read split n jobs (text ∷ texts) (one ∷ handed) (number, read_so, are) (here, go) = (
  λ other spoken. here other (sym (names_are_spoken text one jobs other read_so) ∙ spoken) ∙ ap split.of_text number,
  go_read split (suc n) (jobs + jobs_in one.asked) texts handed are go,
)
