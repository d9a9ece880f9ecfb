-- The data sets that cards speak of (own), and how many they may make.
use Rattle.std.specs.Prelude.{ℕ, nat_eq, ◌+◌, Bool, true, false, List, [], ◌∷◌, filter}
use Rattle.std.specs.List.{list_any}
use Rattle.std.specs.Cmp.Lexicographic.{pointwise}
use Rattle.mon_catalogue.specs.Sets.{Sets}
use Rattle.deck_lines.specs.declared.command.Command.{Command}
use Rattle.deck_lines.specs.declared.command.Command.TheVariants.{Create, Delete, SetAcl, ShowAcl, List as Listing, Catalog}
use Rattle.deck_syntax.specs.declared.job_deck.UnitCard.{UnitCard}
use Rattle.mon_monitor.specs.Events.{Event, Serve, Load, Give, Drain}

-- the data sets whose names pass
abbrev pub of_names : (List ℕ → Bool) → Sets → Sets
of_names p sets = filter (λ named. p named.0) sets

-- whether a command speaks of a name; $CATALOG speaks of all
abbrev pub command_names : Command → List ℕ → Bool
command_names (Create _ name mode) other = pointwise nat_eq name other
command_names (Delete _ name) other = pointwise nat_eq name other
command_names (SetAcl _ name text) other = pointwise nat_eq name other
command_names (ShowAcl _ name) other = pointwise nat_eq name other
command_names (Listing _ name) other = pointwise nat_eq name other
command_names (Catalog _) other = true

-- a job speaks of the data sets that its $UNIT cards name
abbrev pub tied_by_cards : List UnitCard → List ℕ → Bool
tied_by_cards cards other = list_any (λ card. pointwise nat_eq card.set other) cards

abbrev pub event_names : Event → List ℕ → Bool
event_names (Serve command) other = command_names command other
event_names (Load deck) other = tied_by_cards deck.ties other
event_names (Give slot count) other = false
event_names Drain other = false

-- whether any of these events does
abbrev pub speak_of : List Event → List ℕ → Bool
speak_of events other = list_any (λ event. event_names event other) events

-- how many data sets a command may make, and events
abbrev pub command_makes : Command → ℕ
command_makes (Create _ name mode) = 1
command_makes (Delete _ name) = 0
command_makes (SetAcl _ name text) = 0
command_makes (ShowAcl _ name) = 0
command_makes (Listing _ name) = 0
command_makes (Catalog _) = 0

abbrev pub event_makes : Event → ℕ
event_makes (Serve command) = command_makes command
event_makes (Load deck) = 0
event_makes (Give slot count) = 0
event_makes Drain = 0

abbrev pub makes : List Event → ℕ
makes [] = 0
makes (event ∷ events) = event_makes event + makes events
