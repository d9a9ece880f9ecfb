-- Items of tables (own): they have no associations.
use Rattle.std.specs.Prelude.{Bool, false, not, ◌&&◌, Option, Some, None}
use Rattle.sno_value.specs.declared.value.Value.{Value}
use Rattle.sno_value.specs.Values.{null}
use Rattle.sno_value.specs.declared.outcome.Outcome.{Outcome}
use Rattle.sno_value.specs.declared.outcome.Outcome.TheVariants as outcome
use Rattle.sno_value.specs.Memory.{has_shared}
use Rattle.sno_value.specs.declared.key.Place.{Place}
use Rattle.sno_value.specs.Outcomes.{or_wrong_type}
use Rattle.sno_value.specs.Keys.{place_of}
use Rattle.sno_value.specs.Tables.{item_of, is_set, has_room}
use Rattle.sno_semantics.specs.declared.got.Evaluated.{Evaluated}
use Rattle.sno_store.specs.declared.store.Store.{Store as State}
use Rattle.sno_store.specs.States as states
use Rattle.sno_state.specs.Asking.{changed_by}

-- an item, by what is a table and what is a key
abbrev pub item : Value → Value → State → Outcome
item table key s = or_wrong_type (place_of table key) (λ p. outcome.Gives (item_of p s.tables))

-- it is set
abbrev pub item_set : Value → Value → Value → State → Evaluated × State
item_set table key v s = changed_by null (states.with_item_set table key v s) s

-- Where reading an item may take memory, and where setting one may: its value is shared; it was not set before, and there is room.
abbrev pub gives_shared : Outcome → Bool
gives_shared (outcome.Gives v) = has_shared v
gives_shared outcome.Fails = false
gives_shared (outcome.Faults f) = false

abbrev pub may_grow : Option Place → State → Bool
may_grow None s = false
may_grow (Some place) s = not (is_set place s.tables) && has_room place s.tables
