-- The tables of a job (the SNOBOL4 book, chapter 6; the limits are own).
use Rattle.std.specs.Prelude.{◌≡◌, ℕ, ◌+◌, nat_lt, Bool, List, ◌||◌, length, Option, Some, None, is_some, unwrap_or, Result, Ok, Err, if◌then◌else◌}
use Rattle.std.specs.Map.{lookup}
use Rattle.indexmap.specs.IndexMap.{insert_entry}
use Rattle.sno_text.specs.declared.fault.Fault.{Fault}
use Rattle.sno_text.specs.declared.fault.Fault.TheVariants.{Length}
use Rattle.sno_value.specs.declared.value.Value.{Value}
use Rattle.sno_value.specs.Values.{null}
use Rattle.sno_value.specs.declared.key.Place.{Place}
use Rattle.sno_value.specs.Keys.{same_place}

-- how many tables were made, and the items that were set, of all of them together
pub record Tables : Type 0 where
  pub count : ℕ
  pub items : List (Place × Value)

abbrev pub is_set : Place → Tables → Bool
is_set place ts = is_some (lookup (same_place place) ts.items)

-- an item that was not set is null
abbrev pub item_of : Place → Tables → Value
item_of place ts = unwrap_or (lookup (same_place place) ts.items) null

-- one more table, whose number is how many there were before
abbrev pub with_table : Tables → Result Tables Fault
with_table ts = if nat_lt ts.count 10000 then Ok (record ts { count = ts.count + 1 }) else Err Length

-- the number of the table that was made
abbrev pub Made : Result ℕ Fault → Tables → Tables → Type 0
Made (Ok number) old new = (number ≡ old.count) × (with_table old ≡ Ok new)
Made (Err fault) old new = (with_table old ≡ Err fault) × (new ≡ old)

abbrev pub put : Place → Value → Tables → Tables
put place v ts = record ts { items = insert_entry same_place ts.items place v }

-- an item is set, as long as there is room for one more or it was set before
abbrev pub has_room : Place → Tables → Bool
has_room place ts = nat_lt (length ts.items) 100000 || is_set place ts

abbrev pub with_item : Place → Value → Tables → Result Tables Fault
with_item place v ts = if has_room place ts then Ok (put place v ts) else Err Length
