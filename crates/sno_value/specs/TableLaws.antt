-- Laws of tables.
use Rattle.std.specs.Prelude.{◌≡◌, true, false, Option, Some}
use Rattle.sno_value.specs.declared.value.Value.{Value}
use Rattle.sno_value.specs.Primitives.{are_identical}
use Rattle.sno_value.specs.declared.key.Key.{Key}
use Rattle.sno_value.specs.declared.key.Place.{Place}
use Rattle.sno_value.specs.Keys.{key_of, same_key, same_place}
use Rattle.sno_value.specs.Tables.{Tables, item_of, put}

-- keys are the same where IDENT holds of their values
abbrev pub SameWhereIdentical : Type 0
SameWhereIdentical = (a b : Value) (k l : Key) → key_of a ≡ Some k → key_of b ≡ Some l → are_identical a b ≡ Some (same_key k l)

-- what was set is found
abbrev pub SetIsFound : Type 0
SetIsFound = (p : Place) (v : Value) (ts : Tables) → item_of p (put p v ts) ≡ v

-- and the other items stay as they are
abbrev pub OthersStay : Type 0
OthersStay = (p q : Place) (v : Value) (ts : Tables) → same_place q p ≡ false → item_of q (put p v ts) ≡ item_of q ts
