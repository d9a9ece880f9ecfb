-- What an item of a table is found by (the SNOBOL4 book, chapter 6; which values may be keys is own).
use Rattle.std.specs.Prelude.{ℕ, nat_eq, Bool, false, ◌&&◌, List, Option, Some, None, option_map}
use Rattle.std.specs.Ordering.{int_eq}
use Rattle.std.specs.Cmp.Lexicographic.{pointwise}
use Rattle.sno_value.specs.declared.value.Value.{Value}
use Rattle.sno_value.specs.declared.value.Value.TheVariants.{Text, Integer, Table}
use Rattle.sno_value.specs.declared.key.Key.{Key}
use Rattle.sno_value.specs.declared.key.Key.TheVariants as key
use Rattle.sno_value.specs.declared.key.Place.{Place}

-- the key that a value is: a string, an integer or a table
abbrev pub key_of : Value → Option Key
key_of value = elim value [ Text t ↦ Some (key.Text t) | Integer i ↦ Some (key.Integer i) | Table n ↦ Some (key.Table n) | _ ↦ None ]

-- the value of a key
abbrev pub value_of : Key → Value
value_of (key.Text t) = Text t
value_of (key.Integer i) = Integer i
value_of (key.Table n) = Table n

-- keys of one type that are equal; the null string, `1` and `'1'` are three
abbrev pub same_key : Key → Key → Bool
same_key (key.Text s) (key.Text t) = pointwise nat_eq s t
same_key (key.Integer m) (key.Integer n) = int_eq m n
same_key (key.Table m) (key.Table n) = nat_eq m n
same_key _ _ = false

abbrev pub same_place : Place → Place → Bool
same_place p q = nat_eq p.table q.table && same_key p.key q.key

-- the place that a table and a key are, if they are such
abbrev pub place_of : Value → Value → Option Place
place_of it v = elim it [ Table n ↦ option_map (λ k. record { table = n; key = k }) (key_of v) | _ ↦ None ]
