-- The definitions at worked cases.
use Rattle.std.proofs.Common.{◌≡◌, [], ◌∷◌, refl, pos, negsuc, codes}
use Rattle.std.specs.{Prelude.{Some, None}, Fmt.{digits}}
use Rattle.sno_text.specs.Patterns as pattern
use Rattle.sno_text.specs.declared.fault.Fault.TheVariants.{WrongType, Arithmetic, Null, Negative, Length}
use Rattle.sno_value.specs.declared.{value.Value.TheVariants.{Text, Integer, Pattern, Unevaluated}, outcome.Outcome.TheVariants.{Gives, Fails, Faults}}
use Rattle.sno_value.specs.declared.{calculating.Operation.TheVariants.{Quotient, Power}, primitive.Comparison.TheVariants.{Less}}
use Rattle.sno_value.specs.declared.primitive.{NumberPattern.TheVariants.{Len}, CharacterPattern.TheVariants.{Span}}
use Rattle.sno_value.specs.{Values.{null, number_of}, Operators.{concatenation, arithmetic, negation}, Primitives.{primitive_gives, primitive_named, applied}}
use Rattle.sno_value.specs.declared.primitive.Primitive.TheVariants as primitive

-- 7 / 2 is 3, and -7 / 2 is -3
rounds_toward_zero : arithmetic Quotient (Integer (pos 7)) (Text (codes "2")) ≡ Gives (Integer (pos 3))
rounds_toward_zero = refl

negative_too : arithmetic Quotient (Integer (negsuc 6)) (Integer (pos 2)) ≡ Gives (Integer (negsuc 2))
negative_too = refl

no_zero_divisor : arithmetic Quotient (Integer (pos 7)) null ≡ Faults Arithmetic
no_zero_divisor = refl

powers : arithmetic Power (Integer (pos 2)) (Integer (pos 9)) ≡ Gives (Integer (pos 512))
powers = refl

zero_to_zero : arithmetic Power (Integer (pos 0)) (Integer (pos 0)) ≡ Gives (Integer (pos 1))
zero_to_zero = refl

no_negative_exponent : arithmetic Power (Integer (pos 1)) (Integer (negsuc 0)) ≡ Faults Arithmetic
no_negative_exponent = refl

no_positive_least : negation (Integer (negsuc 9223372036854775807)) ≡ Faults Arithmetic
no_positive_least = refl

least_is_written : number_of (Text (codes "-0009223372036854775808")) ≡ Some (negsuc 9223372036854775807)
least_is_written = refl

sign_without_digits : number_of (Text (codes "+")) ≡ None
sign_without_digits = refl

null_changes_nothing : concatenation 0 (Integer (pos 1)) null ≡ Gives (Integer (pos 1))
null_changes_nothing = refl

integers_give_a_string : concatenation 2 (Integer (pos 1)) (Integer (pos 2)) ≡ Gives (Text (codes "12"))
unfolding digits
integers_give_a_string = refl

too_long_together : concatenation 1 (Integer (pos 1)) (Integer (pos 2)) ≡ Faults Length
unfolding digits
too_long_together = refl

with_what_is_not_evaluated : concatenation 0 (Text (codes "A")) (Unevaluated (codes "X")) ≡ Gives (Pattern (pattern.Cat (pattern.Text (codes "A")) (pattern.Defer (codes "X"))))
with_what_is_not_evaluated = refl

one_and_its_text_differ : applied primitive.Identical (Integer (pos 1)) (Text (codes "1")) null 0 ≡ Fails
one_and_its_text_differ = refl

patterns_are_not_compared : applied primitive.Identical (Pattern pattern.Arb) (Pattern pattern.Arb) null 0 ≡ Faults WrongType
patterns_are_not_compared = refl

rightmost_counts : applied primitive.Replace (Text (codes "BANANA")) (Text (codes "ANA")) (Text (codes "123")) 0 ≡ Gives (Text (codes "B32323"))
rightmost_counts = refl

not_as_many : applied primitive.Replace (Text (codes "AB")) (Text (codes "A")) null 0 ≡ Fails
not_as_many = refl

never_many : applied primitive.Duplicate null (Integer (pos 12)) null 5 ≡ Gives null
never_many = refl

no_negative_length : applied (primitive.OfNumber Len) (Text (codes "-1")) null null 0 ≡ Faults Negative
no_negative_length = refl

of_no_characters : applied (primitive.OfCharacters Span) null null null 0 ≡ Faults Null
of_no_characters = refl

further_arguments_are_dropped : primitive_gives (primitive.Compare Less) (Integer (pos 1) ∷ Integer (pos 2) ∷ Pattern pattern.Arb ∷ []) 0 ≡ Gives null
further_arguments_are_dropped = refl

missing_ones_are_null : primitive_gives primitive.Size [] 0 ≡ Gives (Integer (pos 0))
missing_ones_are_null = refl

found_by_its_name : primitive_named (codes "LEN") ≡ Some (primitive.OfNumber Len)
found_by_its_name = refl

small_letters_name_none : primitive_named (codes "len") ≡ None
small_letters_name_none = refl
