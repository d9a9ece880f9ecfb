-- What a record says is read of its fields.
use Rattle.std.proofs.Common.{◌≡◌, ℕ, ◌+◌, ◌-◌, ◌*◌, ◌/◌, ◌%◌, ◌^◌, ◌<◌, ◌≤◌, Bool, true, ◌&&◌, nat_le, List, [], ◌∷◌, ◌++◌, length, Option, Some, None, if◌then◌else◌, refl, ap, ◌∙◌, option_map, arith}
use Rattle.std.specs.{Prelude.{decimal, codes}, Option.{option_and_then}, List.{list_all}}
use Rattle.std.proofs.lemmas.{Fmt.{decimal_by_steps, decimal_nonempty, length-decimal-le}, List.Folds.{list_all-append}}
use borrow.Author.Tests.{le-leb}
use Rattle.mon_text.{specs.Characters.{is_digit}, specs.Counts.{is_count, value_of}, proofs.Digits.{read_on}}
use Rattle.ledger_text.specs.Records.{Said, Took, Refused, Ran, Audit, Keep, Set, Gone, Dropped, Gave, Tables, Checked, Edit, count_of, short_of, long_of, set_of, file_with, file_of, rest_of, timed, said_of, ReadsRecords}

-- ---- the digits of a number, and their value

abbrev AreDigitsOf : ℕ → List ℕ → Type 0
AreDigitsOf n ds = (list_all is_digit ds ≡ true) × (value_of ds ≡ n)

read_on_push : (so_far : ℕ) (ds : List ℕ) (c : ℕ) → read_on so_far (ds ++ c ∷ []) ≡ 10 * read_on so_far ds + (c - 48)
read_on_push so_far [] c = refl
read_on_push so_far (d ∷ ds) c = read_on_push (10 * so_far + (d - 48)) ds c

is_digit_of : (n : ℕ) → n < 10 → is_digit (48 + n) ≡ true
is_digit_of n small = ap (λ (b : Bool). b && nat_le (48 + n) 57) (le-leb 48 (48 + n) (omega arith)) ∙ le-leb (48 + n) 57 (omega arith)

one_digit : (n : ℕ) → n < 10 → AreDigitsOf n ((48 + n) ∷ [])
one_digit n small = (ap (λ (b : Bool). b && true) (is_digit_of n small), omega arith)

one_more_digit : (n : ℕ) (ds : List ℕ) → 10 ≤ n → AreDigitsOf (n / 10) ds → AreDigitsOf n (ds ++ (48 + n % 10) ∷ [])
one_more_digit n ds large (digits, value) = (
  list_all-append is_digit ds ((48 + n % 10) ∷ [])
      ∙ ap (λ (b : Bool). b && (is_digit (48 + n % 10) && true)) digits
      ∙ ap (λ (b : Bool). b && true) (is_digit_of (n % 10) (omega arith)),
  read_on_push 0 ds (48 + n % 10) ∙ omega (arith, value),
)

module _ (n : ℕ) (fits : n < 2 ^ 63) where
  fits_word : n < 2 ^ 64
  fits_word = omega arith

  few : n < 10 ^ 19
  few = omega arith

  digits : AreDigitsOf n (decimal n)
  digits = decimal_by_steps AreDigitsOf one_digit one_more_digit n fits_word

  is_count_of : is_count (decimal n) ≡ true
  is_count_of =
      ap (λ (b : Bool). b && nat_le 1 (length (decimal n)) && nat_le (length (decimal n)) 19) digits.0
      ∙ ap (λ (b : Bool). b && nat_le (length (decimal n)) 19) (le-leb 1 (length (decimal n)) (decimal_nonempty n fits_word))
      ∙ le-leb (length (decimal n)) 19 (length-decimal-le 19 n (omega arith) few fits_word)

  count_back : count_of (decimal n) ≡ Some n
  count_back = ap (λ (b : Bool). if b then Some (value_of (decimal n)) else None) is_count_of ∙ ap (λ (v : ℕ). Some v) digits.1

-- ---- records

at_time : (time : ℕ) (said : Said) (kind : List ℕ) (rest : List (List ℕ)) → time < 2 ^ 63 → rest_of kind rest ≡ Some said
    → said_of (kind ∷ decimal time ∷ rest) ≡ Some (time, said)
at_time time said kind rest fits is = ap (option_and_then (timed (rest_of kind rest))) (count_back time fits) ∙ ap (λ (s : Option Said). timed s time) is

pub reads_records : ReadsRecords
reads_records time (Took n account uid name text) early fit =
    at_time time (Took n account uid name text) (codes "TOOK") (decimal n ∷ account ∷ decimal uid ∷ name ∷ text ∷ []) early
    (ap (option_and_then (λ (m : ℕ). file_of (codes "TOOK") m account (decimal uid) name text)) (count_back n fit.0)
    ∙ ap (option_and_then (file_with (codes "TOOK") n account name text)) (count_back uid fit.1.0))
reads_records time (Refused n account uid name reply) early fit =
    at_time time (Refused n account uid name reply) (codes "REFUSED") (decimal n ∷ account ∷ decimal uid ∷ name ∷ reply ∷ []) early
    (ap (option_and_then (λ (m : ℕ). file_of (codes "REFUSED") m account (decimal uid) name reply)) (count_back n fit.0)
    ∙ ap (option_and_then (file_with (codes "REFUSED") n account name reply)) (count_back uid fit.1.0))
reads_records time (Ran n printout) early fit =
    at_time time (Ran n printout) (codes "RAN") (decimal n ∷ printout ∷ []) early (ap (option_and_then (λ (m : ℕ). short_of (codes "RAN") m printout)) (count_back n fit.0))
reads_records time (Audit n lines) early fit =
    at_time time (Audit n lines) (codes "AUDIT") (decimal n ∷ lines ∷ []) early (ap (option_and_then (λ (m : ℕ). short_of (codes "AUDIT") m lines)) (count_back n fit.0))
reads_records time (Keep n set first records) early fit =
    at_time time (Keep n set first records) (codes "KEEP") (decimal n ∷ set ∷ decimal first ∷ records ∷ []) early
    (ap (option_and_then (λ (m : ℕ). set_of (codes "KEEP") m set (decimal first) records)) (count_back n fit.0)
    ∙ ap (option_map (λ (f : ℕ). Keep n set f records)) (count_back first fit.1.0))
reads_records time (Set n set head records) early fit =
    at_time time (Set n set head records) (codes "SET") (decimal n ∷ set ∷ head ∷ records ∷ []) early
    (ap (option_and_then (λ (m : ℕ). set_of (codes "SET") m set head records)) (count_back n fit.0))
reads_records time (Gone n set) early fit =
    at_time time (Gone n set) (codes "GONE") (decimal n ∷ set ∷ []) early (ap (option_and_then (λ (m : ℕ). short_of (codes "GONE") m set)) (count_back n fit.0))
reads_records time (Dropped n reason reply) early fit =
    at_time time (Dropped n reason reply) (codes "DROPPED") (decimal n ∷ reason ∷ reply ∷ []) early
    (ap (option_and_then (λ (m : ℕ). long_of (codes "DROPPED") m reason reply)) (count_back n fit.0))
reads_records time (Gave first last) early fit =
    at_time time (Gave first last) (codes "GAVE") (decimal first ∷ decimal last ∷ []) early
    (ap (option_and_then (λ (m : ℕ). short_of (codes "GAVE") m (decimal last))) (count_back first fit.0) ∙ ap (option_map (Gave first)) (count_back last fit.1.0))
reads_records time (Tables tables) early fit = at_time time (Tables tables) (codes "TABLES") (tables ∷ []) early refl
reads_records time (Checked count digest) early fit =
    at_time time (Checked count digest) (codes "CHECKED") (decimal count ∷ digest ∷ []) early
    (ap (option_and_then (λ (m : ℕ). short_of (codes "CHECKED") m digest)) (count_back count fit.0))
reads_records time (Edit who act) early fit = at_time time (Edit who act) (codes "EDIT") (who ∷ act ∷ []) early refl
