-- What is left of records, and what is written behind it, are records.
use Rattle.std.proofs.Common.{◌≡◌, ℕ, ◌-◌, ◌^◌, ◌<◌, ◌≤◌, Option, None, Some, Bool, true, false, ◌&&◌, List, [], ◌∷◌, ◌++◌, length, refl, sym, ap, ◌∙◌, arith}
use Rattle.std.specs.{Prelude.{IsTrue, take, drop, IfSome, slice_get}, List.{list_all}, Option.{option_map}}
use Rattle.std.proofs.lemmas.{Option.{slice_get_within}, List.{take-append-drop, length-take, length-append}, Bool.{le-leb}, List.Folds.{list_all-append}}
use Rattle.mon_catalogue.specs.Records.{is_record, AreRecords}

first_of : (a b : Bool) → (a && b) ≡ true → a ≡ true
first_of true b = λ e. refl
first_of false b = λ e. e

all_taken : (p : ℕ) (records : List (List ℕ)) → IsTrue (list_all is_record records) → IsTrue (list_all is_record (take p records))
all_taken p records all =
    first_of (list_all is_record (take p records)) (list_all is_record (drop p records))
    (sym (list_all-append is_record (take p records) (drop p records)) ∙ ap (list_all is_record) (take-append-drop p records) ∙ all)

pub still_records : (p : ℕ) (records : List (List ℕ)) → AreRecords records → AreRecords (take p records)
still_records p records are = (omega (arith, length-take p records, are.0), all_taken p records are.1)

both : (a b : Bool) → a ≡ true → b ≡ true → (a && b) ≡ true
both a b is also = ap (λ (x : Bool). x && b) is ∙ also

all_put : (line : List ℕ) (records : List (List ℕ)) → length line ≤ 1024 → IsTrue (list_all is_record records)
    → IsTrue (list_all is_record (records ++ line ∷ []))
all_put line records short all =
    list_all-append is_record records (line ∷ [])
    ∙ both (list_all is_record records) (list_all is_record (line ∷ [])) all (both (is_record line) true (le-leb (length line) 1024 short) refl)

-- a line in the place of what stood at a position and behind it
pub still_records_put : (p : ℕ) (line : List ℕ) (records : List (List ℕ)) → p < length records → length line ≤ 1024 → AreRecords records
    → AreRecords (take p records ++ line ∷ [])
still_records_put p line records within short are =
    (omega (arith, length-take p records, are.0, within, length-append (take p records) (line ∷ [])), all_put line (take p records) short (all_taken p records are.1))

-- a record that was found stands below the most that there may be
pub found_within : {X : Type 0} (seen : X → List ℕ) (records : List (List ℕ)) (index : ℕ) (found : Option X) → option_map seen found ≡ slice_get records index → AreRecords records
    → IfSome found (λ _. index < 2 ^ 64 - 1)
found_within seen records index None is are = tt
found_within seen records index (Some x) is are = omega (arith, slice_get_within records index (seen x) (sym is), are.0)
