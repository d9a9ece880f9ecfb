-- What is written of changes does what they do; cut off it does nothing.
use Rattle.std.proofs.Common.{◌≡◌, ℕ, ◌<◌, ◌^◌, List, [], ◌∷◌, map, Option, Some, None, refl, ap, ◌∙◌, arith}
use Rattle.std.specs.{Option.{option_and_then}, List.{AllByRecursion}}
use Rattle.ledger_text.specs.{Text.{commit_of, AreShort, ReadsBack, RefusesParts}, Records.{Said, fields_of, said_of, numbers_of, ReadsRecords}}
use Rattle.ledger_sets.specs.{Changes.{said_text, change_text}, Applying.{Site, after_said, after_all, after_timed, after_field, after_fields, after_change}}
use Rattle.ledger_sets.specs.Laws.{TextsLead, PartsAreRefused}

-- a text that is not empty
read : (text : List ℕ) (fields : List (List ℕ)) (site : Site) → commit_of text ≡ Some fields → after_change text site ≡ after_fields fields site
read [] fields site is = absurd (cc (is))
read (c ∷ text) fields site is = ap (option_and_then (λ fields. after_fields fields site)) is

module _ (reads_back : ReadsBack) (reads_records : ReadsRecords) where
  field_is : (said : Said) (site : Site) → AllByRecursion (λ n. n < 2 ^ 63) (numbers_of said) → AreShort (fields_of 0 said)
      → after_field (said_text said) site ≡ after_said said site
  field_is said site small short =
      ap (λ (o : Option (List (List ℕ))). after_timed (option_and_then said_of o) site) (reads_back (fields_of 0 said) short)
      ∙ ap (λ (o : Option (ℕ × Said)). after_timed o site) (reads_records 0 said (omega arith) small)

  fields_are : (changes : List Said) (site : Site) → AllByRecursion (λ said. AllByRecursion (λ n. n < 2 ^ 63) (numbers_of said)) changes
      → AllByRecursion (λ said. AreShort (fields_of 0 said)) changes → after_fields (map said_text changes) site ≡ after_all changes site
  fields_are [] site small short = refl
  fields_are (said ∷ changes) site small short =
      ap (option_and_then (after_fields (map said_text changes))) (field_is said site small.0 short.0) ∙ by (after_said said site) (λ next. fields_are changes next small.1 short.1)
    where
      by : (o : Option Site) → ((next : Site) → after_fields (map said_text changes) next ≡ after_all changes next)
          → option_and_then (after_fields (map said_text changes)) o ≡ option_and_then (after_all changes) o
      by None rest = refl
      by (Some next) rest = rest next

  pub texts_lead : TextsLead
  texts_lead changes site small =
      read (change_text changes) (map said_text changes) site (reads_back (map said_text changes) small.texts) ∙ fields_are changes site small.numbers small.fields

pub parts_are_refused : RefusesParts → PartsAreRefused
parts_are_refused refuses_parts changes site c front d lost small is =
    ap (option_and_then (λ fields. after_fields fields site)) (refuses_parts (map said_text changes) (c ∷ front) d lost small.texts is)
