-- A commit is read as it was written.
use Rattle.std.proofs.Common.{◌≡◌, ◌<◌, ◌≤◌, ◌^◌, ℕ, suc, ◌+◌, Bool, List, [], ◌∷◌, ◌++◌, length, Some, None, refl, ap, ◌∙◌, subst, arith}
use Rattle.std.{specs.Prelude.{if◌then◌else◌, decimal}, specs.List.{AllByRecursion}, specs.Option.{option_and_then}, proofs.lemmas.Slice.Eq.{bytes_eq-Decides}}
use lib.ListN.{length-append}
use Rattle.ledger_text.specs.{Text.{field_text, fields_text, commit_text, commit_of, AreShort, ReadsBack}, Records.{Said, fields_of, numbers_of, ReadsRecords}}
use Rattle.ledger_run.specs.{Meaning.{event_of, event_in, event_behind, timed_event}, Senders.{sent_by, sent_of, sent_head, sent_in}}

-- ---- what is short as a whole is so in its parts

field_in : (field : List ℕ) → length field + 2 ≤ length (field_text field)
field_in field =
    let a = length-append (decimal (length field)) (10 ∷ (field ++ 10 ∷ [])) in let b = length-append field (10 ∷ []) in omega (arith, a, b)

module _ (limit : ℕ) where
  short_in : (fields : List (List ℕ)) → length (fields_text fields) < limit → AllByRecursion (λ field. length field < limit) fields
  short_in [] less = tt
  short_in (field ∷ fields) less =
      let a = length-append (field_text field) (fields_text fields) in let b = field_in field in
      (omega (arith, a, b, less), short_in fields (omega (arith, a, less)))

few_in : (fields : List (List ℕ)) → length fields ≤ length (fields_text fields)
few_in [] = omega arith
few_in (field ∷ fields) =
    let a = length-append (field_text field) (fields_text fields) in let b = field_in field in let h = few_in fields in omega (arith, a, b, h)

pub short : (fields : List (List ℕ)) → length (commit_text fields) < 2 ^ 63 → AreShort fields
short fields less =
    let a = length-append (decimal (length fields)) (10 ∷ fields_text fields) in let b = few_in fields in
    (omega (arith, a, b, less), short_in (2 ^ 63) fields (omega (arith, a, less)))

second_in : (one field : List ℕ) (fields : List (List ℕ)) → length field ≤ length (commit_text (one ∷ field ∷ fields))
second_in one field fields =
    let a = length-append (decimal (suc (suc (length fields)))) (10 ∷ fields_text (one ∷ field ∷ fields)) in let b = length-append (field_text one) (fields_text (field ∷ fields)) in
    let c = length-append (field_text field) (fields_text fields) in let d = field_in field in
    omega (arith, a, b, c, d)

-- ---- a commit

-- what a record's text is, and its commit's
module _ (reads_back : ReadsBack) (reads_records : ReadsRecords) (before : List ℕ) (time : ℕ) (said : Said) (change head text : List ℕ) (is_head : head ≡ commit_text (fields_of time said))
    (is_text : text ≡ commit_text (before ∷ head ∷ change ∷ [])) (less : length text < 2 ^ 63) (early : time < 2 ^ 63) (small : AllByRecursion (λ n. n < 2 ^ 63) (numbers_of said)) where
  whole : length (commit_text (before ∷ head ∷ change ∷ [])) < 2 ^ 63
  whole = subst (λ (t : List ℕ). length t < 2 ^ 63) is_text less

  inner : length (commit_text (fields_of time said)) < 2 ^ 63
  inner = let h : length head < 2 ^ 63 = (let a = second_in before head (change ∷ []) in omega (arith, a, whole)) in subst (λ (t : List ℕ). length t < 2 ^ 63) is_head h

  is_commit : commit_of text ≡ Some (before ∷ head ∷ change ∷ [])
  is_commit = ap commit_of is_text ∙ reads_back (before ∷ head ∷ change ∷ []) (short (before ∷ head ∷ change ∷ []) whole)

  is_record : commit_of head ≡ Some (fields_of time said)
  is_record = ap commit_of is_head ∙ reads_back (fields_of time said) (short (fields_of time said) inner)

  pub written : event_behind before (commit_of text) ≡ event_of said change
  written =
      ap (event_behind before) is_commit
      ∙ ap (λ (b : Bool). if b then event_in change (commit_of head) else None) ((bytes_eq-Decides before before).1 refl)
      ∙ ap (event_in change) is_record
      ∙ ap (option_and_then (timed_event change)) (reads_records time said early small)

  pub sent_written : sent_in (commit_of text) ≡ sent_by said
  sent_written = ap sent_in is_commit ∙ ap sent_head is_record ∙ ap sent_of (reads_records time said early small)
