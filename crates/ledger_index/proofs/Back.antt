-- What is printed of an index is read as itself.
use Rattle.std.proofs.Common.{◌≡◌, ℕ, ◌<◌, ◌^◌, List, [], ◌∷◌, map, Option, Some, None, option_map, refl, ap, ◌∙◌, arith}
use Rattle.std.specs.{Prelude.{decimal, codes}, Option.{option_and_then}, List.{AllByRecursion}}
use Rattle.ledger_text.specs.{Text.{ReadsBack as TextsReadBack, AreShort}, Records.{Said, Gone, fields_of, count_of, short_of, numbers_of, timed, ReadsRecords}}
use Rattle.ledger_index.specs.{declared.index.Span.{Span}, Laws.{IsSmallEntry, ReadsBack}, Course.{Kept, IsSmallKept, IsSmallList, CourseReadsBack}}
use Rattle.ledger_index.specs.Index.{Entry, Head, entry_fields, entry_text, head_fields, head_text, index_fields, span_of, span_in, entry_with, entry_in, entry_of, and_entries, entries_of, head_with, head_in, head_of, with_entries, index_in}
use Rattle.ledger_index.specs.Course.{said_kept, kept_text, list_text, course_fields, kept_at, kept_in, kept_of, and_list, list_in, list_of, course_with, course_in}

module _ (texts_back : TextsReadBack) (reads_records : ReadsRecords) where
  number_back : (n : ℕ) → n < 2 ^ 63 → count_of (decimal n) ≡ Some n
  number_back n fits = by (count_of (decimal n)) (count_of (decimal 0)) (reads_records 0 (Gone n []) (omega arith) (fits, tt))
    where
      numbers : Option (ℕ × Said) → List ℕ
      numbers None = []
      numbers (Some entry) = numbers_of entry.1

      by : (o t : Option ℕ) → option_and_then (timed (option_and_then (λ (m : ℕ). short_of (codes "GONE") m []) o)) t ≡ Some (0, Gone n []) → o ≡ Some n
      by None None e = absurd (cc (e))
      by None (Some t) e = absurd (cc (e))
      by (Some m) None e = absurd (cc (e))
      by (Some m) (Some t) e = let h : m ∷ [] ≡ n ∷ [] = ap numbers e in cc (h)

  span_back : (span : Span) → span.count < 2 ^ 63 → span.place < 2 ^ 63 → span.size < 2 ^ 63
      → span_in (decimal span.count) (decimal span.place) (decimal span.size) ≡ Some span
  span_back span c p s =
      ap (option_and_then (λ (n : ℕ). option_and_then (λ (m : ℕ). option_map (span_of n m) (count_of (decimal span.size))) (count_of (decimal span.place))))
      (number_back span.count c)
      ∙ ap (option_and_then (λ (m : ℕ). option_map (span_of span.count m) (count_of (decimal span.size)))) (number_back span.place p)
      ∙ ap (option_map (span_of span.count span.place)) (number_back span.size s)

  entry_back : (e : Entry) → IsSmallEntry e → entry_of (entry_text e) ≡ Some e
  entry_back e small =
      ap (option_and_then entry_in) (texts_back (entry_fields e) small.fields)
      ∙ ap (option_map (entry_with e.name e.owner e.group e.mode e.list e.digest)) (span_back e.span small.count small.place small.size)

  entries_back : (es : List Entry) → AllByRecursion IsSmallEntry es → entries_of (map entry_text es) ≡ Some es
  entries_back [] small = refl
  entries_back (e ∷ es) small =
      ap (option_and_then (and_entries (entries_of (map entry_text es)))) (entry_back e small.0)
      ∙ ap (λ (more : Option (List Entry)). and_entries more e) (entries_back es small.1)

  head_back : (h : Head) → h.count < 2 ^ 63 → h.jobs < 2 ^ 63 → AreShort (head_fields h) → head_of (head_text h) ≡ Some h
  head_back h c j short =
      ap (option_and_then head_in) (texts_back (head_fields h) short)
      ∙ ap (option_and_then (λ (n : ℕ). option_map (head_with h.last h.course h.tables n) (count_of (decimal h.jobs)))) (number_back h.count c)
      ∙ ap (option_map (head_with h.last h.course h.tables h.count)) (number_back h.jobs j)

  pub index_back : ReadsBack
  index_back index small =
      ap (option_and_then index_in) (texts_back (index_fields index) small.fields)
      ∙ ap (option_and_then (with_entries (entries_of (map entry_text index.entries)))) (head_back index.head small.count small.jobs small.head)
      ∙ ap (λ (es : Option (List Entry)). with_entries es index.head) (entries_back index.entries small.entries)

  -- ---- what waits and is owed

  kept_back : (one : Kept) → IsSmallKept one → kept_of (kept_text one) ≡ Some one
  kept_back one small =
      ap (option_and_then kept_in) (texts_back (fields_of 0 (said_kept one)) small.fields)
      ∙ ap (option_and_then kept_at) (reads_records 0 (said_kept one) (omega arith) (small.number, (small.uid, tt)))

  all_back : (list : List Kept) → AllByRecursion IsSmallKept list → list_in (map kept_text list) ≡ Some list
  all_back [] small = refl
  all_back (one ∷ list) small =
      ap (option_and_then (and_list (list_in (map kept_text list)))) (kept_back one small.0)
      ∙ ap (λ (more : Option (List Kept)). and_list more one) (all_back list small.1)

  list_back : (list : List Kept) → IsSmallList list → list_of (list_text list) ≡ Some list
  list_back list small = ap (option_and_then list_in) (texts_back (map kept_text list) small.fields) ∙ all_back list small.each

  pub course_back : CourseReadsBack
  course_back course small =
      ap (option_and_then course_in) (texts_back (course_fields course) small.fields)
      ∙ ap (option_and_then (λ (next : ℕ). option_and_then (λ (waiting : List Kept). option_map (course_with next waiting) (list_of (list_text course.owed))) (list_of (list_text course.waiting))))
      (number_back course.next small.next)
      ∙ ap (option_and_then (λ (waiting : List Kept). option_map (course_with course.next waiting) (list_of (list_text course.owed)))) (list_back course.waiting small.waiting)
      ∙ ap (option_map (course_with course.next course.waiting)) (list_back course.owed small.owed)
