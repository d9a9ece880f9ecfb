-- The texts that wait and the answers that are owed, as a text (own): the next number, and two texts of fields. Each field is a record as the
-- ledger has it of a file that was taken; of an answer, the reply stands in the place of the text.
use Rattle.std.specs.Prelude.{◌≡◌, ◌<◌, ◌^◌, ℕ, List, [], ◌∷◌, map, decimal, Option, Some, None, option_map}
use Rattle.std.specs.Option.{option_and_then}
use Rattle.std.specs.List.{AllByRecursion}
use Rattle.ledger_text.specs.Text.{commit_text, commit_of, AreShort}
use Rattle.ledger_text.specs.Records as said
use Rattle.ledger_text.specs.Records.{Said, fields_of, said_of, count_of}
use Rattle.ledger_index.specs.declared.course.Kept.{Kept as CodeKept}
use Rattle.ledger_index.specs.declared.course.Course.{Course as CodeCourse}

-- a text or an answer, with its number and whose it is
pub record Kept : Type 0 where
  pub number : ℕ
  pub account : List ℕ
  pub uid : ℕ
  pub name : List ℕ
  pub text : List ℕ

-- what a ledger has in memory besides its state
pub record Course : Type 0 where
  pub next : ℕ
  pub waiting : List Kept
  pub owed : List Kept

-- as the code has it
abbrev pub seen_kept : CodeKept → Kept
seen_kept one = record {
  number = one.file.number;
  account = one.file.account.now;
  uid = one.file.uid;
  name = one.file.name.now;
  text = one.text.now;
}

abbrev pub seen_list : List CodeKept → List Kept
seen_list list = map seen_kept list

abbrev pub seen_course : CodeCourse → Course
seen_course course = record { next = course.next; waiting = seen_list course.waiting.items; owed = seen_list course.owed.items }

-- ---- printing

abbrev pub said_kept : Kept → Said
said_kept one = said.Took one.number one.account one.uid one.name one.text

abbrev pub kept_text : Kept → List ℕ
kept_text one = commit_text (fields_of 0 (said_kept one))

abbrev pub list_text : List Kept → List ℕ
list_text list = commit_text (map kept_text list)

abbrev pub course_fields : Course → List (List ℕ)
course_fields course = decimal course.next ∷ list_text course.waiting ∷ list_text course.owed ∷ []

abbrev pub course_text : Course → List ℕ
course_text course = commit_text (course_fields course)

-- ---- reading

abbrev pub kept_said : Said → Option Kept
kept_said (said.Took n account uid name text) = Some (record { number = n; account = account; uid = uid; name = name; text = text })
kept_said (said.Refused n account uid name reply) = None
kept_said (said.Ran n printout) = None
kept_said (said.Audit n lines) = None
kept_said (said.Keep n set first records) = None
kept_said (said.Set n set head records) = None
kept_said (said.Gone n set) = None
kept_said (said.Dropped n reason reply) = None
kept_said (said.Gave first last) = None
kept_said (said.Tables tables) = None
kept_said (said.Checked count digest) = None
kept_said (said.Edit who act) = None

abbrev pub kept_at : ℕ × Said → Option Kept
kept_at entry = kept_said entry.1

abbrev pub kept_in : List (List ℕ) → Option Kept
kept_in fields = option_and_then kept_at (said_of fields)

abbrev pub kept_of : List ℕ → Option Kept
kept_of field = option_and_then kept_in (commit_of field)

-- all of them, or none
abbrev pub and_list : Option (List Kept) → Kept → Option (List Kept)
and_list more one = option_map (λ list. one ∷ list) more

abbrev pub list_in : List (List ℕ) → Option (List Kept)
list_in [] = Some []
list_in (field ∷ fields) = option_and_then (and_list (list_in fields)) (kept_of field)

abbrev pub list_of : List ℕ → Option (List Kept)
list_of field = option_and_then list_in (commit_of field)

abbrev pub course_with : ℕ → List Kept → List Kept → Course
course_with next waiting owed = record { next = next; waiting = waiting; owed = owed }

abbrev pub course_in : List (List ℕ) → Option Course
course_in (number ∷ waits ∷ owes ∷ []) =
    option_and_then (λ next. option_and_then (λ waiting. option_map (course_with next waiting) (list_of owes)) (list_of waits)) (count_of number)
course_in fields = None

abbrev pub course_of : List ℕ → Option Course
course_of text = option_and_then course_in (commit_of text)

-- ---- a law

-- numbers and lengths that a machine can have
pub record IsSmallKept (one : Kept) : Type 0 where
  pub number : one.number < 2 ^ 63
  pub uid : one.uid < 2 ^ 63
  pub fields : AreShort (fields_of 0 (said_kept one))

pub record IsSmallList (list : List Kept) : Type 0 where
  pub each : AllByRecursion IsSmallKept list
  pub fields : AreShort (map kept_text list)

pub record IsSmallCourse (course : Course) : Type 0 where
  pub next : course.next < 2 ^ 63
  pub waiting : IsSmallList course.waiting
  pub owed : IsSmallList course.owed
  pub fields : AreShort (course_fields course)

-- what is printed is read as itself
abbrev pub CourseReadsBack : Type 0
CourseReadsBack = (course : Course) → IsSmallCourse course → course_of (course_text course) ≡ Some course
