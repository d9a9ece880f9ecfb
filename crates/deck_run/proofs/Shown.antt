-- A job that memory ended shows it: a line of its printout, not the first, begins with these words.
use Rattle.std.proofs.Common.{◌≡◌, ℕ, Bool, true, false, List, [], ◌∷◌, ◌++◌, refl, sym, ap, ◌∙◌, subst, append_assoc, append-nil}
use Rattle.std.specs.{Prelude.{codes}, List.{flat_map, AllByRecursion}}
use Rattle.sno_run.specs.declared.ending.Ending.{Ending, TheVariants.{Memory}}
use Rattle.mon_command.specs.Printouts.{number, word, stored_line}
use Rattle.audit.specs.Words.{job_line}
use Rattle.mon_unit.specs.declared.note.Note.{Note}
use Rattle.job_end.specs.{declared.job_end.JobEnd.{JobEnd}, Printouts.{note_words, exchange_words, note_line, ending_words, printout}}
use Rattle.scheduler.specs.Marks.{Marks}
use Rattle.mon_monitor.specs.{Printouts.{Printout, OfCommand, OfJob, OfRefused, printout_text, printouts_text}, Laws.{NotByMemory}}
use Rattle.deck_driver.specs.{declared.options.Options.{Options}, RunStates.{played_run_state}, Printouts.{closing, answer_to, output_of}}
use Rattle.deck_run.specs.{Runs.{run_state_of}, Laws.{HasLineWith, Unmarked, ShowsItsMarks}}

-- LINES

abbrev EndsLine : List ℕ → Type 0
EndsLine text = (front : List ℕ) × (text ≡ front ++ codes "\n")

two_end : (xs ys : List ℕ) → EndsLine ys → EndsLine (xs ++ ys)
two_end xs ys (front, is) = (xs ++ front, ap (λ (t : List ℕ). xs ++ t) is ∙ sym (append_assoc xs front (codes "\n")))

all_end : {A : Type 0} (f : A → List ℕ) → ((x : A) → EndsLine (f x)) → (xs : List A) (text : List ℕ) → EndsLine text → EndsLine (text ++ flat_map f xs)
all_end f each [] text (front, is) = (front, append-nil text ∙ is)
all_end f each (x ∷ xs) text ends =
    let rest = all_end f each xs (text ++ f x) (two_end text (f x) (each x)) in
    (rest.0, sym (append_assoc text (f x) (flat_map f xs)) ∙ rest.1)

line_behind : (text words after : List ℕ) → EndsLine text → HasLineWith words (text ++ (words ++ after))
line_behind text words after (front, is) = (front, after, ap (λ (t : List ℕ). t ++ (words ++ after)) is ∙ append_assoc front (codes "\n") (words ++ after))

in_front : (words text rest : List ℕ) → HasLineWith words text → HasLineWith words (text ++ rest)
in_front words text rest (before, after, is) =
    let line = codes "\n" in
    let inner = append_assoc line (words ++ after) rest ∙ ap (λ (t : List ℕ). line ++ t) (append_assoc words after rest) in
    let outer = append_assoc before (line ++ (words ++ after)) rest ∙ ap (λ (t : List ℕ). before ++ t) inner in
    (before, after ++ rest, ap (λ (t : List ℕ). t ++ rest) is ∙ outer)

in_back : (words text rest : List ℕ) → HasLineWith words rest → HasLineWith words (text ++ rest)
in_back words text rest (before, after, is) =
    (text ++ before, after, ap (λ (t : List ℕ). text ++ t) is ∙ sym (append_assoc text before (codes "\n" ++ (words ++ after))))

none_in_front : (words text rest : List ℕ) → ¬ HasLineWith words (text ++ rest) → ¬ HasLineWith words text
none_in_front words text rest none has = none (in_front words text rest has)

none_in_back : (words text rest : List ℕ) → ¬ HasLineWith words (text ++ rest) → ¬ HasLineWith words rest
none_in_back words text rest none has = none (in_back words text rest has)

-- JOBS

job_ends : (n : ℕ) (account : List ℕ) → EndsLine (job_line n account [])
job_ends n account = (codes "JOB" ++ number n ++ word account ++ [], refl)

stored_ends : (text : List ℕ) → EndsLine (stored_line text)
stored_ends text = (word text, refl)

note_ends : (note : Note) → EndsLine (note_line note)
note_ends note = (note_words note.why (exchange_words note), refl)

-- all that stands before the line of its end
before_end : (end : JobEnd) → EndsLine (job_line end.number end.account [] ++ flat_map stored_line end.spool ++ flat_map note_line end.notes)
before_end end = all_end note_line note_ends end.notes _ (all_end stored_line stored_ends end.spool _ (job_ends end.number end.account))

abbrev ending_line : Ending → ℕ → List ℕ
ending_line end n = codes "END" ++ ending_words end ++ codes " AFTER" ++ number n ++ codes "\n"

by_memory : (n : ℕ) → ending_line Memory n ≡ codes "END MEMORY" ++ (codes " AFTER" ++ (number n ++ codes "\n"))
by_memory n =
    let words = codes "END MEMORY" in
    let after = codes " AFTER" in
    append_assoc (words ++ after) (number n) (codes "\n") ∙ append_assoc words after (number n ++ codes "\n")

shown : (end : JobEnd) → end.ending ≡ Memory → HasLineWith (codes "END MEMORY") (printout end)
shown end is =
    let front = job_line end.number end.account [] ++ flat_map stored_line end.spool ++ flat_map note_line end.notes in
    let line : ending_line end.ending end.statements ≡ codes "END MEMORY" ++ (codes " AFTER" ++ (number end.statements ++ codes "\n")) =
    ap (λ (e : Ending). ending_line e end.statements) is ∙ by_memory end.statements in
    let there = line_behind front (codes "END MEMORY") (codes " AFTER" ++ (number end.statements ++ codes "\n")) (before_end end) in
    (there.0, there.1, ap (λ (t : List ℕ). front ++ t) line ∙ there.2)

-- PAPERS

one_plain : (p : Printout) → ¬ HasLineWith (codes "END MEMORY") (printout_text p) → NotByMemory p
one_plain (OfCommand text) none = tt
one_plain (OfJob end) none = λ is. none (shown end is)
one_plain (OfRefused n account refusal) none = tt

all_plain : (printouts : List Printout) → ¬ HasLineWith (codes "END MEMORY") (printouts_text printouts) → AllByRecursion NotByMemory printouts
all_plain [] none = tt
all_plain (p ∷ ps) none = (
  one_plain p (none_in_front (codes "END MEMORY") (printout_text p) (printouts_text ps) none),
  all_plain ps (none_in_back (codes "END MEMORY") (printout_text p) (printouts_text ps) none),
)

shown_by : Unmarked → (options : Options) (m : Marks) (bytes : List ℕ) → ¬ HasLineWith (codes "END MEMORY") (output_of options m bytes)
    → (check : Bool) → options.check ≡ check → output_of options m bytes ≡ output_of options [] bytes
shown_by unmarked options m bytes none true is =
    ap (λ (c : Bool). answer_to c 0 m (run_state_of options bytes)) is ∙ sym (ap (λ (c : Bool). answer_to c 0 [] (run_state_of options bytes)) is)
shown_by unmarked options m bytes none false is =
    let run_state = run_state_of options bytes in
    let p = played_run_state 0 m run_state in
    let rest = closing p.after.scheduler.sets run_state.cards.ending in
    let run : output_of options m bytes ≡ printouts_text p.printouts ++ rest = ap (λ (c : Bool). answer_to c 0 m run_state) is in
    let none_there = subst (λ (text : List ℕ). ¬ HasLineWith (codes "END MEMORY") text) run none in
    unmarked options m bytes (all_plain p.printouts (none_in_front (codes "END MEMORY") (printouts_text p.printouts) rest none_there))

pub shows_its_marks : Unmarked → ShowsItsMarks
shows_its_marks unmarked options m bytes none = shown_by unmarked options m bytes none options.check refl
