-- What is known by a text is what it was.
use Rattle.std.proofs.Common.{◌≡◌, ℕ, List, [], ◌∷◌, map, Some, refl, sym, ap, ◌∙◌}
use Rattle.ledger_index.specs.Course.{Course, CourseReadsBack}
use Rattle.ledger_run.specs.declared.{ledger.Ledger.{Ledger}, ledger.Waiting.{Waiting}, answers.Owed.{Owed}}
use Rattle.ledger_run.specs.{Runs.{Seen, seen_ledger, waits_as, waits_for, owed_to}, Owing.{owed_as}, Senders.{Sender}}
use Rattle.ledger_run.specs.Known.{kept_waiting, kept_owed, course_by, numbered, sent, seen_by, KnownAsItWas}

texts_waiting : (xs : List Waiting) → map waits_as xs ≡ map numbered (map kept_waiting xs)
texts_waiting [] = refl
texts_waiting (x ∷ xs) = ap (λ (l : List (ℕ × List ℕ)). waits_as x ∷ l) (texts_waiting xs)

senders_waiting : (xs : List Waiting) → map waits_for xs ≡ map sent (map kept_waiting xs)
senders_waiting [] = refl
senders_waiting (x ∷ xs) = ap (λ (l : List (ℕ × Sender)). waits_for x ∷ l) (senders_waiting xs)

texts_owed : (xs : List Owed) → map owed_as xs ≡ map numbered (map kept_owed xs)
texts_owed [] = refl
texts_owed (x ∷ xs) = ap (λ (l : List (ℕ × List ℕ)). owed_as x ∷ l) (texts_owed xs)

senders_owed : (xs : List Owed) → map owed_to xs ≡ map sent (map kept_owed xs)
senders_owed [] = refl
senders_owed (x ∷ xs) = ap (λ (l : List (ℕ × Sender)). owed_to x ∷ l) (senders_owed xs)

module _ (ledger : Ledger) where
  abbrev made : List (ℕ × List ℕ) → List (ℕ × List ℕ) → List (ℕ × Sender) → List (ℕ × Sender) → Seen
  made waiting owed waits owes = record {
    waiting = waiting;
    owed = owed;
    next = ledger.next;
    commits = ledger.commits;
    last = ledger.last.items;
    senders = record { waiting = waits; owed = owes };
  }

  says : seen_ledger ledger ≡ seen_by (course_by ledger) ledger.commits ledger.last.items
  says =
      ap (λ (l : List (ℕ × List ℕ)). made l (map owed_as ledger.owed.items) (map waits_for ledger.waiting.items) (map owed_to ledger.owed.items))
      (texts_waiting ledger.waiting.items)
      ∙ ap (λ (l : List (ℕ × List ℕ)). made (map numbered (map kept_waiting ledger.waiting.items)) l (map waits_for ledger.waiting.items) (map owed_to ledger.owed.items))
      (texts_owed ledger.owed.items)
      ∙ ap (λ (l : List (ℕ × Sender)). made (map numbered (map kept_waiting ledger.waiting.items)) (map numbered (map kept_owed ledger.owed.items)) l (map owed_to ledger.owed.items))
      (senders_waiting ledger.waiting.items)
      ∙ ap (λ (l : List (ℕ × Sender)). made (map numbered (map kept_waiting ledger.waiting.items)) (map numbered (map kept_owed ledger.owed.items)) (map sent (map kept_waiting ledger.waiting.items)) l)
      (senders_owed ledger.owed.items)

inside : (a b : Course) → Some a ≡ Some b → a ≡ b
inside a b e = cc (e)

pub known_as_it_was : CourseReadsBack → KnownAsItWas
known_as_it_was back was now small is =
    let same : course_by was ≡ course_by now = inside (course_by was) (course_by now) (sym (back (course_by was) small) ∙ is.read) in
    says now
    ∙ ap (λ (n : ℕ). seen_by (course_by now) n now.last.items) is.behind
    ∙ ap (λ (last : List ℕ). seen_by (course_by now) was.commits last) is.ends
    ∙ ap (λ (c : Course). seen_by c was.commits was.last.items) (sym same)
    ∙ sym (says was)
