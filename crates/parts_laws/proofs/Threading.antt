-- The marks of the parts are marks of the whole.
use Rattle.std.proofs.Common.{◌≡◌, ℕ, ◌+◌, Bool, true, false, List, [], ◌∷◌, ◌++◌, refl, sym, ap, ◌∙◌, subst, arith}
use Rattle.std.specs.{Prelude.{◌==◌, if◌then◌else◌, filter}, List.{AllByRecursion, IsDistinct}, Map.{keys_of}}
use Rattle.std.proofs.lemmas.Map.Keys.{IsDistinct-head, IsDistinct-tail, IsDistinct-cons}
use Rattle.parts_laws.specs.{Picking.{part_of, picked}, Runs.{Numbered, Ran, and_ran, ran, Split, part_ran, GoWithNames, made_by, numbers}}
use Rattle.parts_laws.specs.{Threads.{Taken, Taking, machine_of, TakesFirst, threaded, with_marks, owning}, Laws.{part_threaded, MarksPicked}}
use Rattle.parts_laws.proofs.{Picking.{itself}, Running.{picked_alike, equal, picked_is_whole}}

abbrev Differ : List ℕ → Type 0
Differ ns = IsDistinct (λ n m. n == m) ns

some_apart : {Text : Type 0} (n : ℕ) (p : Numbered Text → Bool) (texts : List (Numbered Text)) → AllByRecursion (λ l. (n == l) ≡ false) (numbers texts) → AllByRecursion (λ l. (n == l) ≡ false) (numbers (filter p texts))
some_apart n p [] h = tt
some_apart {Text} n p (t ∷ texts) h = by (p t) (some_apart n p texts h.1)
  where
    by : (b : Bool) → AllByRecursion (λ l. (n == l) ≡ false) (numbers (filter p texts)) → AllByRecursion (λ l. (n == l) ≡ false) (numbers (if b then t ∷ filter p texts else filter p texts))
    by true rest = (h.0, rest)
    by false rest = rest

some_differ : {Text : Type 0} (p : Numbered Text → Bool) (texts : List (Numbered Text)) → Differ (numbers texts) → Differ (numbers (filter p texts))
some_differ p [] h = h
some_differ {Text} p (t ∷ texts) h = by (p t) (some_differ p texts (IsDistinct-tail (λ n m. n == m) t.number (numbers texts) h))
  where
    by : (b : Bool) → Differ (numbers (filter p texts)) → Differ (numbers (if b then t ∷ filter p texts else filter p texts))
    by true rest = IsDistinct-cons (λ n m. n == m) t.number (numbers (filter p texts)) (some_apart t.number p texts (IsDistinct-head (λ n m. n == m) t.number (numbers texts) h)) rest
    by false rest = rest

module _ {Name Set Text Out Mark : Type 0} (taking : Taking Name Set Text Out Mark) where
  abbrev going : Numbered Text → List (Numbered Text) → Taken Name Set Out Mark → Ran Name Set Out
  going t texts r = and_ran t.number r.out (threaded taking texts r.marks r.sets)

  -- texts with marks of their own can take them from one list
  from_one : TakesFirst taking → (own : ℕ → List Mark) (texts : List (Numbered Text)) (sets : List (Name × Set))
      → (all : List Mark) × (threaded taking texts all sets ≡ ran (machine_of taking) (owning own texts) sets)
  from_one first own [] sets = ([], refl)
  from_one first own (t ∷ texts) sets =
      let used = first t.text (own t.number) sets in
      let here = taking.takes t.text (own t.number) sets in
      let rest = from_one first own texts here.sets in
      (used.0 ++ rest.0, ap (going t texts) (used.1 rest.0) ∙ ap (and_ran t.number here.out) rest.1)

  same_marks : (own others : ℕ → List Mark) (n : ℕ) → ((i : ℕ) → (n == i) ≡ false → own i ≡ others i) → (texts : List (Numbered Text)) → AllByRecursion (λ l. (n == l) ≡ false) (numbers texts)
      → owning own texts ≡ owning others texts
  same_marks own others n same [] h = refl
  same_marks own others n same (t ∷ texts) h =
      ap (λ (m : List Mark). let one : Numbered (Text × List Mark) = record { number = t.number; text = (t.text, m) } in one ∷ owning own texts) (same t.number h.0)
      ∙ ap (λ (l : List (Numbered (Text × List Mark))). with_marks others t ∷ l) (same_marks own others n same texts h.1)

  -- texts that take from one list have marks of their own
  of_their_own : (texts : List (Numbered Text)) (marks : List Mark) (sets : List (Name × Set)) → Differ (numbers texts)
      → (own : ℕ → List Mark) × (ran (machine_of taking) (owning own texts) sets ≡ threaded taking texts marks sets)
  of_their_own [] marks sets h = ((λ i. []), refl)
  of_their_own (t ∷ texts) marks sets h =
      let here = taking.takes t.text marks sets in
      let later = of_their_own texts here.marks here.sets (IsDistinct-tail (λ n m. n == m) t.number (numbers texts) h) in
      let own : ℕ → List Mark = λ i. if t.number == i then marks else later.0 i in
      let its : own t.number ≡ marks = ap (λ (b : Bool). if b then marks else later.0 t.number) (itself t.number) in
      let theirs : owning own texts ≡ owning later.0 texts = same_marks own later.0 t.number (λ i e. ap (λ (b : Bool). if b then marks else later.0 i) e) texts (IsDistinct-head (λ n m. n == m) t.number (numbers texts) h) in (
        own,
        ap (λ (m : List Mark). let r = taking.takes t.text m sets in and_ran t.number r.out (ran (machine_of taking) (owning own texts) r.sets)) its
            ∙ ap (λ (l : List (Numbered (Text × List Mark))). and_ran t.number here.out (ran (machine_of taking) l here.sets)) theirs
            ∙ ap (and_ran t.number here.out) later.1,
      )

  go_with : (split : Split Name) (own : ℕ → List Mark) (texts : List (Numbered Text)) → GoWithNames taking.reaches split texts → GoWithNames (machine_of taking).reaches split (owning own texts)
  go_with split own [] h = tt
  go_with split own (t ∷ texts) h = (h.0, go_with split own texts h.1)

  made_with : (own : ℕ → List Mark) (texts : List (Numbered Text)) → made_by (machine_of taking).makes (owning own texts) ≡ made_by taking.makes texts
  made_with own [] = refl
  made_with own (t ∷ texts) = ap (λ (n : ℕ). taking.makes t.text + n) (made_with own texts)

  numbers_with : (own : ℕ → List Mark) (texts : List (Numbered Text)) → numbers (owning own texts) ≡ numbers texts
  numbers_with own [] = refl
  numbers_with own (t ∷ texts) = ap (λ (l : List ℕ). t.number ∷ l) (numbers_with own texts)

  part_with : (split : Split Name) (k : ℕ) (own others : ℕ → List Mark) → ((i : ℕ) → split.of_text i ≡ k → own i ≡ others i) → (texts : List (Numbered Text))
      → filter (λ t. split.of_text t.number == k) (owning own texts) ≡ owning others (filter (λ t. split.of_text t.number == k) texts)
  part_with split k own others same [] = refl
  part_with split k own others same (t ∷ texts) = by (split.of_text t.number == k) refl (part_with split k own others same texts)
    where
      by : (b : Bool) → (split.of_text t.number == k) ≡ b
          → filter (λ t. split.of_text t.number == k) (owning own texts) ≡ owning others (filter (λ t. split.of_text t.number == k) texts)
          → (if b then with_marks own t ∷ filter (λ t. split.of_text t.number == k) (owning own texts) else filter (λ t. split.of_text t.number == k) (owning own texts))
          ≡ owning others (if b then t ∷ filter (λ t. split.of_text t.number == k) texts else filter (λ t. split.of_text t.number == k) texts)
      by true e rest =
          ap (λ (m : List Mark). let one : Numbered (Text × List Mark) = record { number = t.number; text = (t.text, m) } in one ∷ filter (λ t. split.of_text t.number == k) (owning own texts))
          (same t.number (equal (split.of_text t.number) k e))
          ∙ ap (λ (l : List (Numbered (Text × List Mark))). with_marks others t ∷ l) rest
      by false e rest = rest

pub marks_picked : {Name Set Text Out Mark : Type 0} → MarksPicked Name Set Text Out Mark
marks_picked {Name} {Set} {Text} {Out} {Mark} taking local first decides split texts sets go ready apart marks =
    let whole = picked_is_whole (machine_of taking) local decides split (owning own texts) sets (go_with taking split own texts go)
    (record { apart = ready.apart; room = (let r = ready.room in let k = made_with taking own texts in omega (arith, r, k)) })
    (subst Differ (sym (numbers_with taking own texts)) apart) in
    let one = from_one taking first own texts sets in
    record {
      all = one.0;
      printed = sym (picked_alike (λ n m. n == m) split.of_text (λ k. (part_ran (machine_of taking) split (owning own texts) sets k).printed) (λ k. (part_threaded taking split texts sets marks k).printed)
          (λ k. ap (λ (r : Ran Name Set Out). r.printed) (part k)) (numbers texts))
          ∙ ap (picked (λ n m. n == m) split.of_text (λ k. (part_ran (machine_of taking) split (owning own texts) sets k).printed)) (sym (numbers_with taking own texts))
          ∙ whole.printed ∙ sym (ap (λ (r : Ran Name Set Out). r.printed) one.1);
      sets_are = sym (picked_alike taking.same split.of_name (λ k. (part_ran (machine_of taking) split (owning own texts) sets k).sets) (λ k. (part_threaded taking split texts sets marks k).sets)
          (λ k. ap (λ (r : Ran Name Set Out). r.sets) (part k)) (keys_of (threaded taking texts one.0 sets).sets))
          ∙ ap (λ (r : Ran Name Set Out). picked taking.same split.of_name (λ k. (part_ran (machine_of taking) split (owning own texts) sets k).sets) (keys_of r.sets)) one.1
          ∙ whole.sets_are ∙ sym (ap (λ (r : Ran Name Set Out). r.sets) one.1);
    }
  where
    its : (k : ℕ) → (own : ℕ → List Mark) × (ran (machine_of taking) (owning own (filter (λ t. split.of_text t.number == k) texts)) (part_of split.of_name k sets) ≡ part_threaded taking split texts sets marks k)
    its k = of_their_own taking (filter (λ t. split.of_text t.number == k) texts) (marks k) (part_of split.of_name k sets) (some_differ (λ t. split.of_text t.number == k) texts apart)

    own : ℕ → List Mark
    own i = (its (split.of_text i)).0 i

    part : (k : ℕ) → part_ran (machine_of taking) split (owning own texts) sets k ≡ part_threaded taking split texts sets marks k
    part k =
        ap (λ (l : List (Numbered (Text × List Mark))). ran (machine_of taking) l (part_of split.of_name k sets)) (part_with taking split k own (its k).0 (λ i e. ap (λ (j : ℕ). (its j).0 i) e) texts)
        ∙ (its k).1
