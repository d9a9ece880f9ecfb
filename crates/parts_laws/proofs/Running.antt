-- A part runs as the whole does.
use Rattle.std.proofs.Common.{◌≡◌, ℕ, Bool, true, false, List, [], ◌∷◌, Some, refl, sym, ap, ◌∙◌, subst, arith}
use Rattle.std.{specs.Prelude.{if◌then◌else◌, ◌==◌, not, filter}, specs.Map.{lookup, keys_of}, proofs.lemmas.Bool.Decides.{nat_tests}, specs.List.{IsDistinct}}
use Rattle.parts_laws.specs.{Picking.{Decides, part_of, and_if, picked, shown}, Laws.{IsItsPart, EachItsPart, PickedIsWhole}}
use Rattle.parts_laws.specs.Runs.{Machine, IsReady, IsFramed, IsLocal, Numbered, Ran, and_ran, ran, Split, part_ran, GoWithNames, AreReady, numbers}
use Rattle.parts_laws.proofs.Picking.{itself, picked_is_all, shown_all}

same_number : (n k m : ℕ) → n ≡ m → (m == k) ≡ true → (n == k) ≡ true
same_number n k m e h = ap (λ (x : ℕ). x == k) e ∙ h

other_number : (n k m : ℕ) → (m == k) ≡ false → (n == k) ≡ true → not (n == m) ≡ true
other_number n k m h e = grind (arith, nat_tests)

-- what passes one test passes the other
narrower : {A : Type 0} (p q : A → Bool) → ((x : A) → p x ≡ true → q x ≡ true) → (xs : List A) → filter p (filter q xs) ≡ filter p xs
narrower p q less [] = refl
narrower {A} p q less (x ∷ xs) = by (p x) refl (q x) (less x) (narrower p q less xs)
  where
    by : (a : Bool) → p x ≡ a → (b : Bool) → (p x ≡ true → b ≡ true) → filter p (filter q xs) ≡ filter p xs
        → filter p (if b then x ∷ filter q xs else filter q xs) ≡ (if a then x ∷ filter p xs else filter p xs)
    by a e true less rest = ap (λ (c : Bool). if c then x ∷ filter p (filter q xs) else filter p (filter q xs)) e ∙ ap (λ (l : List A). if a then x ∷ l else l) rest
    by true e false less rest = absurd (let k : false ≡ true = less e in cc)
    by false e false less rest = rest

module _ {Name Set Text Out : Type 0} (machine : Machine Name Set Text Out) (local : IsLocal machine) (split : Split Name) where
  ready_first : (t : Numbered Text) (texts : List (Numbered Text)) (sets : List (Name × Set)) → AreReady machine.same machine.makes machine.most (t ∷ texts) sets → IsReady machine t.text sets
  ready_first t texts sets ready = record { apart = ready.apart; room = (let r = ready.room in omega (arith, r)) }

  ready_rest : (t : Numbered Text) (texts : List (Numbered Text)) (sets : List (Name × Set)) → AreReady machine.same machine.makes machine.most (t ∷ texts) sets → AreReady machine.same machine.makes machine.most texts (machine.step t.text sets).sets
  ready_rest t texts sets ready = record {
    apart = local.apart t.text sets (ready_first t texts sets ready);
    room = (let r = ready.room in let few = local.few t.text sets in omega (arith, r, few));
  }

  each : (k : ℕ) (texts : List (Numbered Text)) (sets : List (Name × Set)) → GoWithNames machine.reaches split texts → AreReady machine.same machine.makes machine.most texts sets → IsItsPart machine split texts sets k
  each k [] sets go ready = record { printed = refl; sets_are = refl }
  each k (t ∷ texts) sets go ready =
      by (split.of_text t.number == k) refl (ready_first t texts sets ready) (each k texts (machine.step t.text sets).sets go.1 (ready_rest t texts sets ready))
    where
      by : (b : Bool) → (split.of_text t.number == k) ≡ b → IsReady machine t.text sets → IsItsPart machine split texts (machine.step t.text sets).sets k
          → IsItsPart machine split (t ∷ texts) sets k
      by true e ready rest =
          let its : List (Numbered Text) = filter (λ t. split.of_text t.number == k) texts in
          let own : List (Name × Set) = part_of split.of_name k sets in
          let f : IsFramed machine (λ name. split.of_name name == k) t.text sets =
          local.frame (λ name. split.of_name name == k) t.text sets (λ name h. same_number (split.of_name name) k (split.of_text t.number) (go.0 name h) e) ready in
          let runs : ran machine (if split.of_text t.number == k then t ∷ its else its) own ≡ ran machine (t ∷ its) own = ap (λ (b : Bool). ran machine (if b then t ∷ its else its) own) e in
          let here : ran machine (t ∷ its) own ≡ and_ran t.number (machine.step t.text sets).out (ran machine its (part_of split.of_name k (machine.step t.text sets).sets)) =
          ap (λ (o : Out). and_ran t.number o (ran machine its (machine.step t.text own).sets)) f.out
          ∙ ap (λ (l : List (Name × Set)). and_ran t.number (machine.step t.text sets).out (ran machine its l)) f.own in
          let later : List (ℕ × Out) = (ran machine texts (machine.step t.text sets).sets).printed in
          record {
            printed = ap (λ (r : Ran Name Set Out). r.printed) (runs ∙ here) ∙ ap (λ (l : List (ℕ × Out)). (t.number, (machine.step t.text sets).out) ∷ l) rest.printed
                ∙ sym (ap (λ (b : Bool). if b then (t.number, (machine.step t.text sets).out) ∷ part_of split.of_text k later else part_of split.of_text k later) e);
            sets_are = ap (λ (r : Ran Name Set Out). r.sets) (runs ∙ here) ∙ rest.sets_are;
          }
      by false e ready rest =
          let its : List (Numbered Text) = filter (λ t. split.of_text t.number == k) texts in
          let p : Name → Bool = λ name. split.of_name name == split.of_text t.number in
          let f : IsFramed machine p t.text sets = local.frame p t.text sets (λ name h. same_number (split.of_name name) (split.of_text t.number) (split.of_text t.number) (go.0 name h) (itself (split.of_text t.number))) ready in
          let mine : Name × Set → Bool = λ set. split.of_name set.0 == k in
          let others : Name × Set → Bool = λ set. not (p set.0) in
          let less : (set : Name × Set) → mine set ≡ true → others set ≡ true = λ set h. other_number (split.of_name set.0) k (split.of_text t.number) e h in
          let still : part_of split.of_name k sets ≡ part_of split.of_name k (machine.step t.text sets).sets =
          sym (narrower mine others less sets) ∙ ap (filter mine) (sym f.others) ∙ narrower mine others less (machine.step t.text sets).sets in
          let runs : ran machine (if split.of_text t.number == k then t ∷ its else its) (part_of split.of_name k sets) ≡ ran machine its (part_of split.of_name k (machine.step t.text sets).sets) =
          ap (λ (b : Bool). ran machine (if b then t ∷ its else its) (part_of split.of_name k sets)) e ∙ ap (ran machine its) still in
          let later : List (ℕ × Out) = (ran machine texts (machine.step t.text sets).sets).printed in
          record {
            printed = ap (λ (r : Ran Name Set Out). r.printed) runs ∙ rest.printed
                ∙ sym (ap (λ (b : Bool). if b then (t.number, (machine.step t.text sets).out) ∷ part_of split.of_text k later else part_of split.of_text k later) e);
            sets_are = ap (λ (r : Ran Name Set Out). r.sets) runs ∙ rest.sets_are;
          }

  numbers_printed : (texts : List (Numbered Text)) (sets : List (Name × Set)) → keys_of (ran machine texts sets).printed ≡ numbers texts
  numbers_printed [] sets = refl
  numbers_printed (t ∷ texts) sets = ap (λ (l : List ℕ). t.number ∷ l) (numbers_printed texts (machine.step t.text sets).sets)

  apart_after : (texts : List (Numbered Text)) (sets : List (Name × Set)) → AreReady machine.same machine.makes machine.most texts sets → IsDistinct machine.same (keys_of (ran machine texts sets).sets)
  apart_after [] sets ready = ready.apart
  apart_after (t ∷ texts) sets ready = apart_after texts (machine.step t.text sets).sets (ready_rest t texts sets ready)

pub each_its_part : {Name Set Text Out : Type 0} → EachItsPart Name Set Text Out
each_its_part machine local split texts sets go ready k = each machine local split k texts sets go ready

pub picked_alike : {K V : Type 0} (same : K → K → Bool) (goes : K → ℕ) (f g : ℕ → List (K × V)) → ((k : ℕ) → f k ≡ g k) → (ks : List K) → picked same goes f ks ≡ picked same goes g ks
picked_alike same goes f g e [] = refl
picked_alike {K} {V} same goes f g e (key ∷ ks) =
    ap (λ (l : List (K × V)). and_if key (lookup (same key) l) (picked same goes f ks)) (e (goes key)) ∙ ap (and_if key (lookup (same key) (g (goes key)))) (picked_alike same goes f g e ks)

whole : {K V : Type 0} (same : K → K → Bool) → Decides same → (goes : K → ℕ) (parts : ℕ → List (K × V)) (all : List (K × V)) → ((k : ℕ) → parts k ≡ part_of goes k all)
    → IsDistinct same (keys_of all) → picked same goes parts (keys_of all) ≡ all
whole {K} {V} same decides goes parts all are apart =
    picked_alike same goes parts (λ k. part_of goes k (shown (λ (e : K × V). Some e.1) all)) (λ k. are k ∙ ap (part_of goes k) (sym (shown_all all))) (keys_of all)
    ∙ picked_is_all same decides goes (λ e. Some e.1) all apart ∙ shown_all all

pub equal : (n m : ℕ) → (n == m) ≡ true → n ≡ m
equal n m h = grind (arith, nat_tests)

pub picked_is_whole : {Name Set Text Out : Type 0} → PickedIsWhole Name Set Text Out
picked_is_whole {Name} {Set} {Text} {Out} machine local decides split texts sets go ready apart = record {
  printed =
      ap (picked (λ n m. n == m) split.of_text (λ k. (part_ran machine split texts sets k).printed)) (sym (numbers_printed machine local split texts sets))
      ∙ whole (λ n m. n == m) (record { itself = itself; alike = equal }) split.of_text (λ k. (part_ran machine split texts sets k).printed) all.printed
      (λ k. (each machine local split k texts sets go ready).printed)
      (subst (IsDistinct (λ n m. n == m)) (sym (numbers_printed machine local split texts sets)) apart);
  sets_are =
      whole machine.same decides split.of_name (λ k. (part_ran machine split texts sets k).sets) all.sets (λ k. (each machine local split k texts sets go ready).sets_are)
      (apart_after machine local split texts sets ready);
}
  where
    all : Ran Name Set Out
    all = ran machine texts sets
