-- A loop over queues that takes a turn, and one that takes all turns.
use Rattle.std.proofs.Common.{◌≡◌, ℕ, suc, ◌+◌, ◌-◌, ◌<◌, ◌%◌, List, [], ◌∷◌, ◌++◌, length, map, take, drop, set, get_or, flat_map, refl, sym, ap, ap₂, ◌∙◌, arith, append_assoc}
use Rattle.std.proofs.lemmas.List.{length-map, length-take-le, map-append, take-map, drop-map, drop_more, take_more, get_or-map, get_or_at, map-set, set_at, flat_map_more}
use Rattle.ledger_turns.specs.Order.{in_turns, longest, rotated, served}

module _ {A T : Type 0} (f : A → List T) where
  -- what a queue has where a turn has come to it
  still : (i : ℕ) (all now : List A) (d : A) → i < length all → length now ≡ length all
      → map f now ≡ map (λ q. drop 1 (f q)) (take i all) ++ map f (drop i all) → f (get_or now i d) ≡ f (get_or all i d)
  still i all now d less same left =
      let there : map f now ≡ map (λ q. drop 1 (f q)) (take i all) ++ (f (get_or all i d) ∷ map f (drop (i + 1) all)) =
      left ∙ ap (λ (t : List A). map (λ q. drop 1 (f q)) (take i all) ++ map f t) (drop_more all i d less) in
      let long : length (map (λ q. drop 1 (f q)) (take i all)) ≡ i =
      length-map (take i all) (λ q. drop 1 (f q)) ∙ length-take-le i all (omega (arith, less)) in
      sym (get_or-map f now i d [] (omega (arith, less, same)))
      ∙ ap (λ (t : List (List T)). get_or t i []) there
      ∙ get_or_at (map (λ q. drop 1 (f q)) (take i all)) (f (get_or all i d)) (map f (drop (i + 1) all)) [] i long

  pub turn_order : (i : ℕ) (all now : List A) (d : A) (start here new : List T) → i < length all → length now ≡ length all
      → map f now ≡ map (λ q. drop 1 (f q)) (take i all) ++ map f (drop i all)
      → here ≡ start ++ flat_map (λ q. take 1 (f q)) (take i all) → new ≡ here ++ take 1 (f (get_or now i d))
      → new ≡ start ++ flat_map (λ q. take 1 (f q)) (take (i + 1) all)
  turn_order i all now d start here new less same left before after =
      after ∙ ap₂ (λ (t : List T) (y : List T). t ++ take 1 y) before (still i all now d less same left)
      ∙ flat_map_more (λ q. take 1 (f q)) start (take i all) (get_or all i d)
      ∙ ap (λ (t : List A). start ++ flat_map (λ q. take 1 (f q)) t) (sym (take_more all i d less))

  pub turn_left : (i : ℕ) (all now : List A) (d y : A) → i < length all → length now ≡ length all
      → map f now ≡ map (λ q. drop 1 (f q)) (take i all) ++ map f (drop i all) → f y ≡ drop 1 (f (get_or now i d))
      → map f (set now i y) ≡ map (λ q. drop 1 (f q)) (take (i + 1) all) ++ map f (drop (i + 1) all)
  turn_left i all now d y less same left next =
      let P = map (λ q. drop 1 (f q)) (take i all) in
      let R = map f (drop (i + 1) all) in
      let x' = get_or all i d in
      let there : map f now ≡ P ++ (f x' ∷ R) = left ∙ ap (λ (t : List A). P ++ map f t) (drop_more all i d less) in
      let long : length P ≡ i = length-map (take i all) (λ q. drop 1 (f q)) ∙ length-take-le i all (omega (arith, less)) in
      let more : map (λ q. drop 1 (f q)) (take (i + 1) all) ≡ P ++ drop 1 (f x') ∷ [] =
      ap (λ (t : List A). map (λ q. drop 1 (f q)) t) (take_more all i d less) ∙ map-append (λ q. drop 1 (f q)) (take i all) (x' ∷ []) in
      map-set f now i y
      ∙ ap₂ (λ (t : List (List T)) (z : List T). set t i z) there (next ∙ ap (λ (z : List T). drop 1 z) (still i all now d less same left))
      ∙ set_at P (f x') R (drop 1 (f x')) i long
      ∙ sym (append_assoc P (drop 1 (f x') ∷ []) R)
      ∙ ap (λ (t : List (List T)). t ++ R) (sym more)

  -- ---- all turns

  firsts_of : (queues : List A) → flat_map (λ q. take 1 (f q)) queues ≡ flat_map (λ q. take 1 q) (map f queues)
  firsts_of [] = refl
  firsts_of (q ∷ queues) = ap (λ (t : List T). take 1 (f q) ++ t) (firsts_of queues)

  rests_of : (queues : List A) → map (λ q. drop 1 (f q)) queues ≡ map (λ q. drop 1 q) (map f queues)
  rests_of [] = refl
  rests_of (q ∷ queues) = ap (λ (t : List (List T)). drop 1 (f q) ∷ t) (rests_of queues)

  pub turn_more : (turns n : ℕ) (now next : List A) (here new whole : List T) → n < turns
      → here ++ in_turns (turns - n) (map f now) ≡ whole
      → new ≡ here ++ flat_map (λ q. take 1 (f q)) now → map f next ≡ map (λ q. drop 1 (f q)) now
      → new ++ in_turns (turns - (n + 1)) (map f next) ≡ whole
  turn_more turns n now next here new whole less before order left =
      let k = turns - (n + 1) in
      let one : turns - n ≡ suc k = omega (arith, less) in
      ap₂ (λ (s : List T) (qs : List (List T)). s ++ in_turns k qs) (order ∙ ap (λ (t : List T). here ++ t) (firsts_of now)) (left ∙ rests_of now)
      ∙ append_assoc here (flat_map (λ q. take 1 q) (map f now)) (in_turns k (map (λ q. drop 1 q) (map f now)))
      ∙ ap (λ (m : ℕ). here ++ in_turns m (map f now)) (sym one)
      ∙ before

  map_rotated : (round : ℕ) (queues : List A) → map f (rotated round queues) ≡ rotated round (map f queues)
  map_rotated round queues =
      let k = round % length queues in
      map-append f (drop k queues) (take k queues)
      ∙ ap₂ (λ (s t : List (List T)). s ++ t) (sym (drop-map f k queues)) (sym (take-map f k queues))
      ∙ ap (λ (m : ℕ). drop (round % m) (map f queues) ++ take (round % m) (map f queues)) (sym (length-map queues f))

  pub turns_begin : (turns round : ℕ) (queues now : List A) (here : List T) → here ≡ [] → turns ≡ longest (map f queues) → now ≡ rotated round queues
      → here ++ in_turns (turns - 0) (map f now) ≡ served round (map f queues)
  turns_begin turns round queues now here none most is =
      let all : turns - 0 ≡ longest (map f queues) = omega (arith, most) in
      ap (λ (t : List T). t ++ in_turns (turns - 0) (map f now)) none
      ∙ ap₂ (λ (n : ℕ) (qs : List (List T)). in_turns n qs) all (ap (λ (qs : List A). map f qs) is ∙ map_rotated round queues)
