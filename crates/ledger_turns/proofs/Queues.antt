-- Queues of which one alone has an account's texts, and has no others.
use Rattle.std.proofs.Common.{◌≡◌, ◌⊎◌, ℕ, zero, suc, ◌+◌, ◌<◌, ◌==◌, ◌%◌, Bool, true, false, cond, List, [], ◌∷◌, ◌++◌, length, map, take, drop, get_or, flat_map, refl, sym, ap, ap₂, ◌∙◌, subst, inl, inr, arith, append-nil, take-append-drop, eq-eqb}
use Rattle.std.specs.List.{AllByRecursion}
use Rattle.std.proofs.lemmas.{Bool.{eqb-true}, List.Concat.{flat_map-append}, List.Elements.{filter-append}}
use Rattle.ledger_turns.specs.Order.{rotated, texts_of, AreQueuesFrom}

-- all texts of all queues
abbrev pub joined : {T : Type 0} → List (List T) → List T
joined queues = flat_map (λ queue. queue) queues

abbrev pub firsts : {T : Type 0} → List (List T) → List T
firsts queues = flat_map (λ queue. take 1 queue) queues

abbrev pub others : {T : Type 0} → List (List T) → List (List T)
others queues = map (λ queue. drop 1 queue) queues

all_take : {T : Type 0} (P : T → Type 0) (xs : List T) → AllByRecursion P xs → AllByRecursion P (take 1 xs)
all_take P [] are = tt
all_take P (x ∷ xs) (is, are) = (is, tt)

all_drop : {T : Type 0} (P : T → Type 0) (xs : List T) → AllByRecursion P xs → AllByRecursion P (drop 1 xs)
all_drop P [] are = tt
all_drop P (x ∷ xs) (is, are) = are

module _ {T : Type 0} (account : T → ℕ) (i : ℕ) where
  abbrev pub IsNone : List T → Type 0
  IsNone queue = AllByRecursion (λ text. (account text == i) ≡ false) queue

  abbrev pub IsAll : List T → Type 0
  IsAll queue = AllByRecursion (λ text. (account text == i) ≡ true) queue

  abbrev pub AreNone : List (List T) → Type 0
  AreNone queues = AllByRecursion IsNone queues

  abbrev pub IsAlone : List (List T) → Type 0
  IsAlone [] = Unit {0}
  IsAlone (queue ∷ queues) = (IsNone queue × IsAlone queues) ⊎ (IsAll queue × AreNone queues)

  -- what the account has in all queues
  abbrev pub owned : List (List T) → List T
  owned queues = texts_of account i (joined queues)

  none_kept : (queue : List T) → IsNone queue → texts_of account i queue ≡ []
  none_kept [] none = refl
  none_kept (text ∷ queue) (is, none) =
      ap (λ (b : Bool). cond b (text ∷ texts_of account i queue) (texts_of account i queue)) is ∙ none_kept queue none

  all_kept : (queue : List T) → IsAll queue → texts_of account i queue ≡ queue
  all_kept [] all = refl
  all_kept (text ∷ queue) (is, all) =
      ap (λ (b : Bool). cond b (text ∷ texts_of account i queue) (texts_of account i queue)) is ∙ ap (λ (t : List T). text ∷ t) (all_kept queue all)

  pub texts_both : (xs ys : List T) → texts_of account i (xs ++ ys) ≡ texts_of account i xs ++ texts_of account i ys
  texts_both xs ys = filter-append (λ text. account text == i) xs ys

  -- an account that has no text in a queue, and one that has none in any
  behind_none : (queue more : List T) → IsNone queue → texts_of account i (queue ++ more) ≡ texts_of account i more
  behind_none queue more none = texts_both queue more ∙ ap (λ (t : List T). t ++ texts_of account i more) (none_kept queue none)

  before_none : (queue more : List T) → IsAll queue → texts_of account i more ≡ [] → texts_of account i (queue ++ more) ≡ queue
  before_none queue more all none =
      texts_both queue more ∙ ap₂ (λ (s t : List T). s ++ t) (all_kept queue all) none ∙ append-nil queue

  none_owned : (queues : List (List T)) → AreNone queues → owned queues ≡ []
  none_owned [] none = refl
  none_owned (queue ∷ queues) (is, none) = behind_none queue (joined queues) is ∙ none_owned queues none

  none_first : (queues : List (List T)) → AreNone queues → texts_of account i (firsts queues) ≡ []
  none_first [] none = refl
  none_first (queue ∷ queues) (is, none) = behind_none (take 1 queue) (firsts queues) (all_take _ queue is) ∙ none_first queues none

  none_left : (queues : List (List T)) → AreNone queues → AreNone (others queues)
  none_left [] none = tt
  none_left (queue ∷ queues) (is, none) = (all_drop _ queue is, none_left queues none)

  -- a turn takes its first text from the account
  pub turn_takes : (queues : List (List T)) → IsAlone queues → texts_of account i (firsts queues) ≡ take 1 (owned queues)
  turn_takes [] alone = refl
  turn_takes (queue ∷ queues) (inl (none, alone)) =
      behind_none (take 1 queue) (firsts queues) (all_take _ queue none) ∙ turn_takes queues alone
      ∙ ap (λ (t : List T). take 1 t) (sym (behind_none queue (joined queues) none))
  turn_takes (queue ∷ queues) (inr (all, none)) =
      before_none (take 1 queue) (firsts queues) (all_take _ queue all) (none_first queues none)
      ∙ ap (λ (t : List T). take 1 t) (sym (before_none queue (joined queues) all (none_owned queues none)))

  pub turn_leaves : (queues : List (List T)) → IsAlone queues → owned (others queues) ≡ drop 1 (owned queues)
  turn_leaves [] alone = refl
  turn_leaves (queue ∷ queues) (inl (none, alone)) =
      behind_none (drop 1 queue) (joined (others queues)) (all_drop _ queue none) ∙ turn_leaves queues alone
      ∙ ap (λ (t : List T). drop 1 t) (sym (behind_none queue (joined queues) none))
  turn_leaves (queue ∷ queues) (inr (all, none)) =
      before_none (drop 1 queue) (joined (others queues)) (all_drop _ queue all) (none_owned (others queues) (none_left queues none))
      ∙ ap (λ (t : List T). drop 1 t) (sym (before_none queue (joined queues) all (none_owned queues none)))

  pub still_alone : (queues : List (List T)) → IsAlone queues → IsAlone (others queues)
  still_alone [] alone = tt
  still_alone (queue ∷ queues) (inl (none, alone)) = inl (all_drop _ queue none, still_alone queues alone)
  still_alone (queue ∷ queues) (inr (all, none)) = inr (all_drop _ queue all, none_left queues none)

  -- queues in another order
  none_both : (qs rs : List (List T)) → AreNone qs → AreNone rs → AreNone (qs ++ rs)
  none_both [] rs these those = those
  none_both (q ∷ qs) rs (is, these) those = (is, none_both qs rs these those)

  none_parts : (qs rs : List (List T)) → AreNone (qs ++ rs) → AreNone qs × AreNone rs
  none_parts [] rs none = (tt, none)
  none_parts (q ∷ qs) rs (is, none) = let parts = none_parts qs rs none in ((is, parts.0), parts.1)

  alone_front : (qs rs : List (List T)) → IsAlone qs → AreNone rs → IsAlone (qs ++ rs)
  alone_front [] rs alone none = only rs none
    where
      only : (queues : List (List T)) → AreNone queues → IsAlone queues
      only [] are = tt
      only (queue ∷ queues) (is, are) = inl (is, only queues are)
  alone_front (q ∷ qs) rs (inl (is, alone)) none = inl (is, alone_front qs rs alone none)
  alone_front (q ∷ qs) rs (inr (all, are)) none = inr (all, none_both qs rs are none)

  alone_back : (qs rs : List (List T)) → AreNone qs → IsAlone rs → IsAlone (qs ++ rs)
  alone_back [] rs none alone = alone
  alone_back (q ∷ qs) rs (is, none) alone = inl (is, alone_back qs rs none alone)

  alone_parts : (qs rs : List (List T)) → IsAlone (qs ++ rs) → (IsAlone qs × AreNone rs) ⊎ (AreNone qs × IsAlone rs)
  alone_parts [] rs alone = inr (tt, alone)
  alone_parts (q ∷ qs) rs (inl (is, alone)) = by (alone_parts qs rs alone)
    where
      by : (IsAlone qs × AreNone rs) ⊎ (AreNone qs × IsAlone rs) → (IsAlone (q ∷ qs) × AreNone rs) ⊎ (AreNone (q ∷ qs) × IsAlone rs)
      by (inl (here, none)) = inl (inl (is, here), none)
      by (inr (none, there)) = inr ((is, none), there)
  alone_parts (q ∷ qs) rs (inr (all, none)) = let parts = none_parts qs rs none in inl (inr (all, parts.0), parts.1)

  owned_both : (qs rs : List (List T)) → owned (qs ++ rs) ≡ owned qs ++ owned rs
  owned_both qs rs = ap (texts_of account i) (flat_map-append (λ queue. queue) qs rs) ∙ texts_both (joined qs) (joined rs)

  turned : (qs rs : List (List T)) → IsAlone (qs ++ rs) → IsAlone (rs ++ qs) × (owned (rs ++ qs) ≡ owned (qs ++ rs))
  turned qs rs alone = by (alone_parts qs rs alone)
    where
      by : (IsAlone qs × AreNone rs) ⊎ (AreNone qs × IsAlone rs) → IsAlone (rs ++ qs) × (owned (rs ++ qs) ≡ owned (qs ++ rs))
      by (inl (here, none)) = (
        alone_back rs qs none here,
        owned_both rs qs ∙ ap (λ (t : List T). t ++ owned qs) (none_owned rs none) ∙ sym (append-nil (owned qs))
            ∙ ap (λ (t : List T). owned qs ++ t) (sym (none_owned rs none)) ∙ sym (owned_both qs rs),
      )
      by (inr (none, there)) = (
        alone_front rs qs there none,
        owned_both rs qs ∙ ap (λ (t : List T). owned rs ++ t) (none_owned qs none) ∙ append-nil (owned rs)
            ∙ ap (λ (t : List T). t ++ owned rs) (sym (none_owned qs none)) ∙ sym (owned_both qs rs),
      )

  pub rotated_alone : (round : ℕ) (queues : List (List T)) → IsAlone queues → IsAlone (rotated round queues) × (owned (rotated round queues) ≡ owned queues)
  rotated_alone round queues alone =
      let k = round % length queues in
      let whole : take k queues ++ drop k queues ≡ queues = take-append-drop k queues in
      let t = turned (take k queues) (drop k queues) (subst IsAlone (sym whole) alone) in
      (t.0, t.1 ∙ ap owned whole)

  -- the queues of the accounts are such
  of_others : (n : ℕ) (queue : List T) → n < i ⊎ i < n → AllByRecursion (λ text. account text ≡ n) queue → IsNone queue
  of_others n [] apart are = tt
  of_others n (text ∷ queue) apart (is, are) = (not_it (account text == i) refl, of_others n queue apart are)
    where
      not_it : (b : Bool) → (account text == i) ≡ b → b ≡ false
      not_it false same = refl
      not_it true same = absurd (never apart)
        where
          never : n < i ⊎ i < n → ⊥
          never (inl less) = let at = eqb-true (account text) i same in omega (arith, at, is, less)
          never (inr less) = let at = eqb-true (account text) i same in omega (arith, at, is, less)

  of_it : (queue : List T) → AllByRecursion (λ text. account text ≡ i) queue → IsAll queue
  of_it [] are = tt
  of_it (text ∷ queue) (is, are) = (eq-eqb (account text) i is, of_it queue are)

  none_from : (n : ℕ) (queues : List (List T)) → i < n → AreQueuesFrom account n queues → AreNone queues
  none_from n [] less are = tt
  none_from n (queue ∷ queues) less (is, are) = (of_others n queue (inr less) is, none_from (n + 1) queues (omega (arith, less)) are)

  pub its_queue : (k n : ℕ) (queues : List (List T)) → i ≡ n + k → AreQueuesFrom account n queues → IsAlone queues × (owned queues ≡ get_or queues k [])
  its_queue k n [] is are = (tt, refl)
  its_queue zero n (queue ∷ queues) is (here, are) =
      let same : n ≡ i = omega (arith, is) in
      let all = of_it queue (subst (λ (m : ℕ). AllByRecursion (λ text. account text ≡ m) queue) same here) in
      let none = none_from (n + 1) queues (omega (arith, is)) are in
      (inr (all, none), before_none queue (joined queues) all (none_owned queues none))
  its_queue (suc k) n (queue ∷ queues) is (here, are) =
      let none = of_others n queue (inl (omega (arith, is))) here in
      let later = its_queue k (n + 1) queues (omega (arith, is)) are in
      (inl (none, later.0), behind_none queue (joined queues) none ∙ later.1)
