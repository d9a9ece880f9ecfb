-- The ends of parts with their parentheses in pairs, character by character.
use Rattle.std.specs.Prelude.{ℕ, zero, suc, ◌+◌, ◌-◌, ◌≤◌, List, [], ◌∷◌, length, take, drop, Bool, true, false, cond, if◌then◌else◌, nat_eq, Option, Some, None}
use Rattle.std.proofs.Common.{◌≡◌, refl, sym, ap, ◌∙◌, arith, length-drop, get_or, drop-cons, add-one, ◌<◌, ◌≢◌, subst}
use Rattle.std.specs.List.{filter, range_with_len}
use Rattle.sno_text.{specs.Balance.{part, balanced_ends}, specs.inner.Reaching.{closes, open_after}, proofs.Pairs.{pairs_close}}

-- the ends after c of parts that pass the test, where these characters follow c
abbrev pub ends_where : (List ℕ → Bool) → ℕ → List ℕ → List ℕ
ends_where test c [] = []
ends_where test c (x ∷ xs) =
    cond (test (x ∷ [])) ((c + 1) ∷ ends_where (λ s. test (x ∷ s)) (c + 1) xs) (ends_where (λ s. test (x ∷ s)) (c + 1) xs)

filter_same : (g h : ℕ → Bool) (b k : ℕ) → ((e : ℕ) → b ≤ e → g e ≡ h e) → filter g (range_with_len b k) ≡ filter h (range_with_len b k)
filter_same g h b zero same = refl
filter_same g h b (suc k) same =
    ap (λ t. cond t (b ∷ filter g (range_with_len (b + 1) k)) (filter g (range_with_len (b + 1) k))) (same b (omega arith))
    ∙ ap (λ es. cond (h b) (b ∷ es) es) (filter_same g h (b + 1) k (λ e l. same e (omega arith)))

filter_is : (test : List ℕ → Bool) (c : ℕ) (xs : List ℕ) → filter (λ e. test (take (e - c) xs)) (range_with_len (c + 1) (length xs)) ≡ ends_where test c xs
filter_is test c [] = refl
filter_is test c (x ∷ xs) =
    let one : c + 1 - c ≡ 1 = omega arith in
    let rest : filter (λ e. test (take (e - c) (x ∷ xs))) (range_with_len (c + 1 + 1) (length xs)) ≡ ends_where (λ s. test (x ∷ s)) (c + 1) xs =
    (filter_same (λ e. test (take (e - c) (x ∷ xs))) (λ e. test (x ∷ take (e - (c + 1)) xs)) (c + 1 + 1) (length xs)
    (λ e l. let more : e - c ≡ suc (e - (c + 1)) = omega arith in ap (λ k. test (take k (x ∷ xs))) more)
    ∙ filter_is (λ s. test (x ∷ s)) (c + 1) xs) in
    ap (λ k. cond (test (take k (x ∷ xs))) ((c + 1) ∷ filter (λ e. test (take (e - c) (x ∷ xs))) (range_with_len (c + 1 + 1) (length xs)))
    (filter (λ e. test (take (e - c) (x ∷ xs))) (range_with_len (c + 1 + 1) (length xs)))) one
    ∙ ap (λ es. cond (test (x ∷ [])) ((c + 1) ∷ es) es) rest

pub balanced_is : (text : List ℕ) (c : ℕ) → balanced_ends text c ≡ ends_where (closes 0) c (drop c text)
balanced_is text c =
    ap (λ (test : List ℕ → Bool). filter (λ e. test (part text c e)) (range_with_len (c + 1) (length text - c))) pairs_close
    ∙ ap (λ k. filter (λ e. closes 0 (part text c e)) (range_with_len (c + 1) k)) (sym (length-drop c text))
    ∙ filter_is (closes 0) c (drop c text)

abbrev closes_open : Option ℕ → List ℕ → Bool
closes_open None s = false
closes_open (Some k) s = closes k s

by_character : (here there : Bool) (a b c : Option ℕ) (s : List ℕ)
    → (if here then closes_open a s else if there then closes_open b s else closes_open c s) ≡ closes_open (if here then a else if there then b else c) s
by_character true there a b c s = refl
by_character false true a b c s = refl
by_character false false a b c s = refl

closes_after : (k x : ℕ) (s : List ℕ) → closes k (x ∷ s) ≡ closes_open (open_after k x) s
closes_after zero x s = by_character (nat_eq x 40) (nat_eq x 41) (Some 1) None (Some zero) s
closes_after (suc k) x s = by_character (nat_eq x 40) (nat_eq x 41) (Some (suc (suc k))) (Some k) (Some (suc k)) s

none_ends : (c : ℕ) (xs : List ℕ) → ends_where (λ s. false) c xs ≡ []
none_ends c [] = refl
none_ends c (x ∷ xs) = none_ends (c + 1) xs

-- the ends after one more character
abbrev pub after_one : Option ℕ → ℕ → List ℕ → List ℕ
after_one None c xs = []
after_one (Some zero) c xs = c ∷ ends_where (closes zero) c xs
after_one (Some (suc k)) c xs = ends_where (closes (suc k)) c xs

open_ends : (o : Option ℕ) (c : ℕ) (xs : List ℕ) → cond (closes_open o []) (c ∷ ends_where (λ s. closes_open o s) c xs)
    (ends_where (λ s. closes_open o s) c xs) ≡ after_one o c xs
open_ends None c xs = none_ends c xs
open_ends (Some zero) c xs = refl
open_ends (Some (suc k)) c xs = refl

pub one_on : (k x c : ℕ) (xs : List ℕ) → ends_where (closes k) c (x ∷ xs) ≡ after_one (open_after k x) (c + 1) xs
one_on k x c xs =
    ap (λ (f : List ℕ → Bool). cond (f []) ((c + 1) ∷ ends_where f (c + 1) xs) (ends_where f (c + 1) xs))
    (funext (λ s. closes k (x ∷ s)) (λ s. closes_open (open_after k x) s) (λ s. closes_after k x s))
    ∙ open_ends (open_after k x) (c + 1) xs
  where
    funext : (f g : List ℕ → Bool) → ((s : List ℕ) → f s ≡ g s) → f ≡ g
    funext f g h = λ i s. h s i

-- further on in a text
module _ (text : List ℕ) (from at k : ℕ) (lt : at < length text) (same : balanced_ends text from ≡ ends_where (closes k) at (drop at text)) where
  ahead : drop at text ≡ get_or text at 0 ∷ drop (at + 1) text
  ahead = rw add-one (drop-cons text at 0 lt)

  pub onward : (o : Option ℕ) → open_after k (get_or text at 0) ≡ o → balanced_ends text from ≡ after_one o (at + 1) (drop (at + 1) text)
  onward o e =
      same ∙ ap (λ xs. ends_where (closes k) at xs) ahead ∙ one_on k (get_or text at 0) at (drop (at + 1) text)
      ∙ ap (λ p. after_one p (at + 1) (drop (at + 1) text)) e

  pub found : (m : ℕ) → m ≡ 0 → open_after k (get_or text at 0) ≡ Some m → balanced_ends text from ≡ (at + 1) ∷ balanced_ends text (at + 1)
  found m z e = onward (Some 0) (e ∙ ap Some z) ∙ ap (λ es. (at + 1) ∷ es) (sym (balanced_is text (at + 1)))

  pub not_yet : (m : ℕ) → m ≢ 0 → open_after k (get_or text at 0) ≡ Some m → balanced_ends text from ≡ ends_where (closes m) (at + 1) (drop (at + 1) text)
  not_yet zero z e = absurd (z refl)
  not_yet (suc m) z e = onward (Some (suc m)) e

abbrev AtMost : ℕ → Option ℕ → Type 0
AtMost n None = Unit {0}
AtMost n (Some m) = m ≤ n

most_if : (here there : Bool) (n : ℕ) (a b c : Option ℕ) → AtMost n a → AtMost n b → AtMost n c → AtMost n (if here then a else if there then b else c)
most_if true there n a b c h k l = h
most_if false true n a b c h k l = k
most_if false false n a b c h k l = l

most_open : (k x : ℕ) → AtMost (k + 1) (open_after k x)
most_open zero x = most_if (nat_eq x 40) (nat_eq x 41) 1 (Some 1) None (Some 0) (omega arith) tt (omega arith)
most_open (suc k) x = most_if (nat_eq x 40) (nat_eq x 41) (suc k + 1) (Some (suc (suc k))) (Some k) (Some (suc k)) (omega arith) (omega arith) (omega arith)

pub few_more : (k x m : ℕ) → open_after k x ≡ Some m → m ≤ k + 1
few_more k x m e = subst (AtMost (k + 1)) e (most_open k x)
