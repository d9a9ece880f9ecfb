-- No goal goes back behind its cursor or out of the text.
use Rattle.std.specs.Prelude.{ℕ, zero, suc, ◌+◌, ◌-◌, ◌≤◌, List, [], ◌∷◌, ◌++◌, length, drop, Bool, true, false, not, ◌&&◌, if◌then◌else◌, nat_eq, nat_le, nat_lt}
use Rattle.std.proofs.Common.{arith}
use Rattle.std.specs.List.{starts_with, prefix_len, position_or_len, range_with_len}
use Rattle.interaction.specs.{Interactions.{Interaction, Returns, Asks}, Endings.{EndsIn}, Holding.{RunsTo}}
use Rattle.interaction.proofs.Enough.{ends_in_then, ends_in_weaker}
use Rattle.std.proofs.Common.{sym, subst}
use Rattle.sno_text.specs.{Patterns.{Pattern}, Sets.{is_one_of}, Balance.{part, balanced_ends}}
use Rattle.sno_text.specs.Patterns as pattern
use Rattle.sno_pattern.specs.{declared.ending.Pending.{Pending}, Looks.{Look, Told, Found, Given, Refused, Faulty}, inner.Found.{with_found}}
use Rattle.sno_pattern.specs.{Places.{one_end, MatchesWithin}, Laws.{MatchIsWithin}}
use Rattle.sno_pattern.proofs.{Finding.{Between, ends_between}, Firsts.{enough_starts}, Trying.{after_end}}
use Rattle.sno_pattern.specs.Steps.{Goal, Meet, More, EndConditional, EndImmediate, End, Success, Failure, WholeFails, OutOfSteps, Fault, Outcome, Trying, Way, ends, on_failure, at_each, pattern_found, if_given, row, attempt, outcome, Finish, settle, from_starts}
use Rattle.mon_text.specs.Beginnings.{first_passes}

-- goals come out from a cursor on
abbrev Onward : ℕ → ℕ → End → Type 0
Onward l c (Success at p) = (c ≤ at) × (at ≤ l)
Onward l c Failure = Unit {0}
Onward l c WholeFails = Unit {0}
Onward l c OutOfSteps = Unit {0}
Onward l c (Fault f) = Unit {0}

abbrev Comes : ℕ → ℕ → Outcome → Type 0
Comes l c o = Onward l c o.end

onward_less : (l b c : ℕ) → b ≤ c → (e : End) → Onward l c e → Onward l b e
onward_less l b c h (Success at p) k = let i = k.0 in (omega arith, k.1)
onward_less l b c h Failure k = tt
onward_less l b c h WholeFails k = tt
onward_less l b c h OutOfSteps k = tt
onward_less l b c h (Fault f) k = tt

further : (l b c : ℕ) → b ≤ c → (t : Trying) → EndsIn (Comes l c) t → EndsIn (Comes l b) t
further l b c h t k = ends_in_weaker (Comes l c) (Comes l b) t (λ o i. onward_less l b c h o.end i) k

after_comes : (l c : ℕ) (e : End) (n : ℕ) (second : ℕ → Trying) → Onward l c e → ((n : ℕ) → EndsIn (Comes l c) (second n))
    → EndsIn (Comes l c) (after_end e n second)
after_comes l c (Success at p) n second h k = h
after_comes l c Failure n second h k = k n
after_comes l c WholeFails n second h k = tt
after_comes l c OutOfSteps n second h k = tt
after_comes l c (Fault f) n second h k = tt

then_comes : (l c : ℕ) (t : Trying) (second : ℕ → Trying) → EndsIn (Comes l c) t → ((n : ℕ) → EndsIn (Comes l c) (second n))
    → EndsIn (Comes l c) (on_failure t second)
then_comes l c t second h k =
    ends_in_then (Comes l c) (Comes l c) t (λ o. after_end o.end o.left second) h (λ o i. after_comes l c o.end o.left second i k)

given_comes : (l c : ℕ) (told : Told) (n : ℕ) (go : Trying) → EndsIn (Comes l c) go → EndsIn (Comes l c) (if_given told n go)
given_comes l c Given n go h = h
given_comes l c (Found looked) n go h = tt
given_comes l c Refused n go h = tt
given_comes l c (Faulty f) n go h = tt

found_comes : (l c : ℕ) (told : Told) (n : ℕ) (go : Pattern → Trying) → ((p : Pattern) → EndsIn (Comes l c) (go p)) → EndsIn (Comes l c) (with_found told n go)
found_comes l c (Found looked) n go h = h (pattern_found looked)
found_comes l c Given n go h = tt
found_comes l c Refused n go h = tt
found_comes l c (Faulty f) n go h = tt

module _ (text : List ℕ) (go : Way) (comes : (gs : List Goal) (c : ℕ) (p : List Pending) (n : ℕ) → c ≤ length text
    → EndsIn (Comes (length text) c) (go gs c p n)) where
  each_comes : (r : List Goal) (c : ℕ) (cs : List ℕ) (p : List Pending) (n : ℕ) → Between (length text) c cs
      → EndsIn (Comes (length text) c) (at_each go r cs p n)
  each_comes r c [] p n h = tt
  each_comes r c (e ∷ cs) p n h =
      then_comes (length text) c (go r e p n) (λ n'. at_each go r cs p n') (further (length text) c e h.0 (go r e p n) (comes r e p n h.1))
      (λ n'. each_comes r c cs p n' h.2)

  one_comes : (r : List Goal) (c k : ℕ) (b : Bool) (p : List Pending) (n : ℕ) → Between (length text) c (one_end b k)
      → EndsIn (Comes (length text) c) (if b then go r k p n else ends Failure n)
  one_comes r c k true p n h = further (length text) c k h.0 (go r k p n) (comes r k p n h.1)
  one_comes r c k false p n h = tt

  two_come : (gs gs' : List Goal) (c : ℕ) (p : List Pending) (n : ℕ) → c ≤ length text
      → EndsIn (Comes (length text) c) (on_failure (go gs c p n) (λ n'. go gs' c p n'))
  two_come gs gs' c p n h = then_comes (length text) c (go gs c p n) (λ n'. go gs' c p n') (comes gs c p n h) (λ n'. comes gs' c p n' h)

  more_comes : (b : Bool) (gs gs' : List Goal) (c : ℕ) (p : List Pending) (n : ℕ) → c ≤ length text
      → EndsIn (Comes (length text) c) (if b then ends Failure n else on_failure (go gs c p n) (λ n'. go gs' c p n'))
  more_comes true gs gs' c p n h = tt
  more_comes false gs gs' c p n h = two_come gs gs' c p n h

  row_comes : (g : Goal) (r : List Goal) (c : ℕ) (p : List Pending) (n : ℕ) → c ≤ length text → EndsIn (Comes (length text) c) (row text go g r c p n)
  unfolding row
  row_comes (Meet (pattern.Text s)) r c p n h = one_comes r c (c + length s) (starts_with nat_eq (drop c text) s) p n (ends_between text (pattern.Text s) c h)
  row_comes (Meet (pattern.Len k)) r c p n h = one_comes r c (c + k) (nat_le (c + k) (length text)) p n (ends_between text (pattern.Len k) c h)
  row_comes (Meet (pattern.Pos k)) r c p n h = one_comes r c c (nat_eq c k) p n (ends_between text (pattern.Pos k) c h)
  row_comes (Meet (pattern.RPos k)) r c p n h = one_comes r c c (nat_eq (c + k) (length text)) p n (ends_between text (pattern.RPos k) c h)
  row_comes (Meet (pattern.Tab k)) r c p n h = one_comes r c k (nat_le c k && nat_le k (length text)) p n (ends_between text (pattern.Tab k) c h)
  row_comes (Meet (pattern.RTab k)) r c p n h = one_comes r c (length text - k) (nat_le (c + k) (length text)) p n (ends_between text (pattern.RTab k) c h)
  row_comes (Meet (pattern.Any s)) r c p n h = one_comes r c (c + 1) (first_passes (is_one_of s) (drop c text)) p n (ends_between text (pattern.Any s) c h)
  row_comes (Meet (pattern.NotAny s)) r c p n h = one_comes r c (c + 1) (first_passes (λ x. not (is_one_of s x)) (drop c text)) p n
      (ends_between text (pattern.NotAny s) c h)
  row_comes (Meet (pattern.Span s)) r c p n h = one_comes r c (c + prefix_len (is_one_of s) (drop c text))
      (first_passes (is_one_of s) (drop c text)) p n (ends_between text (pattern.Span s) c h)
  row_comes (Meet (pattern.Break s)) r c p n h = one_comes r c (c + position_or_len (is_one_of s) (drop c text))
      (nat_lt (c + position_or_len (is_one_of s) (drop c text)) (length text)) p n (ends_between text (pattern.Break s) c h)
  row_comes (Meet pattern.Rem) r c p n h = further (length text) c (length text) h (go r (length text) p n) (comes r (length text) p n (omega arith))
  row_comes (Meet pattern.Arb) r c p n h = each_comes r c (range_with_len c (length text + 1 - c)) p n (ends_between text pattern.Arb c h)
  row_comes (Meet pattern.Bal) r c p n h = each_comes r c (balanced_ends text c) p n (ends_between text pattern.Bal c h)
  row_comes (Meet (pattern.Cat a b)) r c p n h = comes (Meet a ∷ Meet b ∷ r) c p n h
  row_comes (Meet (pattern.Alt a b)) r c p n h = two_come (Meet a ∷ r) (Meet b ∷ r) c p n h
  row_comes (Meet (pattern.Arbno a)) r c p n h = two_come r (Meet a ∷ More a c ∷ r) c p n h
  row_comes (More a d) r c p n h = more_comes (nat_eq c d) r (Meet a ∷ More a c ∷ r) c p n h
  row_comes (Meet (pattern.Conditional a v)) r c p n h = comes (Meet a ∷ EndConditional v c ∷ r) c p n h
  row_comes (EndConditional v d) r c p n h = comes r c (p ++ record { variable = v; text = part text d c } ∷ []) n h
  row_comes (Meet (pattern.Immediate a v)) r c p n h = comes (Meet a ∷ EndImmediate v c ∷ r) c p n h
  row_comes (EndImmediate v d) r c p n h = λ told. given_comes (length text) c told n (go r c p n) (comes r c p n h)
  row_comes (Meet (pattern.Cursor v)) r c p n h = λ told. given_comes (length text) c told n (go r c p n) (comes r c p n h)
  row_comes (Meet (pattern.Defer v)) r c p n h = λ told. found_comes (length text) c told n (λ a. go (Meet a ∷ r) c p n) (λ a. comes (Meet a ∷ r) c p n h)
  row_comes (Meet pattern.Fail) r c p n h = tt
  row_comes (Meet pattern.Abort) r c p n h = tt
  row_comes (Meet pattern.Fence) r c p n h = then_comes (length text) c (go r c p n) (λ n'. ends WholeFails n') (comes r c p n h) (λ n'. tt)
  row_comes (Meet pattern.Succeed) r c p n h = two_come r (Meet pattern.Succeed ∷ r) c p n h

attempt_comes : (text : List ℕ) (d : ℕ) (gs : List Goal) (c : ℕ) (p : List Pending) (n : ℕ) → c ≤ length text
    → EndsIn (Comes (length text) c) (attempt text d gs c p n)
unfolding attempt
attempt_comes text d [] c p n h = (omega arith, h)
attempt_comes text d (g ∷ r) c p zero h = tt
attempt_comes text zero (g ∷ r) c p (suc n) h = tt
attempt_comes text (suc d) (g ∷ r) c p (suc n) h = row_comes text (attempt text d) (attempt_comes text d) g r c p n h

outcome_comes : (text : List ℕ) (gs : List Goal) (c : ℕ) (p : List Pending) (n : ℕ) → c ≤ length text → EndsIn (Comes (length text) c) (outcome text gs c p n)
unfolding outcome
outcome_comes text gs c p n h = attempt_comes text n gs c p n h

abbrev Finishes : ℕ → Finish → Type 0
Finishes l f = MatchesWithin l f.end

settle_within : (l at : ℕ) (next : ℕ → Interaction Look Told Finish) → ((n : ℕ) → EndsIn (Finishes l) (next n)) → (e : End) (n : ℕ) → Onward l at e
    → EndsIn (Finishes l) (settle at e n next)
settle_within l at next h (Success to p) n k = k
settle_within l at next h Failure n k = h n
settle_within l at next h WholeFails n k = tt
settle_within l at next h OutOfSteps n k = tt
settle_within l at next h (Fault f) n k = tt

starts_within : (text : List ℕ) (p : Pattern) (k at n : ℕ) → at + k ≤ length text + 1 → EndsIn (Finishes (length text)) (from_starts text p k at n)
starts_within text p zero at n h = tt
starts_within text p (suc k) at n h =
    ends_in_then (Comes (length text) at) (Finishes (length text)) (outcome text (Meet p ∷ []) at [] n)
    (λ o. settle at o.end o.left (λ n'. from_starts text p k (at + 1) n'))
    (outcome_comes text (Meet p ∷ []) at [] n (omega arith))
    (λ o i. settle_within (length text) at (λ n'. from_starts text p k (at + 1) n') (λ n'. starts_within text p k (at + 1) n' (omega arith)) o.end o.left i)

pub matches_within : MatchIsWithin
matches_within text p anchored limit =
    ends_in_then (Finishes (length text)) (MatchesWithin (length text)) (from_starts text p (if anchored then 1 else (length text + 1)) 0 limit)
    (λ f. Returns f.end)
    (starts_within text p (if anchored then 1 else (length text + 1)) 0 limit (enough_starts (length text) anchored)) (λ f i. i)

-- what an interaction ends with in any case, it ended with where it was held
pub held_ends : {S Q R A : Type 0} (meaning : S → Q → R → S → Type 0) (fits : Q → R → Type 0) (P : A → Type 0) (t : Interaction Q R A) (s : S) (a : A) (s' : S)
    → EndsIn P t → RunsTo meaning fits t s a s' → P a
held_ends meaning fits P (Returns b) s a s' h k = subst P (sym k.0) h
held_ends meaning fits P (Asks q f) s a s' h k = held_ends meaning fits P (f k.0) k.1 a s' (h k.0) k.4
