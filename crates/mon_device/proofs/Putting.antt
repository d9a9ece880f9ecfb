-- Texts that are put to a sink one after the other.
use Rattle.std.proofs.Common.{◌≡◌, ◌<◌, ◌≤◌, ℕ, ◌+◌, List, [], ◌∷◌, ◌++◌, Bool, true, false, true≢false, length, take, Option, refl, sym, ap, subst, ◌∙◌, append_assoc, append-nil, get_or}
use Rattle.std.{specs.List.{flat_map}, proofs.lemmas.List.{take_more, take_all}, proofs.lemmas.Grind.{flat_map-append}}
use Rattle.mon_device.{specs.Devices.{holding, HasTaken}, specs.Putting.{Standing, Puts}, proofs.Holding.{holding-append, holding-nothing}}

pub puts_nothing : (a : Standing) → Puts a a []
puts_nothing a = record {
  rest = a.gathered;
  taken = ([], sym (holding-nothing a.written), append-nil a.gathered);
  all = λ sound. (sound, refl);
  stays = λ failed. refl;
  apart = (refl, refl, refl);
}

pub puts_same : (a b : Standing) (s t : List ℕ) → s ≡ t → Puts a b s → Puts a b t
puts_same a b s t same puts = subst (λ (v : List ℕ). Puts a b v) same puts

-- where the first text failed, nothing more is taken
then_failed : (a b c : Standing) (s t : List ℕ) → b.failed ≡ true → Puts a b s → Puts b c t → Puts a c (s ++ t)
then_failed a b c s t failed first second =
    let same : c ≡ b = second.stays failed in
    record {
      rest = first.rest ++ t;
      taken = (
        first.taken.0,
        ap (λ (v : Standing). v.written) same ∙ first.taken.1,
        sym (append_assoc a.gathered s t) ∙ ap (λ (v : List ℕ). v ++ t) first.taken.2 ∙ append_assoc first.taken.0 first.rest t,
      );
      all = λ sound. absurd (true≢false (sym failed ∙ (second.all sound).0));
      stays = λ before. same ∙ first.stays before;
      apart = (second.apart.0 ∙ first.apart.0, second.apart.1 ∙ first.apart.1, second.apart.2 ∙ first.apart.2);
    }

-- where it did not, the second follows it
then_sound : (a b c : Standing) (s t : List ℕ) → b.failed ≡ false → Puts a b s → Puts b c t → Puts a c (s ++ t)
then_sound a b c s t sound first second =
    let gathered : first.rest ≡ b.gathered = (first.all sound).1 in
    record {
      rest = second.rest;
      taken = (
        first.taken.0 ++ second.taken.0,
        second.taken.1 ∙ ap (λ (v : Option (List ℕ)). holding v second.taken.0) first.taken.1 ∙ holding-append a.written first.taken.0 second.taken.0,
        sym (append_assoc a.gathered s t) ∙ ap (λ (v : List ℕ). v ++ t) (first.taken.2 ∙ ap (λ (v : List ℕ). first.taken.0 ++ v) gathered)
            ∙ append_assoc first.taken.0 b.gathered t ∙ ap (λ (v : List ℕ). first.taken.0 ++ v) second.taken.2 ∙ sym (append_assoc first.taken.0 second.taken.0 second.rest),
      );
      all = λ after. ((first.all sound).0, (second.all after).1);
      stays = λ before. absurd (true≢false (sym before ∙ (first.all sound).0));
      apart = (second.apart.0 ∙ first.apart.0, second.apart.1 ∙ first.apart.1, second.apart.2 ∙ first.apart.2);
    }

then_at : (failed : Bool) (a b c : Standing) (s t : List ℕ) → b.failed ≡ failed → Puts a b s → Puts b c t → Puts a c (s ++ t)
then_at true a b c s t is first second = then_failed a b c s t is first second
then_at false a b c s t is first second = then_sound a b c s t is first second

pub puts_then : (a b c : Standing) (s t : List ℕ) → Puts a b s → Puts b c t → Puts a c (s ++ t)
puts_then a b c s t first second = then_at b.failed a b c s t refl first second

-- three texts and four, each behind the other
pub puts_three : (a b c d : Standing) (s t u : List ℕ) → Puts a b s → Puts b c t → Puts c d u → Puts a d (s ++ t ++ u)
puts_three a b c d s t u first second third = puts_then a c d (s ++ t) u (puts_then a b c s t first second) third

pub puts_four : (a b c d e : Standing) (s t u v : List ℕ) → Puts a b s → Puts b c t → Puts c d u → Puts d e v → Puts a e (s ++ t ++ u ++ v)
puts_four a b c d e s t u v first second third fourth = puts_then a d e (s ++ t ++ u) v (puts_three a b c d s t u first second third) fourth

-- a text is gathered, and nothing is written
pub puts_gathered : (a b : Standing) (text : List ℕ) → a.failed ≡ false → b ≡ record a { gathered = a.gathered ++ text } → Puts a b text
puts_gathered a b text sound is =
    subst (λ (v : Standing). Puts a v text) (sym is) (record {
      rest = a.gathered ++ text;
      taken = ([], sym (holding-nothing a.written), refl);
      all = λ after. (sound, refl);
      stays = λ failed. absurd (true≢false (sym failed ∙ sound));
      apart = (refl, refl, refl);
    })

-- a sink that has failed takes nothing
pub puts_failed : (a b : Standing) (text : List ℕ) → a.failed ≡ true → b ≡ a → Puts a b text
puts_failed a b text failed is =
    subst (λ (v : Standing). Puts a v text) (sym is) (record {
      rest = a.gathered ++ text;
      taken = ([], sym (holding-nothing a.written), refl);
      all = λ sound. absurd (true≢false (sym failed ∙ sound));
      stays = λ before. refl;
      apart = (refl, refl, refl);
    })

-- of texts in a row one more, which stands at an index
pub puts_each_at : {X : Type 0} (f : X → List ℕ) (xs : List X) (i : ℕ) (d x : X) (a b c : Standing) → i < length xs → x ≡ get_or xs i d → Puts a b (flat_map f (take i xs))
    → Puts b c (f x) → Puts a c (flat_map f (take (i + 1) xs))
puts_each_at f xs i d x a b c inside is so_far one =
    puts_same a c (flat_map f (take i xs) ++ f x) (flat_map f (take (i + 1) xs))
    (sym (ap (flat_map f) (take_more xs i d inside) ∙ flat_map-append f (take i xs) (get_or xs i d ∷ []) ∙ ap (λ (v : List ℕ). flat_map f (take i xs) ++ v) (append-nil (f (get_or xs i d)))
    ∙ ap (λ y. flat_map f (take i xs) ++ f y) (sym is)))
    (puts_then a b c (flat_map f (take i xs)) (f x) so_far one)

pub puts_each : {X : Type 0} (f : X → List ℕ) (xs : List X) (i : ℕ) (x : X) (a b c : Standing) → i < length xs → x ≡ get_or xs i x → Puts a b (flat_map f (take i xs)) → Puts b c (f x)
    → Puts a c (flat_map f (take (i + 1) xs))
puts_each f xs i x a b c inside is so_far one = puts_each_at f xs i x x a b c inside is so_far one

-- and all
pub puts_all : {X : Type 0} (f : X → List ℕ) (xs : List X) (i : ℕ) (a b : Standing) → length xs ≤ i → Puts a b (flat_map f (take i xs)) → Puts a b (flat_map f xs)
puts_all f xs i a b whole puts = puts_same a b (flat_map f (take i xs)) (flat_map f xs) (ap (flat_map f) (take_all i xs whole)) puts

-- and else a beginning of it
pub begun_put : (a b : Standing) (text : List ℕ) → Puts a b text → a.gathered ≡ [] → (rest : List ℕ) × HasTaken a.written b.written text rest
begun_put a b text puts empty = (puts.rest, (puts.taken.0, puts.taken.1, ap (λ (v : List ℕ). v ++ text) (sym empty) ∙ puts.taken.2))
