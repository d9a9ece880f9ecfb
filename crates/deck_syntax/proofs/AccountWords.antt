-- The words of an account's line: the first two apart, and the others one after another.
use Rattle.std.proofs.Common.{◌≡◌, ℕ, zero, suc, ◌+◌, ◌-◌, ◌<◌, ◌≤◌, Bool, true, false, ◌&&◌, List, [], ◌∷◌, ◌++◌, length, drop, take, get_or, Some, None, slice_get, refl, sym, ap, ◌∙◌, arith, nat_lt}
use Rattle.std.{specs.List.{list_all}, proofs.lemmas.List.{take_more}, proofs.lemmas.List.Folds.{list_all_at, list_all_more}, specs.Option.{option_or}}
use Rattle.std.proofs.lemmas.{Option.{slice_get_within, get_or_from_slice_get}, Bool.Decides.{nat_tests}}
use Rattle.mon_text.specs.{Names.{is_name}, declared.stop.Stop.{Stop}, declared.stop.Stop.TheVariants.{Refused, Memory}}
use Rattle.deck_lines.specs.{declared.deck_error.DeckError.{DeckError}, declared.deck_error.DeckError.TheVariants.{BadName, BadCard}, inner.Stops.{IfRefused}}
use Rattle.deck_lines.specs.Refusing.{unless}
use Rattle.deck_syntax.specs.{Sections.{account_on}, inner.Parts.{words_refusal}}

-- a word behind the first two is one of the others
others_at : (ws : List (List ℕ)) (place : ℕ) (w : List ℕ) → 2 ≤ place → slice_get ws place ≡ Some w → slice_get (drop 2 ws) (place - 2) ≡ Some w
others_at [] place w late here = absurd (omega (arith, slice_get_within [] place w here))
others_at (a ∷ []) place w late here = absurd (omega (arith, slice_get_within (a ∷ []) place w here))
others_at (a ∷ b ∷ ws) zero w late here = absurd (omega arith)
others_at (a ∷ b ∷ ws) (suc zero) w late here = absurd (omega arith)
others_at (a ∷ b ∷ ws) (suc (suc k)) w late here = let e : suc (suc k) - 2 ≡ k = omega arith in rw e here

-- a word that is no name
pub bad_at : (ws : List (List ℕ)) (place : ℕ) (w : List ℕ) → 2 ≤ place → slice_get ws place ≡ Some w → is_name w ≡ false → list_all is_name (drop 2 ws) ≡ false
bad_at ws place w late here bad =
    let there = others_at ws place w late here in
    list_all_at is_name (drop 2 ws) (place - 2) [] (slice_get_within (drop 2 ws) (place - 2) w there) (ap is_name (get_or_from_slice_get (drop 2 ws) (place - 2) w [] there) ∙ bad)

-- one more name
pub more_at : (ws gs : List (List ℕ)) (place : ℕ) (w : List ℕ) → 2 ≤ place → slice_get ws place ≡ Some w → is_name w ≡ true
    → gs ≡ take (place - 2) (drop 2 ws) → list_all is_name (take (place - 2) (drop 2 ws)) ≡ true
    → record { read : gs ++ w ∷ [] ≡ take (place + 1 - 2) (drop 2 ws); names : list_all is_name (take (place + 1 - 2) (drop 2 ws)) ≡ true }
more_at ws gs place w late here good read names =
    let there = others_at ws place w late here in
    let inside : place - 2 < length (drop 2 ws) = slice_get_within (drop 2 ws) (place - 2) w there in
    let next : place + 1 - 2 ≡ place - 2 + 1 = omega arith in
    let found : get_or (drop 2 ws) (place - 2) [] ≡ w = get_or_from_slice_get (drop 2 ws) (place - 2) w [] there in
    let longer : take (place - 2 + 1) (drop 2 ws) ≡ take (place - 2) (drop 2 ws) ++ w ∷ [] = take_more (drop 2 ws) (place - 2) [] inside ∙ ap (λ v. take (place - 2) (drop 2 ws) ++ v ∷ []) found in
    let passes : list_all is_name (take (place - 2 + 1) (drop 2 ws)) ≡ true = list_all_more is_name (drop 2 ws) (place - 2) [] inside ∙ ap (λ b. b && is_name (get_or (drop 2 ws) (place - 2) [])) names ∙ ap is_name found ∙ good in
    record { read = rw next (ap (λ l. l ++ w ∷ []) read ∙ sym longer); names = rw next passes }

pub names_apart : (ws : List (List ℕ)) (a b : List ℕ) → slice_get ws 0 ≡ Some a → slice_get ws 1 ≡ Some b
    → words_refusal ws ≡ unless (is_name a && (is_name b && list_all is_name (drop 2 ws))) BadName
names_apart [] a b first second = cc
names_apart (c ∷ []) a b first second = cc
names_apart (c ∷ d ∷ ws) a b first second =
    let two : nat_lt 1 (suc (suc (length ws))) ≡ true = grind (arith, nat_tests) in
    let one : c ≡ a = cc in
    let other : d ≡ b = cc in
    ap (λ t. option_or (unless t BadCard) (unless (is_name c && (is_name d && list_all is_name ws)) BadName)) two
    ∙ ap (λ v. unless (is_name v && (is_name d && list_all is_name ws)) BadName) one
    ∙ ap (λ v. unless (is_name a && (is_name v && list_all is_name ws)) BadName) other

pub account_apart : (ws : List (List ℕ)) (a b : List ℕ) → slice_get ws 0 ≡ Some a → slice_get ws 1 ≡ Some b
    → account_on ws ≡ record { name = a; primary = b; groups = drop 2 ws }
account_apart [] a b first second = cc
account_apart (c ∷ []) a b first second = cc
account_apart (c ∷ d ∷ ws) a b first second =
    let one : c ≡ a = cc in
    let other : d ≡ b = cc in
    cc

-- what was not refused passes
pub passes : (b : Bool) → unless b BadName ≡ None → b ≡ true
passes true fine = refl
passes false some = cc

-- a word that was refused refuses them all, and with the same code
pub others_refused : (ws : List (List ℕ)) (place : ℕ) (w : List ℕ) → 2 ≤ place → slice_get ws place ≡ Some w
    → (stop : Stop DeckError) → IfRefused (λ code. unless (is_name w) BadName ≡ Some code) stop → IfRefused (λ code. unless (list_all is_name (drop 2 ws)) BadName ≡ Some code) stop
others_refused ws place w late here Memory refused = tt
others_refused ws place w late here (Refused code) refused = by (is_name w) refl
  where
    by : (b : Bool) → is_name w ≡ b → unless (list_all is_name (drop 2 ws)) BadName ≡ Some code
    by true good = let none : unless true BadName ≡ Some code = sym (ap (λ b. unless b BadName) good) ∙ refused in cc
    by false bad = ap (λ b. unless b BadName) (bad_at ws place w late here bad) ∙ sym (ap (λ b. unless b BadName) bad) ∙ refused

-- the first word of an account's line
pub first_refused : (ws : List (List ℕ)) (w : List ℕ) → 2 ≤ length ws → slice_get ws 0 ≡ Some w
    → (stop : Stop DeckError) → IfRefused (λ code. unless (is_name w) BadName ≡ Some code) stop → IfRefused (λ code. words_refusal ws ≡ Some code) stop
first_refused [] w two first stop refused = absurd (omega arith)
first_refused (a ∷ []) w two first stop refused = absurd (omega arith)
first_refused (a ∷ b ∷ ws) w two first Memory refused = tt
first_refused (a ∷ b ∷ ws) w two first (Refused code) refused = names_apart (a ∷ b ∷ ws) w b first refl ∙ by (is_name w) refl
  where
    by : (v : Bool) → is_name w ≡ v → unless (is_name w && (is_name b && list_all is_name ws)) BadName ≡ Some code
    by true good = let none : unless true BadName ≡ Some code = sym (ap (λ v. unless v BadName) good) ∙ refused in cc
    by false bad = ap (λ v. unless (v && (is_name b && list_all is_name ws)) BadName) bad ∙ sym (ap (λ v. unless v BadName) bad) ∙ refused

-- the second one, after a good first one
pub second_refused : (ws : List (List ℕ)) (v w : List ℕ) → 2 ≤ length ws → slice_get ws 0 ≡ Some v → slice_get ws 1 ≡ Some w → unless (is_name v) BadName ≡ None
    → (stop : Stop DeckError) → IfRefused (λ code. unless (is_name w) BadName ≡ Some code) stop → IfRefused (λ code. words_refusal ws ≡ Some code) stop
second_refused ws v w two first second good Memory refused = tt
second_refused ws v w two first second good (Refused code) refused = names_apart ws v w first second ∙ by (is_name v) refl (is_name w) refl
  where
    by : (x : Bool) → is_name v ≡ x → (y : Bool) → is_name w ≡ y → unless (is_name v && (is_name w && list_all is_name (drop 2 ws))) BadName ≡ Some code
    by false bad y e = let some : Some BadName ≡ None = sym (ap (λ b. unless b BadName) bad) ∙ good in cc
    by true fine true e = let none : unless true BadName ≡ Some code = sym (ap (λ b. unless b BadName) e) ∙ refused in cc
    by true fine false e =
        ap (λ b. unless (b && (is_name w && list_all is_name (drop 2 ws))) BadName) fine
        ∙ ap (λ b. unless (b && list_all is_name (drop 2 ws)) BadName) e
        ∙ sym (ap (λ b. unless b BadName) e) ∙ refused

pub ruleset account_words = (names_apart, account_apart, bad_at, more_at)
