-- What `clap` finds in the words that give options.
use Rattle.std.proofs.Common.{◌≡◌, ◌∙◌, ◌⊎◌, ◌≤◌, ℕ, inl, inr, Bool, true, false, List, [], ◌++◌, Option, Some, None, refl, sym, ap, subst, codes, drop, true≢false}
use Rattle.std.specs.{Prelude.{if◌then◌else◌}, Str.Parse.{digits_value, without_leading_plus}}
use Rattle.clap.specs.{Lexer.{without_minus}, Walk.{Text, finished, nothing_held, one_of, rows_after, settled, walk, walk_from}, Takes.{built_takes, takes}}
use Rattle.clap.specs.{Simple.{App, HasMatchesOf, built, is_simple, matches_of}, Matches.{found_of, one_text}, Values.{kind_of}, declared.error.Error.{Error}}
use Rattle.clap.specs.{Faults.{check_fault, defaults_fault, fault_of, is_simple_and_free, settle_fault, walk_fault}, declared.error.kind.ErrorKind.{ErrorKind}}
use Rattle.clap.specs.{declared.parser.matches.ArgMatches.{ArgMatches}, Kinds.{Kinds, or_else}}
use Rattle.clap.proofs.{FaultLemmas.{leaf_fault}, WalkLemmas.{one_text-rows}, OnLiterals.{clap_on_literals}}
use Rattle.deck_driver.specs.declared.options.Options.{Options}
use Rattle.snomon_library.specs.CommandLine.{Asks, Gives, GivesNumber, SlotsOption, Writes, apart, check_words, end_words, joined, left_out, slots_words, snomon}
use Rattle.snomon_library.proofs.Numbers.{no_end, no_long, no_short, passed, passes, passing, without_minus_is}
use Rattle.snomon_library.proofs.{Taken.{Forms, Passes, both_empty, run, words_taken}, Words.{check_id, first_empty, rules, second_empty, slots_id, top}}

-- the texts that are read of the two options
abbrev pub flag_text : Bool → Text
flag_text check = if check then codes "true" else codes "false"

abbrev pub number_text : SlotsOption → Option Text
number_text left_out = None
number_text (apart text) = Some (without_minus text)
number_text (joined text) = Some (without_minus text)

-- the words pass, and these texts are found
abbrev Known : Bool → SlotsOption → List Text → Type 0
Known check given words = (built_takes (built snomon) nothing_held words ≡ true)
    × (one_of check_id (rows_after rules [] words) ≡ Some (flag_text check))
    × (one_of slots_id (rows_after rules [] words) ≡ number_text given)

first_known : (check is_ended : Bool) (given : SlotsOption) → Passes given
    → Known check given (check_words check ++ slots_words given ++ end_words is_ended)
unfolding clap_on_literals
first_known true true left_out p = (refl, refl, refl)
first_known true false left_out p = (refl, refl, refl)
first_known false true left_out p = (refl, refl, refl)
first_known false false left_out p = (refl, refl, refl)
first_known true true (joined text) p = (rw p refl, refl, refl)
first_known true false (joined text) p = (rw p refl, refl, refl)
first_known false true (joined text) p = (rw p refl, refl, refl)
first_known false false (joined text) p = (rw p refl, refl, refl)
first_known true true (apart t) p =
    (rw (no_end t p, no_long t p, no_short t p, p), rw (no_end t p, no_long t p, no_short t p), rw (no_end t p, no_long t p, no_short t p))
first_known true false (apart t) p =
    (rw (no_end t p, no_long t p, no_short t p, p), rw (no_end t p, no_long t p, no_short t p), rw (no_end t p, no_long t p, no_short t p))
first_known false true (apart t) p =
    (rw (no_end t p, no_long t p, no_short t p, p), rw (no_end t p, no_long t p, no_short t p), rw (no_end t p, no_long t p, no_short t p))
first_known false false (apart t) p =
    (rw (no_end t p, no_long t p, no_short t p, p), rw (no_end t p, no_long t p, no_short t p), rw (no_end t p, no_long t p, no_short t p))

later_known : (check is_ended : Bool) (given : SlotsOption) → Passes given
    → Known check given (slots_words given ++ check_words check ++ end_words is_ended)
unfolding clap_on_literals
later_known true true left_out p = (refl, refl, refl)
later_known true false left_out p = (refl, refl, refl)
later_known false true left_out p = (refl, refl, refl)
later_known false false left_out p = (refl, refl, refl)
later_known true true (joined text) p = (rw p refl, refl, refl)
later_known true false (joined text) p = (rw p refl, refl, refl)
later_known false true (joined text) p = (rw p refl, refl, refl)
later_known false false (joined text) p = (rw p refl, refl, refl)
later_known true true (apart t) p =
    (rw (no_end t p, no_long t p, no_short t p, p), rw (no_end t p, no_long t p, no_short t p), rw (no_end t p, no_long t p, no_short t p))
later_known true false (apart t) p =
    (rw (no_end t p, no_long t p, no_short t p, p), rw (no_end t p, no_long t p, no_short t p), rw (no_end t p, no_long t p, no_short t p))
later_known false true (apart t) p =
    (rw (no_end t p, no_long t p, no_short t p, p), rw (no_end t p, no_long t p, no_short t p), rw (no_end t p, no_long t p, no_short t p))
later_known false false (apart t) p =
    (rw (no_end t p, no_long t p, no_short t p, p), rw (no_end t p, no_long t p, no_short t p), rw (no_end t p, no_long t p, no_short t p))

forms_known : (words : List Text) (check : Bool) (given : SlotsOption) (is_ended : Bool) → Passes given → Forms words check given is_ended
    → Known check given words
forms_known words check given is_ended p (inl is) = subst (Known check given) (sym is) (first_known check is_ended given p)
forms_known words check given is_ended p (inr is) = subst (Known check given) (sym is) (later_known check is_ended given p)

-- a number from 1 to 8 is a text that passes
number_passes : (given : SlotsOption) (number : ℕ) → GivesNumber given number → 1 ≤ number → number ≤ 8 → Passes given
number_passes left_out number is low high = refl
number_passes (apart text) number is low high = passing text number is low high
number_passes (joined text) number is low high = passing text number is low high

asked_known : (words : List Text) (check : Bool) (number : ℕ) → 1 ≤ number → number ≤ 8 → (asks : Asks words check number)
    → Known check asks.0 words
asked_known words check number low high asks = forms_known words check asks.0 asks.1 (number_passes asks.0 number asks.2 low high) asks.3

-- words that ask for something are taken
pub taken : (a : App) (words : List Text) (check : Bool) (number : ℕ) → a ≡ snomon → 1 ≤ number → number ≤ 8
    → Asks (drop 1 words) check number → takes a words ≡ true
unfolding clap_on_literals
taken a words check number is low high asks = ap (λ (b : App). takes b words) is ∙ (asked_known (drop 1 words) check number low high asks).0

-- the number of a text that is found
abbrev Told : Option Text → ℕ → Type 0
Told None number = number ≡ 4
Told (Some text) number = Writes text number

told : (given : SlotsOption) (number : ℕ) → Passes given → GivesNumber given number → Told (number_text given) number
told left_out number p is = is
told (apart text) number p is = subst (λ (t : Text). Writes t number) (sym (without_minus_is text p)) is
told (joined text) number p is = subst (λ (t : Text). Writes t number) (sym (without_minus_is text p)) is

one_number : (o : Option Text) (m n : ℕ) → Told o m → Told o n → m ≡ n
one_number None m n a b = a ∙ sym b
one_number (Some text) m n a b = a.1 ∙ sym b.1

one_flag : (a b : Bool) → Some (flag_text a) ≡ Some (flag_text b) → a ≡ b
one_flag true true e = refl
one_flag true false e = cc
one_flag false true e = cc
one_flag false false e = refl

-- words ask for one thing
pub one_meaning : (words : List Text) (check other_check : Bool) (number other : ℕ) → 1 ≤ number → number ≤ 8 → 1 ≤ other → other ≤ 8
    → Asks words check number → Asks words other_check other → (check ≡ other_check) × (number ≡ other)
one_meaning words check other_check number other low high low_too high_too asks asks_too =
    let one = asked_known words check number low high asks in
    let two = asked_known words other_check other low_too high_too asks_too in
    let first = told asks.0 number (number_passes asks.0 number asks.2 low high) asks.2 in
    let second = told asks_too.0 other (number_passes asks_too.0 other asks_too.2 low_too high_too) asks_too.2 in (
      one_flag check other_check (sym one.1 ∙ two.1),
      one_number (number_text asks.0) number other first (subst (λ (o : Option Text). Told o other) (sym two.2 ∙ one.2) second),
    )

-- ---- what `clap` answers, as options

pub is_simple_command : (a : App) → a ≡ snomon → is_simple_and_free a ≡ true
unfolding clap_on_literals
is_simple_command a is = ap is_simple_and_free is

through : (walking settling later : Kinds) → or_else walking (or_else settling later) ≡ [] → or_else walking settling ≡ []
through walking settling later none =
    let behind = second_empty walking (or_else settling later) none in
    both_empty walking settling (first_empty walking (or_else settling later) none) (first_empty settling later behind)

-- words with no fault go through to the end of the walk
run_through : (words : List Text) → fault_of snomon words ≡ [] → run (walk_from nothing_held) (drop 1 words) ≡ []
unfolding clap_on_literals
run_through words none =
    let end = (walk rules [] nothing_held (drop 1 words)).held in
    let level = sym (leaf_fault (built snomon) nothing_held (drop 1 words) refl) ∙ none in
    through (walk_fault top [] (walk_from nothing_held) (drop 1 words)) (settle_fault rules false end)
    (or_else (defaults_fault (settled rules end).rows rules) (check_fault top (finished rules end) false)) level

module _ (a : App) (words : List Text) (m : ArgMatches) (is : a ≡ snomon) where
  -- what is found of an option
  found_as : (id : Text) → HasMatchesOf a words m → one_text (found_of m) id ≡ one_of id (rows_after rules [] (drop 1 words))
  unfolding clap_on_literals
  found_as id has = one_text-rows (found_of m) id ∙ ap (one_of id) ((has (ap is_simple is)).0 ∙ ap (λ (b : App). matches_of b words) is)

  -- words that are taken give the options that the code reads of what was found
  pub given : (flag : Bool) (number : ℕ) → fault_of a words ≡ [] → HasMatchesOf a words m
      → (one_text (found_of m) check_id ≡ Some (codes "true") → flag ≡ true)
      → (one_text (found_of m) check_id ≡ Some (codes "false") → flag ≡ false)
      → (one_text (found_of m) slots_id ≡ None → number ≡ 4)
      → ((text : Text) (n : ℕ) → one_text (found_of m) slots_id ≡ Some text → Writes text n → 1 ≤ n → n ≤ 8 → number ≡ n)
      → Asks (drop 1 words) flag number
  given flag number fault has says_true says_false says_four says_number =
      let forms = words_taken (drop 1 words) (run_through words (subst (λ (b : App). fault_of b words ≡ []) is fault)) in
      let known = forms_known (drop 1 words) forms.0 forms.1 forms.2 forms.3 forms.4 in
      let flag_is = flagged forms.0 (found_as check_id has ∙ known.1) in
      let number_is = numbered forms.1 forms.3 (found_as slots_id has ∙ known.2) in
      subst (λ (c : Bool). Asks (drop 1 words) c number) flag_is (forms.1, forms.2, number_is, forms.4)
    where
      flagged : (check : Bool) → one_text (found_of m) check_id ≡ Some (flag_text check) → check ≡ flag
      flagged true text = sym (says_true text)
      flagged false text = sym (says_false text)

      written : (text : Text) → passes text ≡ true → one_text (found_of m) slots_id ≡ Some (without_minus text) → Writes text number
      written text p found =
          let parts = passed text p in
          let as_is = found ∙ ap (λ (t : Text). Some t) (without_minus_is text p) in
          subst (Writes text) (sym (says_number text (digits_value 10 (without_leading_plus text)) as_is parts.1 parts.2 parts.3)) parts.1

      numbered : (asked : SlotsOption) → Passes asked → one_text (found_of m) slots_id ≡ number_text asked → GivesNumber asked number
      numbered left_out p found = says_four found
      numbered (apart text) p found = written text p found
      numbered (joined text) p found = written text p found

-- an error is one of memory, or the words give no options
pub refused : (a : App) (words : List Text) (e : Error) → a ≡ snomon → (takes a words ≡ true → kind_of e ≡ ErrorKind.OutOfMemory)
    → (kind_of e ≡ ErrorKind.OutOfMemory) ⊎ ((options : Options) → Gives words options → ⊥)
refused a words e is memory = go (takes a words) refl
  where
    go : (passes : Bool) → takes a words ≡ passes
        → (kind_of e ≡ ErrorKind.OutOfMemory) ⊎ ((options : Options) → Gives words options → ⊥)
    go true t = inl (memory t)
    go false t = inr (λ options gives.
        let passes = taken a words options.check options.slots.number is options.slots.within.0 options.slots.within.1 gives in
        true≢false (sym passes ∙ t))
