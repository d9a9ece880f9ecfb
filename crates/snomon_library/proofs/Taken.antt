-- The lists of words that `clap` takes for snomon, by the first word and then by the next ones.
use Rattle.std.proofs.Common.{◌≡◌, ◌∙◌, ◌⊎◌, inl, inr, Bool, true, false, List, [], ◌∷◌, ◌++◌, Some, None, refl, sym, ap, subst, codes, true≢false, Option}
use Rattle.std.specs.Prelude.{fold}
use Rattle.clap.{specs.Kinds.{Kinds, or_else}, specs.Faults.{settle_fault, turn_fault, walk_fault}, proofs.OnLiterals.{clap_on_literals}}
use Rattle.clap.specs.Walk.{Held, Row, Text, Walk, Step, Waiting, after_step, has_row, idle, nothing_held, option, settled, used, walk_from, walked}
use Rattle.snomon_library.{specs.CommandLine.{SlotsOption, apart, check_words, end_words, joined, left_out, slots_words}, proofs.Numbers.{passes}}
use Rattle.snomon_library.proofs.Words.{Settles, Word, accepted, asks, check, check_id, checks, ends, first_empty, holding, is_value, no_kind, once, rules, second_empty, slots, slots_id, tells, top, word_taken}

-- the walk over the words, and then the use of what is pending at its end
abbrev pub run : Walk → List Text → Kinds
run at words = or_else (walk_fault top [] at words) (settle_fault rules false (fold (walked rules []) at words).held)

pub both_empty : (ks next : Kinds) → ks ≡ [] → next ≡ [] → or_else ks next ≡ []
both_empty ks next none e = ap (λ k. or_else k next) none ∙ e

step : (at : Walk) (w : Text) (rest : List Text) → run at (w ∷ rest) ≡ []
    → (turn_fault top [] at w ≡ []) × (run (walked rules [] at w) rest ≡ [])
unfolding clap_on_literals
step at w rest e =
    let both = first_empty (walk_fault top [] at (w ∷ rest)) _ e in (
      first_empty (turn_fault top [] at w) _ both,
      both_empty _ _ (second_empty (turn_fault top [] at w) _ both) (second_empty (walk_fault top [] at (w ∷ rest)) _ e),
    )

-- where `--slots` has come, and its value has not
abbrev waiting : List Row → Walk
waiting rows = record (walk_from (holding rows (Some (slots_id, [])))) { waiting = option slots_id }

-- and where it has come too
abbrev valued : List Row → Text → Held
valued rows text = holding rows (Some (slots_id, text ∷ []))

-- no word passes behind `--`
behind : (h : Held) (waits : Waiting) (rest : List Text) → run (record (walk_from h) { waiting = waits; is_trailing = true }) rest ≡ []
    → (rest ≡ []) × Settles h
unfolding clap_on_literals
behind h waits [] e = (refl, e)
behind h waits (w ∷ rest) e = absurd (no_kind _ _ (step (record (walk_from h) { waiting = waits; is_trailing = true }) w rest e).0)

module _ (rows : List Row) (pending : Option (Text × List Text)) where
  abbrev h : Held
  h = holding rows pending

  abbrev here : Walk
  here = walk_from h

  ended : (w : Text) (rest : List Text) → w ≡ codes "--" → run (walked rules [] here w) rest ≡ [] → (rest ≡ []) × Settles h
  unfolding clap_on_literals
  ended w rest is e = behind h idle rest (subst (λ (v : Text). run (walked rules [] here v) rest ≡ []) is e)

  word_here : (w : Text) → turn_fault top [] here w ≡ [] → Word false h w
  word_here w e = word_taken rows pending false w e

  -- what is pending can be used, in the end
  settles : (words : List Text) → run here words ≡ [] → Settles h
  unfolding clap_on_literals
  settles [] e = e
  settles (w ∷ rest) e = let parts = step here w rest e in by (word_here w parts.0) parts.1
    where
      by : Word false h w → run (walked rules [] here w) rest ≡ [] → Settles h
      by (ends is) later = (ended w rest is later).1
      by (checks is settled lacks) later = settled
      by (asks is settled) later = settled
      by (tells text is settled lacks passes) later = settled
      by (is_value waits met) later = absurd (true≢false (sym waits))

-- the word that `--slots` waits for
module _ (rows : List Row) where
  abbrev open_h : Held
  open_h = holding rows (Some (slots_id, []))

  awaited : (words : List Text) → run (waiting rows) words ≡ []
      → (text : Text) × (rest : List Text) × (words ≡ text ∷ rest) × (run (walk_from (valued rows text)) rest ≡ [])
  unfolding clap_on_literals
  awaited [] e = absurd (no_kind _ _ e)
  awaited (w ∷ rest) e = let parts = step (waiting rows) w rest e in by (word_taken rows (Some (slots_id, [])) true w parts.0) parts.1
    where
      by : Word true open_h w → run (walked rules [] (waiting rows) w) rest ≡ []
          → (text : Text) × (tail : List Text) × (w ∷ rest ≡ text ∷ tail) × (run (walk_from (valued rows text)) tail ≡ [])
      by (ends is) later =
          let at_end = subst (λ (v : Text). run (walked rules [] (waiting rows) v) rest ≡ []) is later in
          absurd (no_kind _ _ (behind open_h (option slots_id) rest at_end).1)
      by (checks is settled lacks) later = absurd (no_kind _ _ settled)
      by (asks is settled) later = absurd (no_kind _ _ settled)
      by (tells text is settled lacks passes) later = absurd (no_kind _ _ settled)
      by (is_value waits met) later =
          let next : walked rules [] (waiting rows) w ≡ walk_from (valued rows w) =
          ap (λ (m : Held × Step). after_step rules w (waiting rows) m.0 m.1) met in
          (w, rest, refl, subst (λ (at : Walk). run at rest ≡ []) next later)

-- what follows `--slots`: a value that passes, where there was none before
abbrev Answered : List Row → List Text → Type 0
Answered rows words = (text : Text) × (rest : List Text) × (words ≡ text ∷ rest) × (has_row slots_id rows ≡ false) × (passes text ≡ true)
    × (run (walk_from (valued rows text)) rest ≡ [])

answered : (rows : List Row) (words : List Text) → run (waiting rows) words ≡ [] → Answered rows words
answered rows words e =
    let got = awaited rows words e in
    let settled = settles rows (Some (slots_id, got.0 ∷ [])) got.1 got.3 in
    (got.0, got.1, got.2, once (has_row slots_id rows) _ settled, accepted (passes got.0) _ (second_empty _ _ settled), got.3)

module _ (rows : List Row) (pending : Option (Text × List Text)) where
  abbrev used_rows : List Row
  used_rows = (settled rules (holding rows pending)).rows

  abbrev start : Walk
  start = walk_from (holding rows pending)

  asked : (w : Text) (rest : List Text) → w ≡ codes "--slots" → run (walked rules [] start w) rest ≡ [] → Answered used_rows rest
  unfolding clap_on_literals
  asked w rest is e = answered used_rows rest (subst (λ (v : Text). run (walked rules [] start v) rest ≡ []) is e)

  -- where both options were given, nothing but the end follows
  only_end : has_row check_id used_rows ≡ true → has_row slots_id used_rows ≡ true → (words : List Text) → run start words ≡ []
      → (is_ended : Bool) × (words ≡ end_words is_ended)
  unfolding clap_on_literals
  only_end has_check has_slots [] e = (false, refl)
  only_end has_check has_slots (w ∷ rest) e = let parts = step start w rest e in by (word_here rows pending w parts.0) parts.1
    where
      by : Word false (holding rows pending) w → run (walked rules [] start w) rest ≡ [] → (is_ended : Bool) × (w ∷ rest ≡ end_words is_ended)
      by (ends is) later = let none = (ended rows pending w rest is later).0 in (true, λ i. is i ∷ none i)
      by (checks is settled lacks) later = absurd (true≢false (sym has_check ∙ lacks))
      by (asks is settled) later = absurd (true≢false (sym has_slots ∙ (asked w rest is later).3))
      by (tells text is settled lacks passes) later = absurd (true≢false (sym has_slots ∙ lacks))
      by (is_value waits met) later = absurd (true≢false (sym waits))

-- where the number of slots was given, `--check` may follow
module _ (rows : List Row) (pending : Option (Text × List Text)) where
  abbrev checked_rows : List Row
  checked_rows = used check [] (used_rows rows pending)

  perhaps_check : has_row slots_id (used_rows rows pending) ≡ true → has_row check_id checked_rows ≡ true
      → has_row slots_id checked_rows ≡ true
      → (words : List Text) → run (start rows pending) words ≡ []
      → (check : Bool) × (is_ended : Bool) × (words ≡ check_words check ++ end_words is_ended)
  unfolding clap_on_literals
  perhaps_check has_slots then_check then_slots [] e = (false, false, refl)
  perhaps_check has_slots then_check then_slots (w ∷ rest) e =
      let parts = step (start rows pending) w rest e in
      by (word_here rows pending w parts.0) parts.1
    where
      by : Word false (holding rows pending) w → run (walked rules [] (start rows pending) w) rest ≡ []
          → (check : Bool) × (is_ended : Bool) × (w ∷ rest ≡ check_words check ++ end_words is_ended)
      by (ends is) later = let none = (ended rows pending w rest is later).0 in (false, true, λ i. is i ∷ none i)
      by (checks is settled lacks) later =
          let behind_check = subst (λ (v : Text). run (walked rules [] (start rows pending) v) rest ≡ []) is later in
          let tail = only_end checked_rows None then_check then_slots rest behind_check in
          (true, tail.0, λ i. is i ∷ tail.1 i)
      by (asks is settled) later = absurd (true≢false (sym has_slots ∙ (asked rows pending w rest is later).3))
      by (tells text is settled lacks passes) later = absurd (true≢false (sym has_slots ∙ lacks))
      by (is_value waits met) later = absurd (true≢false (sym waits))

abbrev after_check : List Row
after_check = used check [] []

-- the text of the option, where it has one, passes
abbrev pub Passes : SlotsOption → Type 0
Passes left_out = true ≡ true
Passes (apart text) = passes text ≡ true
Passes (joined text) = passes text ≡ true

-- where `--check` was given, the number of slots may follow
perhaps_slots : (words : List Text) → run (walk_from (holding after_check None)) words ≡ []
    → (given : SlotsOption) × Passes given × (is_ended : Bool) × (words ≡ slots_words given ++ end_words is_ended)
unfolding clap_on_literals
perhaps_slots [] e = (left_out, refl, false, refl)
perhaps_slots (w ∷ rest) e = let parts = step (start after_check None) w rest e in by (word_here after_check None w parts.0) parts.1
  where
    by : Word false (holding after_check None) w → run (walked rules [] (start after_check None) w) rest ≡ []
        → (given : SlotsOption) × Passes given × (is_ended : Bool) × (w ∷ rest ≡ slots_words given ++ end_words is_ended)
    by (ends is) later = let none = (ended after_check None w rest is later).0 in (left_out, refl, true, λ i. is i ∷ none i)
    by (checks is settled lacks) later = absurd (true≢false lacks)
    by (asks is settled) later =
        let answer = asked after_check None w rest is later in
        let tail = only_end after_check (Some (slots_id, answer.0 ∷ [])) refl refl answer.1 answer.5 in
        (apart answer.0, answer.4, tail.0, (λ i. is i ∷ answer.2 i) ∙ (λ i. codes "--slots" ∷ answer.0 ∷ tail.1 i))
    by (tells text is settled lacks passes) later =
        let behind_slots = subst (λ (v : Text). run (walked rules [] (start after_check None) v) rest ≡ []) is later in
        let tail = only_end (used slots (text ∷ []) after_check) None refl refl rest behind_slots in
        (joined text, passes, tail.0, λ i. is i ∷ tail.1 i)
    by (is_value waits met) later = absurd (true≢false (sym waits))

-- the words that give these options, with `--check` first or not
abbrev pub Forms : List Text → Bool → SlotsOption → Bool → Type 0
Forms words check given is_ended = (words ≡ check_words check ++ slots_words given ++ end_words is_ended)
    ⊎ (words ≡ slots_words given ++ check_words check ++ end_words is_ended)

pub words_taken : (words : List Text) → run (walk_from nothing_held) words ≡ []
    → (check : Bool) × (given : SlotsOption) × (is_ended : Bool) × Passes given × Forms words check given is_ended
unfolding clap_on_literals
words_taken [] e = (false, left_out, false, refl, inl refl)
words_taken (w ∷ rest) e = let parts = step (start [] None) w rest e in by (word_here [] None w parts.0) parts.1
  where
    by : Word false (holding [] None) w → run (walked rules [] (start [] None) w) rest ≡ []
        → (check : Bool) × (given : SlotsOption) × (is_ended : Bool) × Passes given × Forms (w ∷ rest) check given is_ended
    by (ends is) later = let none = (ended [] None w rest is later).0 in (false, left_out, true, refl, inl (λ i. is i ∷ none i))
    by (checks is settled lacks) later =
        let tail = perhaps_slots rest (subst (λ (v : Text). run (walked rules [] (start [] None) v) rest ≡ []) is later) in
        (true, tail.0, tail.2, tail.1, inl (λ i. is i ∷ tail.3 i))
    by (asks is settled) later =
        let answer = asked [] None w rest is later in
        let tail = perhaps_check [] (Some (slots_id, answer.0 ∷ [])) refl refl refl answer.1 answer.5 in
        (tail.0, apart answer.0, tail.1, answer.4, inr ((λ i. is i ∷ answer.2 i) ∙ (λ i. codes "--slots" ∷ answer.0 ∷ tail.2 i)))
    by (tells text is settled lacks passes) later =
        let behind_slots = subst (λ (v : Text). run (walked rules [] (start [] None) v) rest ≡ []) is later in
        let tail = perhaps_check (used slots (text ∷ []) []) None refl refl refl rest behind_slots in
        (tail.0, joined text, tail.1, passes, inr (λ i. is i ∷ tail.2 i))
    by (is_value waits met) later = absurd (true≢false (sym waits))
