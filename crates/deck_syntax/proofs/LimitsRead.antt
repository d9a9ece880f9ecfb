-- Options and the limits that they set: as they are read, and as they are spelled.
use Rattle.std.proofs.Common.{◌≡◌, inl, inr, ℕ, ◌≤◌, Bool, true, false, nat_eq, nat_le, ◌&&◌, ◌||◌, if◌then◌else◌, List, [], ◌∷◌, ◌++◌, drop, None, refl, sym, ap, subst, ◌∙◌, true≢false}
use Rattle.std.specs.{Prelude.{codes}, Option.{option_or}, List.{fold}}
use Rattle.std.proofs.lemmas.{Bool.{le-leb, leb-true}, Bool.Decides.{Decides-eqb}, Slice.Eq.{starts_is}}
use Rattle.mon_text.specs.Counts.{is_count, value_of}
use Rattle.mon_catalogue.proofs.Blanks.{both}
use Rattle.sno_cards.specs.{declared.limits.Limits.{Limits}, Limits.{IsLimit}}
use Rattle.deck_lines.specs.{declared.deck_error.DeckError.TheVariants.{BadNumber, BadCard}, Refusing.{unless}, Turns.{is_within}}
use Rattle.deck_syntax.specs.Jobs.{sets_statements, sets_steps, are_options, option_text, has_number, is_limit, limits_refusal, usual_limits, with_option}
use Rattle.deck_syntax.{specs.JobSpelling.{SpellsLimit, SpellsStatements, SpellsSteps, SpellsLimits}, proofs.Spelled.{both_hold, neither, passes}}

pub within_is : (most n : ℕ) → 1 ≤ n → n ≤ most → is_within most n ≡ true
within_is most n low high = both_hold (nat_le 1 n) (nat_le n most) (le-leb 1 n low) (le-leb n most high)

pub is_within_then : (most n : ℕ) → is_within most n ≡ true → (1 ≤ n) × (n ≤ most)
is_within_then most n h = let parts = both (nat_le 1 n) (nat_le n most) h in (leb-true 1 n parts.0, leb-true n most parts.1)

-- ---- one option

statements_begin : (w : List ℕ) → sets_statements w ≡ true → w ≡ codes "ST=" ++ drop 3 w
statements_begin w h = let is = starts_is {E = nat_eq} Decides-eqb w (codes "ST=") (sets_statements w) refl in is.0 h

steps_begin : (w : List ℕ) → sets_steps w ≡ true → w ≡ codes "MATCH=" ++ drop 6 w
steps_begin w h = let is = starts_is {E = nat_eq} Decides-eqb w (codes "MATCH=") (sets_steps w) refl in is.0 h

not_both : (w : List ℕ) → sets_steps w ≡ true → sets_statements w ≡ false
not_both w h = ap sets_statements (steps_begin w h)

-- what an option says, where it says how many statements
module _ (w : List ℕ) (h : sets_statements w ≡ true) where
  text_of_statements : option_text w ≡ drop 3 w
  text_of_statements = ap (λ (b : Bool). if b then drop 3 w else drop 6 w) h

  pub with_statements : (limits : Limits) → with_option limits w ≡ record limits { statements = value_of (option_text w) }
  with_statements limits =
      ap (λ (b : Bool). let l : Limits = if b then record limits { statements = value_of (option_text w) } else record limits { steps = value_of (option_text w) } in l) h

  pub spelled_statements : has_number w ≡ true → is_limit w ≡ true → SpellsLimit (codes "ST=") w (value_of (option_text w))
  spelled_statements number within = record {
    digits = drop 3 w;
    word_is = statements_begin w h;
    count = ap is_count (sym text_of_statements) ∙ number;
    value = ap value_of (sym text_of_statements);
    within = is_within_then 10000000 (value_of (option_text w)) within;
  }

-- and where it says how many steps
module _ (w : List ℕ) (h : sets_steps w ≡ true) where
  text_of_steps : option_text w ≡ drop 6 w
  text_of_steps = ap (λ (b : Bool). if b then drop 3 w else drop 6 w) (not_both w h)

  pub with_steps : (limits : Limits) → with_option limits w ≡ record limits { steps = value_of (option_text w) }
  with_steps limits =
      ap (λ (b : Bool). let l : Limits = if b then record limits { statements = value_of (option_text w) } else record limits { steps = value_of (option_text w) } in l) (not_both w h)

  pub spelled_steps : has_number w ≡ true → is_limit w ≡ true → SpellsLimit (codes "MATCH=") w (value_of (option_text w))
  spelled_steps number within = record {
    digits = drop 6 w;
    word_is = steps_begin w h;
    count = ap is_count (sym text_of_steps) ∙ number;
    value = ap value_of (sym text_of_steps);
    within = is_within_then 10000000 (value_of (option_text w)) within;
  }

-- an option that is spelled is read
record Reads (w : List ℕ) (n : ℕ) : Type 0 where
  number : has_number w ≡ true
  within : is_limit w ≡ true
  value : value_of (option_text w) ≡ n

module _ (w : List ℕ) (n : ℕ) where
  pub is_statements : SpellsLimit (codes "ST=") w n → sets_statements w ≡ true
  is_statements s = ap sets_statements s.word_is

  pub is_steps : SpellsLimit (codes "MATCH=") w n → sets_steps w ≡ true
  is_steps s = ap sets_steps s.word_is

  statements_read : SpellsLimit (codes "ST=") w n → Reads w n
  statements_read s =
      let text : option_text w ≡ s.digits = ap option_text s.word_is in
      let value : value_of (option_text w) ≡ n = ap value_of text ∙ s.value in
      record {
        number = ap is_count text ∙ s.count;
        within = ap (is_within 10000000) value ∙ within_is 10000000 n s.within.0 s.within.1;
        value = value;
      }

  steps_read : SpellsLimit (codes "MATCH=") w n → Reads w n
  steps_read s =
      let text : option_text w ≡ s.digits = ap option_text s.word_is in
      let value : value_of (option_text w) ≡ n = ap value_of text ∙ s.value in
      record {
        number = ap is_count text ∙ s.count;
        within = ap (is_within 10000000) value ∙ within_is 10000000 n s.within.0 s.within.1;
        value = value;
      }

-- ---- all options

limits_are : (limits : Limits) (a b : ℕ) → a ≡ limits.statements → b ≡ limits.steps → (let l : Limits = record { statements = a; steps = b } in l) ≡ limits
limits_are limits a b first second =
    ap (λ (n : ℕ). let l : Limits = record { statements = n; steps = b } in l) first
    ∙ ap (λ (n : ℕ). let l : Limits = record { statements = limits.statements; steps = n } in l) second

pub record LimitsRead (options : List (List ℕ)) (limits : Limits) : Type 0 where
  pub are : are_options options ≡ true
  pub fine : limits_refusal options ≡ None
  pub limits_are : fold with_option usual_limits options ≡ limits

or_right : (a b : Bool) → b ≡ true → (a || b) ≡ true
or_right true b h = refl
or_right false b h = h

or_left : (a b : Bool) → a ≡ true → (a || b) ≡ true
or_left true b h = refl
or_left false b h = absurd (true≢false (sym h))

one_fine : (w : List ℕ) (n : ℕ) → Reads w n → limits_refusal (w ∷ []) ≡ None
one_fine w n r = ap (λ (b : Bool). option_or (unless b BadNumber) (unless (is_limit w) BadCard)) r.number ∙ ap (λ (b : Bool). unless b BadCard) r.within

two_fine : (w v : List ℕ) (n m : ℕ) → Reads w n → Reads v m → limits_refusal (w ∷ v ∷ []) ≡ None
two_fine w v n m r s =
    ap (λ (b : Bool). option_or (unless b BadNumber) (unless (is_limit w && is_limit v) BadCard)) (both_hold (has_number w) (has_number v) r.number s.number)
    ∙ ap (λ (b : Bool). unless b BadCard) (both_hold (is_limit w) (is_limit v) r.within s.within)

pub limits_read : (options : List (List ℕ)) (limits : Limits) → SpellsLimits options limits → LimitsRead options limits
limits_read [] limits is = record { are = refl; fine = refl; limits_are = sym is }
limits_read (w ∷ []) limits (inl (s, usual)) =
    let r = statements_read w limits.statements s in
    record {
      are = or_left (sets_statements w) (sets_steps w) (is_statements w limits.statements s);
      fine = one_fine w limits.statements r;
      limits_are = with_statements w (is_statements w limits.statements s) usual_limits ∙ limits_are limits (value_of (option_text w)) 1000000 r.value (sym usual);
    }
limits_read (w ∷ []) limits (inr (s, usual)) =
    let r = steps_read w limits.steps s in
    record {
      are = or_right (sets_statements w) (sets_steps w) (is_steps w limits.steps s);
      fine = one_fine w limits.steps r;
      limits_are = with_steps w (is_steps w limits.steps s) usual_limits ∙ limits_are limits 50000 (value_of (option_text w)) (sym usual) r.value;
    }
limits_read (w ∷ v ∷ []) limits (inl (s, t)) =
    let r = statements_read w limits.statements s in
    let q = steps_read v limits.steps t in
    let first = is_statements w limits.statements s in
    let second = is_steps v limits.steps t in
    record {
      are = or_left (sets_statements w && sets_steps v) (sets_steps w && sets_statements v) (both_hold (sets_statements w) (sets_steps v) first second);
      fine = two_fine w v limits.statements limits.steps r q;
      limits_are = ap (λ (l : Limits). with_option l v) (with_statements w first usual_limits)
          ∙ with_steps v second (record usual_limits { statements = value_of (option_text w) })
          ∙ limits_are limits (value_of (option_text w)) (value_of (option_text v)) r.value q.value;
    }
limits_read (w ∷ v ∷ []) limits (inr (s, t)) =
    let r = steps_read w limits.steps s in
    let q = statements_read v limits.statements t in
    let first = is_steps w limits.steps s in
    let second = is_statements v limits.statements t in
    record {
      are = or_right (sets_statements w && sets_steps v) (sets_steps w && sets_statements v) (both_hold (sets_steps w) (sets_statements v) first second);
      fine = two_fine w v limits.steps limits.statements r q;
      limits_are = ap (λ (l : Limits). with_option l v) (with_steps w first usual_limits)
          ∙ with_statements v second (record usual_limits { steps = value_of (option_text w) })
          ∙ limits_are limits (value_of (option_text v)) (value_of (option_text w)) q.value r.value;
    }
limits_read (w ∷ v ∷ u ∷ options) limits is = absurd is

-- options that are read are spelled

moved : (front w : List ℕ) (n m : ℕ) → n ≡ m → SpellsLimit front w n → SpellsLimit front w m
moved front w n m e s = record {
  digits = s.digits;
  word_is = s.word_is;
  count = s.count;
  value = s.value ∙ e;
  within = subst IsLimit e s.within;
}

statements_on : (w : List ℕ) (limits : Limits) → sets_statements w ≡ true → has_number w ≡ true → is_limit w ≡ true
    → value_of (option_text w) ≡ limits.statements → SpellsStatements w limits
statements_on w limits is number within value = moved (codes "ST=") w (value_of (option_text w)) limits.statements value (spelled_statements w is number within)

steps_on : (w : List ℕ) (limits : Limits) → sets_steps w ≡ true → has_number w ≡ true → is_limit w ≡ true
    → value_of (option_text w) ≡ limits.steps → SpellsSteps w limits
steps_on w limits is number within value = moved (codes "MATCH=") w (value_of (option_text w)) limits.steps value (spelled_steps w is number within)

one_spelled : (w : List ℕ) → (sets_statements w || sets_steps w) ≡ true → has_number w ≡ true → is_limit w ≡ true → SpellsLimits (w ∷ []) (with_option usual_limits w)
one_spelled w are number within = by (sets_statements w) refl are
  where
    by : (b : Bool) → sets_statements w ≡ b → (b || sets_steps w) ≡ true → SpellsLimits (w ∷ []) (with_option usual_limits w)
    by true e are =
        let is = with_statements w e usual_limits in
        inl (statements_on w (with_option usual_limits w) e number within (sym (ap (λ (l : Limits). l.statements) is)), ap (λ (l : Limits). l.steps) is)
    by false e are =
        let is = with_steps w are usual_limits in
        inr (steps_on w (with_option usual_limits w) are number within (sym (ap (λ (l : Limits). l.steps) is)), ap (λ (l : Limits). l.statements) is)

two_spelled : (w v : List ℕ) → (sets_statements w && sets_steps v || sets_steps w && sets_statements v) ≡ true → (has_number w ≡ true) × (has_number v ≡ true)
    → (is_limit w ≡ true) × (is_limit v ≡ true) → SpellsLimits (w ∷ v ∷ []) (with_option (with_option usual_limits w) v)
two_spelled w v are number within = by (sets_statements w && sets_steps v) refl are
  where
    by : (b : Bool) → (sets_statements w && sets_steps v) ≡ b → (b || sets_steps w && sets_statements v) ≡ true → SpellsLimits (w ∷ v ∷ []) (with_option (with_option usual_limits w) v)
    by true e are =
        let is = both (sets_statements w) (sets_steps v) e in
        let all = ap (λ (l : Limits). with_option l v) (with_statements w is.0 usual_limits) ∙ with_steps v is.1 (record usual_limits { statements = value_of (option_text w) }) in
        let limits = with_option (with_option usual_limits w) v in
        inl (statements_on w limits is.0 number.0 within.0 (sym (ap (λ (l : Limits). l.statements) all)), steps_on v limits is.1 number.1 within.1 (sym (ap (λ (l : Limits). l.steps) all)))
    by false e are =
        let is = both (sets_steps w) (sets_statements v) are in
        let all = ap (λ (l : Limits). with_option l v) (with_steps w is.0 usual_limits) ∙ with_statements v is.1 (record usual_limits { steps = value_of (option_text w) }) in
        let limits = with_option (with_option usual_limits w) v in
        inr (steps_on w limits is.0 number.0 within.0 (sym (ap (λ (l : Limits). l.steps) all)), statements_on v limits is.1 number.1 within.1 (sym (ap (λ (l : Limits). l.statements) all)))

pub limits_spelled : (options : List (List ℕ)) → are_options options ≡ true → limits_refusal options ≡ None → SpellsLimits options (fold with_option usual_limits options)
limits_spelled [] are fine = refl
limits_spelled (w ∷ []) are fine =
    let parts = neither (unless (has_number w) BadNumber) (unless (is_limit w) BadCard) fine in
    one_spelled w are (passes (has_number w) BadNumber parts.0) (passes (is_limit w) BadCard parts.1)
limits_spelled (w ∷ v ∷ []) are fine =
    let parts = neither (unless (has_number w && has_number v) BadNumber) (unless (is_limit w && is_limit v) BadCard) fine in
    two_spelled w v are (both (has_number w) (has_number v) (passes (has_number w && has_number v) BadNumber parts.0)) (both (is_limit w) (is_limit v) (passes (is_limit w && is_limit v) BadCard parts.1))
limits_spelled (w ∷ v ∷ u ∷ options) are fine = absurd (true≢false (sym are))
