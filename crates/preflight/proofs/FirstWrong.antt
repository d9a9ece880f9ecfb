-- Each text has one verdict: what is found of it line by line.
use Rattle.std.proofs.Common.{◌≡◌, ℕ, zero, suc, ◌+◌, ◌-◌, ◌≤◌, ◌<◌, ◌⊎◌, inl, inr, List, [], ◌∷◌, ◌++◌, length, take, drop, refl, sym, ap, subst, ◌∙◌, append_assoc, arith, Result, Err, IfErr}
use Rattle.std.proofs.lemmas.{Bool.{cases_lt}, List.{take-append-drop}}
use Rattle.mon_text.specs.declared.stop.Stop.{Stop}
use Rattle.mon_text.specs.declared.stop.Stop.TheVariants as stop
use Rattle.deck_lines.specs.declared.deck_error.DeckError.{DeckError, TheVariants.{Truncated}}
use Rattle.deck_syntax.specs.{Decks.{Asked, Ending, Stopped, Refused}, Sections.{Closed, stream_section}}
use Rattle.preflight.specs.declared.why.{Why.{Why}, Why.TheVariants.{Line, Foreign, Stops, Unfinished}, Refusal.{Refusal}}
use Rattle.preflight.specs.Examined.{IsSubmission, BeginsGood, NeverGood, stream_ending, IsWrong, IsFirstWrong, Verdict, Admits, Refuses, IsVerdict}
use Rattle.preflight.specs.{Laws.{OneVerdict}, Submissions.{IfStopped}, inner.Reading.{examined}}
use Rattle.preflight.proofs.{Beginning.{Begins, begins}, Exactly.{admits_exactly}, Refusals.{EndsFor, Stands, stands}}

-- ---- what is found is the verdict

not_both : {A : Type 0} (asked : List Asked) (k : ℕ) (why : Why) → Admits asked ≡ Refuses k why → A
not_both asked k why is = cc

module _ (own : List ℕ) (ls : List (List ℕ)) (n : ℕ) (why : Why) (is : examined own 1 Closed ls ≡ Refuses n why) where
  begins_good : Begins own 1 Closed ls n → BeginsGood own n ls
  begins_good (i, rest, asked, at, good) =
      let before : i ≡ n - 1 = omega (arith, at) in
      record {
        counted = omega (arith, at);
        rest = rest;
        asked = asked;
        good = subst (λ (j : ℕ). IsSubmission own (take j ls ++ rest) asked) before ((admits_exactly own (take i ls ++ rest) asked).0 good);
      }

  no_text : (asked : List Asked) → IsSubmission own ls asked → ⊥
  no_text asked good = not_both asked n why (sym ((admits_exactly own ls asked).1 good) ∙ is)

  wrong_at : (w : Why) → NeverGood own n ls → EndsFor n w (stream_ending (take n ls)) → IsWrong own n ls w
  wrong_at (Line code) never ends = (never, ends)
  wrong_at Stops never ends = (never, ends)
  wrong_at Foreign never ends = (never, ends)
  wrong_at Unfinished never ends = absurd ends

  is_wrong : Stands own 1 Closed ls n why → IsWrong own n ls why
  is_wrong (inr (at, early)) = subst (IsWrong own n ls) (sym early) (omega (arith, at), no_text)
  is_wrong (inl (i, at, within, same, ends)) =
      let here : suc i ≡ n = omega (arith, at) in
      wrong_at why (record {
        within = omega (arith, here, within);
        whatever_follows = λ more asked good.
            not_both asked n why
            (sym ((admits_exactly own (take n ls ++ more) asked).1 good) ∙ ap (λ (m : ℕ). examined own 1 Closed (take m ls ++ more)) (sym here) ∙ same more);
      }) (subst (λ (m : ℕ). EndsFor n why (stream_section 1 Closed (take m ls)).ending) here ends)

  pub first_wrong : IsFirstWrong own n ls why
  first_wrong = record { begins = begins_good (begins own ls 1 Closed n why tt is); wrong = is_wrong (stands own ls 1 Closed n why is) }

-- unless memory ran out
pub stopped_wrong : (own : List ℕ) (ls : List (List ℕ)) (answer : Stop Refusal) → IfStopped (λ refusal. examined own 1 Closed ls ≡ Refuses refusal.line refusal.why) answer
    → IfStopped (λ refusal. IsFirstWrong own refusal.line ls refusal.why) answer
stopped_wrong own ls stop.Memory is = tt
stopped_wrong own ls (stop.Refused refusal) is = first_wrong own ls refusal.line refusal.why is

-- and so it is of what is answered
pub wrong_answer : {T : Type 0} (own : List ℕ) (ls : List (List ℕ)) (answer : Result T (Stop Refusal)) (given found : Stop Refusal) → answer ≡ Err given → given ≡ found
    → IfStopped (λ refusal. examined own 1 Closed ls ≡ Refuses refusal.line refusal.why) found → IfErr answer (IfStopped (λ refusal. IsFirstWrong own refusal.line ls refusal.why))
wrong_answer {T} own ls answer given found is same refused =
    subst (λ (r : Result T (Stop Refusal)). IfErr r (IfStopped (λ refusal. IsFirstWrong own refusal.line ls refusal.why))) (sym is)
    (subst (λ (s : Stop Refusal). IfStopped (λ refusal. IsFirstWrong own refusal.line ls refusal.why) s) (sym same) (stopped_wrong own ls found refused))

verdict_found : (own : List ℕ) (ls : List (List ℕ)) (v : Verdict) → examined own 1 Closed ls ≡ v → IsVerdict own ls v
verdict_found own ls (Admits asked) is = (admits_exactly own ls asked).0 is
verdict_found own ls (Refuses n why) is = first_wrong own ls n why is

-- ---- and no other is

-- more lines begin with fewer
fewer : (n j : ℕ) (ls : List (List ℕ)) → n ≤ j → (more : List (List ℕ)) × (take j ls ≡ take n ls ++ more)
fewer zero j ls less = (take j ls, refl)
fewer (suc n) zero ls less = absurd (omega (arith, less))
fewer (suc n) (suc j) [] less = ([], refl)
fewer (suc n) (suc j) (line ∷ ls) less = let rest = fewer n j ls (omega (arith, less)) in (rest.0, ap (λ (xs : List (List ℕ)). line ∷ xs) rest.1)

module _ (own : List ℕ) (ls : List (List ℕ)) where
  -- line n is wrong, or behind the last
  abbrev Ends : ℕ → Type 0
  Ends n = NeverGood own n ls ⊎ ((n ≡ length ls + 1) × ((asked : List Asked) → IsSubmission own ls asked → ⊥))

  ends : (n : ℕ) (why : Why) → IsWrong own n ls why → Ends n
  ends n (Line code) (never, so) = inl never
  ends n Stops (never, so) = inl never
  ends n Foreign (never, so) = inl never
  ends n Unfinished so = inr so

  -- the text is not one that the account may hand in
  none_whole : (n : ℕ) → Ends n → (asked : List Asked) → IsSubmission own ls asked → ⊥
  none_whole n (inr (at, none)) asked good = none asked good
  none_whole n (inl never) asked good =
      never.whatever_follows (drop n ls) asked (subst (λ (xs : List (List ℕ)). IsSubmission own xs asked) (sym (take-append-drop n ls)) good)

  -- no later line is the first one too
  not_later : (n m : ℕ) → Ends n → BeginsGood own m ls → Ends m → n < m → ⊥
  not_later n m (inr (at, none)) start (inr (other, so)) less = omega (arith, at, other, less)
  not_later n m (inr (at, none)) start (inl never) less = (let within = never.within in omega (arith, at, within, less))
  not_later n m (inl never) start wrong less =
      let counted = start.counted in
      let split = fewer n (m - 1) ls (omega (arith, counted, less)) in
      never.whatever_follows (split.0 ++ start.rest) start.asked
      (subst (λ (xs : List (List ℕ)). IsSubmission own xs start.asked)
      (ap (λ (xs : List (List ℕ)). xs ++ start.rest) split.1 ∙ append_assoc (take n ls) split.0 start.rest) start.good)

  same_place : (n m : ℕ) (why other : Why) → IsFirstWrong own n ls why → IsFirstWrong own m ls other → n ≡ m
  same_place n m why other one two = by (cases_lt n m) (cases_lt m n)
    where
      here : Ends n
      here = ends n why one.wrong

      there : Ends m
      there = ends m other two.wrong

      by : (n < m) ⊎ (m ≤ n) → (m < n) ⊎ (n ≤ m) → n ≡ m
      by (inl less) other = absurd (not_later n m here two.begins there less)
      by (inr most) (inl less) = absurd (not_later m n there one.begins here less)
      by (inr most) (inr least) = omega (arith, most, least)

  -- what is wrong follows from how the stream ends
  code_is : (n : ℕ) (c d : DeckError) → Refused n c ≡ Refused n d → Line c ≡ Line d
  code_is n c d is = cc

  place_of : (n m : ℕ) (c d : DeckError) → Refused n c ≡ Refused m d → n ≡ m
  place_of n m c d is = cc

  not_stopped : {A : Type 0} (n : ℕ) (c : DeckError) → Refused n c ≡ Stopped → A
  not_stopped n c is = cc

  by_ending : (n : ℕ) (e : Ending) (why other : Why) → EndsFor n why e → EndsFor n other e → why ≡ other
  by_ending n e (Line c) (Line d) one two = code_is n c d (sym one ∙ two)
  by_ending n e (Line c) Stops one two = not_stopped n c (sym one ∙ two)
  by_ending n e (Line c) Foreign one two = (let same = place_of n (n + 1) c Truncated (sym one ∙ two) in absurd (omega (arith, same)))
  by_ending n e Stops (Line d) one two = not_stopped n d (sym two ∙ one)
  by_ending n e Stops Stops one two = refl
  by_ending n e Stops Foreign one two = not_stopped (n + 1) Truncated (sym two ∙ one)
  by_ending n e Foreign (Line d) one two = (let same = place_of n (n + 1) d Truncated (sym two ∙ one) in absurd (omega (arith, same)))
  by_ending n e Foreign Stops one two = not_stopped (n + 1) Truncated (sym one ∙ two)
  by_ending n e Foreign Foreign one two = refl
  by_ending n e Unfinished other one two = absurd one
  by_ending n e why Unfinished one two = absurd two

  -- of a line that is there, or behind the last
  abbrev Told : ℕ → Why → Type 0
  Told n why = ((n ≤ length ls) × EndsFor n why (stream_ending (take n ls))) ⊎ ((n ≡ length ls + 1) × (why ≡ Unfinished))

  told : (n : ℕ) (why : Why) → IsWrong own n ls why → Told n why
  told n (Line code) (never, so) = inl (never.within, so)
  told n Stops (never, so) = inl (never.within, so)
  told n Foreign (never, so) = inl (never.within, so)
  told n Unfinished (at, none) = inr (at, refl)

  same_reason : (n : ℕ) (why other : Why) → Told n why → Told n other → why ≡ other
  same_reason n why other (inl (within, one)) (inl (also, two)) = by_ending n (stream_ending (take n ls)) why other one two
  same_reason n why other (inl (within, one)) (inr (at, two)) = absurd (omega (arith, within, at))
  same_reason n why other (inr (at, one)) (inl (within, two)) = absurd (omega (arith, within, at))
  same_reason n why other (inr (at, one)) (inr (also, two)) = one ∙ sym two

  same_refusal : (n m : ℕ) (why other : Why) → n ≡ m → why ≡ other → Refuses n why ≡ Refuses m other
  same_refusal n m why other here so = cc

  one_refusal : (n m : ℕ) (why other : Why) → IsFirstWrong own n ls why → IsFirstWrong own m ls other → Refuses n why ≡ Refuses m other
  one_refusal n m why other one two =
      let here = same_place n m why other one two in
      same_refusal n m why other here (same_reason n why other (told n why one.wrong) (told n other (subst (λ (k : ℕ). IsWrong own k ls other) (sym here) two.wrong)))

  pub only_one : (v w : Verdict) → IsVerdict own ls v → IsVerdict own ls w → w ≡ v
  only_one (Admits asked) (Admits others) one two = sym ((admits_exactly own ls others).1 two) ∙ (admits_exactly own ls asked).1 one
  only_one (Admits asked) (Refuses n why) one two = absurd (none_whole n (ends n why two.wrong) asked one)
  only_one (Refuses n why) (Admits asked) one two = absurd (none_whole n (ends n why one.wrong) asked two)
  only_one (Refuses n why) (Refuses m other) one two = one_refusal m n other why two one

pub one_verdict : OneVerdict
one_verdict own ls =
    let found = examined own 1 Closed ls in
    let is = verdict_found own ls found refl in
    record { verdict = found; is = is; only = λ other also. only_one own ls found other is also }
