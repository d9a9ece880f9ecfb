-- A part of a piece, up to its first line end.
use Rattle.std.proofs.Common.{◌≡◌, ℕ, suc, ◌+◌, ◌<◌, ◌≤◌, ◌==◌, ◌&&◌, ◌||◌, Bool, true, false, cond, not, inl, inr, List, [], ◌∷◌, ◌++◌, length, take, drop, Some, None, refl, sym, ap, subst, ◌∙◌, arith, append_assoc, length-append, length-take, Result, Ok, Err, IfOk}
use borrow.Author.Tests.{ne_eqb}
use Rattle.std.specs.{List.{position_or_len, list_any}, Str.Lines.{lines, strip_carriage_return}}
use Rattle.std.proofs.lemmas.{Bool.Decides.{nat_tests}, List.{drop_all, take_all, take-append-drop}, List.Folds.{list_all-append}}
use Rattle.mon_text.{specs.Feeding.{has_no_end, taken_of, Alike, Takes}, proofs.Cutting.{line_ends, last_line}, specs.Characters.{is_line_feed}}
use Rattle.deck_lines.specs.declared.deck_error.DeckError.TheVariants.{LineTooLong}
use Rattle.scheduler.specs.Marks.{Marks}
use Rattle.deck_driver.specs.declared.{options.Counts.{Counts}, options.Options.{Options}, section.Section.{Section}}
use Rattle.deck_driver.specs.{declared.section.DeckState.{DeckState}, Feeds.{outcome, outcome_of, behind, refused_at}, inner.Counting.{lines_ended}}
use Rattle.deck_driver.{specs.Audits.{told_to, told_from}, proofs.Following.{long_refused, outcome_refused, told_refused}}
use Rattle.deck_driver.specs.declared.section.DeckState.TheVariants as state

-- where the first LF stands, a byte further on
on : (x : ℕ) (xs : List ℕ) → not (is_line_feed x) ≡ true → position_or_len is_line_feed (x ∷ xs) ≡ suc (position_or_len is_line_feed xs)
on x xs e = let next : 1 + position_or_len is_line_feed xs ≡ suc (position_or_len is_line_feed xs) = omega arith in ap (λ b. cond b (1 + position_or_len is_line_feed xs) 0) e ∙ next

here : (x : ℕ) (xs : List ℕ) → not (is_line_feed x) ≡ false → position_or_len is_line_feed (x ∷ xs) ≡ 0
here x xs e = ap (λ b. cond b (1 + position_or_len is_line_feed xs) 0) e

taken_on : (x : ℕ) (xs : List ℕ) → not (is_line_feed x) ≡ true → taken_of (x ∷ xs) ≡ suc (taken_of xs)
taken_on x xs e = let place = on x xs e in grind (arith, nat_tests, place)

taken_here : (x : ℕ) (xs : List ℕ) → not (is_line_feed x) ≡ false → taken_of (x ∷ xs) ≡ 1
taken_here x xs e = let place = here x xs e in grind (arith, nat_tests, place)

is_ten : (x : ℕ) → not (is_line_feed x) ≡ false → x ≡ 10
is_ten x e = grind (arith, nat_tests, e)

-- the part has no line end, or one where it ends
pub data Part (part : List ℕ) : Type 0 where
  Open : has_no_end part ≡ true → Part part
  Ended : (front : List ℕ) → part ≡ front ++ 10 ∷ [] → has_no_end front ≡ true → Part part

pub parted : (piece : List ℕ) → Part (take (taken_of piece) piece)
parted [] = Open refl
parted (x ∷ xs) = by (not (is_line_feed x)) refl (parted xs)
  where
    more : not (is_line_feed x) ≡ true → (part : List ℕ) → Part part → Part (x ∷ part)
    more e part (Open open_part) = Open (ap (λ b. b && has_no_end part) e ∙ open_part)
    more e part (Ended front are open_front) = Ended (x ∷ front) (ap (λ p. x ∷ p) are) (ap (λ b. b && has_no_end front) e ∙ open_front)

    by : (b : Bool) → not (is_line_feed x) ≡ b → Part (take (taken_of xs) xs) → Part (take (taken_of (x ∷ xs)) (x ∷ xs))
    by true e rest = subst (λ (k : ℕ). Part (take k (x ∷ xs))) (sym (taken_on x xs e)) (more e (take (taken_of xs) xs) rest)
    by false e rest = subst (λ (k : ℕ). Part (take k (x ∷ xs))) (sym (taken_here x xs e)) (Ended [] (ap (λ c. c ∷ []) (is_ten x e)) refl)

-- a part, and what follows it
pub rejoined : (u : ℕ) (piece bytes : List ℕ) → take u piece ++ (drop u piece ++ bytes) ≡ piece ++ bytes
rejoined u piece bytes = sym (append_assoc (take u piece) (drop u piece) bytes) ∙ ap (λ v. v ++ bytes) (take-append-drop u piece)

pub parted_at : (piece : List ℕ) (u : ℕ) → u ≡ taken_of piece → Part (take u piece)
parted_at piece u is = subst (λ (v : ℕ). Part (take v piece)) (sym is) (parted piece)

-- what a search for any LF found
none_found : (part : List ℕ) → has_no_end part ≡ not (list_any is_line_feed part)
none_found [] = refl
none_found (x ∷ xs) = by (is_line_feed x) refl (none_found xs)
  where
    by : (b : Bool) → is_line_feed x ≡ b → has_no_end xs ≡ not (list_any is_line_feed xs) → has_no_end (x ∷ xs) ≡ not (list_any is_line_feed (x ∷ xs))
    by true e rest = ap (λ b. not b && has_no_end xs) e ∙ sym (ap (λ b. not (b || list_any is_line_feed xs)) e)
    by false e rest = ap (λ b. not b && has_no_end xs) e ∙ rest ∙ sym (ap (λ b. not (b || list_any is_line_feed xs)) e)

pub open_where : (part : List ℕ) (found : Bool) → found ≡ list_any is_line_feed part → found ≡ false → has_no_end part ≡ true
open_where part found is e = none_found part ∙ ap not (sym is ∙ e)

pub ended_where : (part : List ℕ) (found : Bool) → found ≡ list_any is_line_feed part → found ≡ true → has_no_end part ≡ true → ⊥
ended_where part found is e open_part = let never : false ≡ true = ap not (sym e ∙ is) ∙ sym (none_found part) ∙ open_part in cc

-- no line ends in it
pub none_ended : (part : List ℕ) → has_no_end part ≡ true → lines_ended part ≡ 0
none_ended [] e = refl
none_ended (x ∷ xs) e = by (is_line_feed x) refl e (none_ended xs)
  where
    by : (b : Bool) → is_line_feed x ≡ b → (not (is_line_feed x) && has_no_end xs) ≡ true → (has_no_end xs ≡ true → lines_ended xs ≡ 0) → lines_ended (x ∷ xs) ≡ 0
    by false is open_part rest = ap (λ b. cond b (lines_ended xs + 1) (lines_ended xs)) is ∙ rest (ap (λ b. not b && has_no_end xs) (sym is) ∙ open_part)
    by true is open_part rest = let no : false ≡ true = ap (λ b. not b && has_no_end xs) (sym is) ∙ open_part in cc

pub ended_further : (a b : List ℕ) → lines_ended (a ++ b) ≡ lines_ended a + lines_ended b
ended_further [] b = let e : lines_ended b ≡ 0 + lines_ended b = omega arith in e
ended_further (x ∷ xs) b = by (is_line_feed x) refl (ended_further xs b)
  where
    by : (feed : Bool) → is_line_feed x ≡ feed → lines_ended (xs ++ b) ≡ lines_ended xs + lines_ended b → lines_ended (x ∷ xs ++ b) ≡ lines_ended (x ∷ xs) + lines_ended b
    by true is rest =
        let all = ap (λ c. cond c (lines_ended (xs ++ b) + 1) (lines_ended (xs ++ b))) is in
        let first = ap (λ c. cond c (lines_ended xs + 1) (lines_ended xs)) is in
        omega (arith, all, first, rest)
    by false is rest =
        let all = ap (λ c. cond c (lines_ended (xs ++ b) + 1) (lines_ended (xs ++ b))) is in
        let first = ap (λ c. cond c (lines_ended xs + 1) (lines_ended xs)) is in
        omega (arith, all, first, rest)

-- at most one line ends in it
pub one_at_most : (part : List ℕ) → Part part → lines_ended part ≤ 1
one_at_most part (Open open_part) = omega (arith, none_ended part open_part)
one_at_most part (Ended front are open_front) =
    let ten : lines_ended (10 ∷ []) ≡ 1 = refl in
    omega (arith, ap lines_ended are, ended_further front (10 ∷ []), none_ended front open_front, ten)

pub none_at_all : (part : List ℕ) → has_no_end part ≡ true → (taken after : ℕ) → taken ≡ after → taken + lines_ended part ≤ after
none_at_all part open_part taken after same = omega (arith, none_ended part open_part, same)

open_both : (u v : List ℕ) → has_no_end u ≡ true → has_no_end v ≡ true → has_no_end (u ++ v) ≡ true
open_both u v a b = list_all-append (λ b. not (is_line_feed b)) u v ∙ ap (λ x. x && has_no_end v) a ∙ b

-- where no line ends in it, the part is all of the piece
open_all : (piece : List ℕ) → has_no_end (take (taken_of piece) piece) ≡ true → take (taken_of piece) piece ≡ piece
open_all [] e = refl
open_all (x ∷ xs) e = by (not (is_line_feed x)) refl (open_all xs)
  where
    by : (b : Bool) → not (is_line_feed x) ≡ b → (has_no_end (take (taken_of xs) xs) ≡ true → take (taken_of xs) xs ≡ xs) → take (taken_of (x ∷ xs)) (x ∷ xs) ≡ x ∷ xs
    by true is rest =
        let more : has_no_end (x ∷ take (taken_of xs) xs) ≡ true = ap (λ (k : ℕ). has_no_end (take k (x ∷ xs))) (sym (taken_on x xs is)) ∙ e in
        let left : has_no_end (take (taken_of xs) xs) ≡ true = ap (λ b. b && has_no_end (take (taken_of xs) xs)) (sym is) ∙ more in
        ap (λ (k : ℕ). take k (x ∷ xs)) (taken_on x xs is) ∙ ap (λ (v : List ℕ). x ∷ v) (rest left)
    by false is rest =
        let more : has_no_end (x ∷ []) ≡ true = ap (λ (k : ℕ). has_no_end (take k (x ∷ xs))) (sym (taken_here x xs is)) ∙ e in
        let no : false ≡ true = ap (λ b. b && true) (sym is) ∙ more in
        cc

-- what was taken of a piece is what is taken of its part up to the line end
pub takes_part : (old piece line new : List ℕ) (used : ℕ) → has_no_end old ≡ true → used ≡ taken_of piece → Takes old piece used (Some line) new → Takes old (take used piece) used (Some line) new
takes_part old piece line new used open_old is taken = by (parted_at piece used is)
  where
    rest : List ℕ
    rest = drop used piece ++ []

    all : length (take used piece) ≡ used
    all = let within = taken.1 in omega (arith, within, length-take used piece)

    first : (front : List ℕ) → take used piece ≡ front ++ 10 ∷ [] → has_no_end front ≡ true → (bytes : List ℕ) → lines (old ++ (take used piece ++ bytes)) ≡ strip_carriage_return (old ++ front) ∷ lines bytes
    first front are open_front bytes =
        ap (λ v. lines (old ++ (v ++ bytes))) are
        ∙ ap (λ v. lines (old ++ v)) (append_assoc front (10 ∷ []) bytes)
        ∙ ap lines (sym (append_assoc old front (10 ∷ bytes)))
        ∙ line_ends (old ++ front) bytes (list_all-append (λ b. not (is_line_feed b)) old front ∙ ap (λ x. x && has_no_end front) open_old ∙ open_front)

    told : (front : List ℕ) → take used piece ≡ front ++ 10 ∷ [] → has_no_end front ≡ true → Alike (line ∷ lines rest) (strip_carriage_return (old ++ front) ∷ lines rest)
    told front are open_front =
        subst (λ (ls : List (List ℕ)). Alike (line ∷ lines rest) ls)
        (ap (λ v. lines (old ++ v)) (sym (rejoined used piece [])) ∙ first front are open_front rest)
        (taken.3 [])

    same : (front : List ℕ) → Alike (line ∷ lines rest) (strip_carriage_return (old ++ front) ∷ lines rest) → (more : List ℕ) → Alike (line ∷ lines more) (strip_carriage_return (old ++ front) ∷ lines more)
    same front (inl e) more = let one : line ≡ strip_carriage_return (old ++ front) = cc in inl (ap (λ v. v ∷ lines more) one)
    same front (inr long) more = inr long

    none : drop used (take used piece) ≡ []
    none = drop_all used (take used piece) (omega (arith, all))

    by : Part (take used piece) → Takes old (take used piece) used (Some line) new
    by (Open open_part) =
        subst (λ (v : List ℕ). Takes old v used (Some line) new)
        (sym (ap (λ (k : ℕ). take k piece) is ∙ open_all piece (ap (λ (k : ℕ). has_no_end (take k piece)) (sym is) ∙ open_part))) taken
    by (Ended front are open_front) = (
      taken.0,
      omega (arith, all),
      taken.2,
      λ more.
          subst (λ (v : List ℕ). Alike (line ∷ lines (v ++ more)) (lines (old ++ (take used piece ++ more)))) (sym none)
          (subst (λ (ls : List (List ℕ)). Alike (line ∷ lines more) ls) (sym (first front are open_front more))
          (same front (told front are open_front) more)),
    )

pub all_taken : (piece : List ℕ) (used : ℕ) → used ≡ length piece → take used piece ≡ piece
all_taken piece used is = take_all used piece (omega (arith, is))

-- nothing is left of a part behind what was taken of it
pub nothing_behind : (piece : List ℕ) (used : ℕ) → used ≤ length piece → drop used (take used piece) ≡ []
nothing_behind piece used within = drop_all used (take used piece) (omega (arith, within, length-take used piece))

-- how many bytes are taken of a piece that has some
pub some_used : (piece : List ℕ) (used : ℕ) → 0 < length piece → used ≡ taken_of piece → (0 < used) × (used ≤ length piece)
some_used piece used full is = (grind (arith, nat_tests, full, is), grind (arith, nat_tests, full, is))

pub some_taken : {A E : Type 0} (result : Result (ℕ × A) E) (piece : List ℕ) → 0 < length piece → IfOk result (λ taken. taken.0 ≡ taken_of piece)
    → IfOk result (λ taken. (0 < taken.0) × (taken.0 ≤ length piece))
some_taken (Ok taken) piece full is = some_used piece taken.0 full is
some_taken (Err e) piece full is = tt

-- a line has ended, and what was taken told none: then it is longer than any may be
module _ (options : Options) (jobs : ℕ) (m : Marks) (section : Section) (n : ℕ) (old front new : List ℕ) (used : ℕ)
    (open_old : has_no_end old ≡ true) (open_new : has_no_end new ≡ true) (open_front : has_no_end front ≡ true) where
  ended_line : (bytes : List ℕ) → lines (old ++ ((front ++ 10 ∷ []) ++ bytes)) ≡ strip_carriage_return (old ++ front) ∷ lines bytes
  ended_line bytes =
      ap (λ v. lines (old ++ v)) (append_assoc front (10 ∷ []) bytes)
      ∙ ap lines (sym (append_assoc old front (10 ∷ bytes)))
      ∙ line_ends (old ++ front) bytes (open_both old front open_old open_front)

  one_line : lines (new ++ 120 ∷ []) ≡ (new ++ 120 ∷ []) ∷ []
  one_line =
      let w = new ++ 120 ∷ [] in
      let full : (length w == 0) ≡ false = ne_eqb (length w) 0 (omega (arith, length-append new (120 ∷ []))) in
      last_line w (open_both new (120 ∷ []) open_new refl) ∙ ap (λ b. cond b [] (w ∷ [])) full

  long : Takes old (front ++ 10 ∷ []) used None new → 5000 < length (strip_carriage_return (old ++ front))
  long taken = by (subst (λ (ls : List (List ℕ)). Alike ls (strip_carriage_return (old ++ front) ∷ lines (120 ∷ []))) one_line
      (subst (λ (ls : List (List ℕ)). Alike (lines (new ++ 120 ∷ [])) ls) (ended_line (120 ∷ [])) (taken.1 (120 ∷ []))))
    where
      by : Alike ((new ++ 120 ∷ []) ∷ []) (strip_carriage_return (old ++ front) ∷ (120 ∷ []) ∷ []) → 5000 < length (strip_carriage_return (old ++ front))
      by (inl same) = let counts : 1 ≡ 2 = ap length same in absurd (omega (arith, counts))
      by (inr both) = both.1

  late : Takes old (front ++ 10 ∷ []) used None new → (bytes : List ℕ)
      → outcome options jobs m (state.Reading section) n (lines (old ++ ((front ++ 10 ∷ []) ++ bytes))) ≡ refused_at n LineTooLong
  late taken bytes =
      ap (outcome options jobs m (state.Reading section) n) (ended_line bytes)
      ∙ ap (outcome_of options.check jobs m) (long_refused options.slots.number section n (strip_carriage_return (old ++ front)) (lines bytes) (long taken))
      ∙ outcome_refused options.check options.slots.number jobs m section n LineTooLong

  late_told : Takes old (front ++ 10 ∷ []) used None new → (bytes : List ℕ) → told_from options jobs m (state.Reading section) n (lines (old ++ ((front ++ 10 ∷ []) ++ bytes))) ≡ []
  late_told taken bytes =
      ap (told_from options jobs m (state.Reading section) n) (ended_line bytes)
      ∙ ap (told_to options.check jobs m) (long_refused options.slots.number section n (strip_carriage_return (old ++ front)) (lines bytes) (long taken))
      ∙ told_refused options.check options.slots.number jobs m section n LineTooLong

-- and so the deck is refused, whatever follows
pub told_late : (options : Options) (m : Marks) (section : Section) (s : DeckState) (n : ℕ) (counts : Counts) (out old piece new : List ℕ) (u k : ℕ)
    → s ≡ state.Reading section → has_no_end old ≡ true → has_no_end new ≡ true → Part (take u piece) → (has_no_end (take u piece) ≡ true → ⊥) → Takes old (take u piece) k None new
    → (bytes : List ℕ) → behind out counts (refused_at n LineTooLong) ≡ behind out counts (outcome options counts.jobs m s n (lines (old ++ (piece ++ bytes))))
told_late options m section s n counts out old piece new u k is open_old open_new part ended taken bytes =
    by part
    ∙ ap (λ (v : DeckState). behind out counts (outcome options counts.jobs m v n (lines (old ++ (take u piece ++ (drop u piece ++ bytes)))))) (sym is)
    ∙ ap (λ v. behind out counts (outcome options counts.jobs m s n (lines (old ++ v)))) (rejoined u piece bytes)
  where
    by : Part (take u piece) → behind out counts (refused_at n LineTooLong) ≡ behind out counts (outcome options counts.jobs m (state.Reading section) n (lines (old ++ (take u piece ++ (drop u piece ++ bytes)))))
    by (Open open_part) = absurd (ended open_part)
    by (Ended front are open_front) =
        let taken_so = subst (λ (v : List ℕ). Takes old v k None new) are taken in
        ap (behind out counts) (sym (late options counts.jobs m section n old front new k open_old open_new open_front taken_so (drop u piece ++ bytes)))
        ∙ ap (λ v. behind out counts (outcome options counts.jobs m (state.Reading section) n (lines (old ++ (v ++ (drop u piece ++ bytes)))))) (sym are)

-- and nothing is told
pub none_late : (options : Options) (m : Marks) (section : Section) (s : DeckState) (n jobs : ℕ) (old piece new : List ℕ) (u k : ℕ)
    → s ≡ state.Reading section → has_no_end old ≡ true → has_no_end new ≡ true → Part (take u piece) → (has_no_end (take u piece) ≡ true → ⊥) → Takes old (take u piece) k None new
    → (bytes : List ℕ) → told_from options jobs m s n (lines (old ++ (piece ++ bytes))) ≡ []
none_late options m section s n jobs old piece new u k is open_old open_new part ended taken bytes =
    sym (ap (λ v. told_from options jobs m s n (lines (old ++ v))) (rejoined u piece bytes))
    ∙ ap (λ (v : DeckState). told_from options jobs m v n (lines (old ++ (take u piece ++ (drop u piece ++ bytes))))) is
    ∙ by part
  where
    by : Part (take u piece) → told_from options jobs m (state.Reading section) n (lines (old ++ (take u piece ++ (drop u piece ++ bytes)))) ≡ []
    by (Open open_part) = absurd (ended open_part)
    by (Ended front are open_front) =
        let taken_so = subst (λ (v : List ℕ). Takes old v k None new) are taken in
        ap (λ v. told_from options jobs m (state.Reading section) n (lines (old ++ (v ++ (drop u piece ++ bytes))))) are
        ∙ late_told options jobs m section n old front new k open_old open_new open_front taken_so (drop u piece ++ bytes)
