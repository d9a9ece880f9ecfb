-- How lines stand in memory when one is put behind them, or some are cut off.
use Rattle.std.proofs.Common.{◌≡◌, ℕ, zero, suc, ◌+◌, ◌-◌, ◌<◌, ◌≤◌, List, [], ◌∷◌, ◌++◌, length, get_or, take, drop, refl, sym, ap, subst, ◌∙◌, arith, append_assoc, length-append}
use Rattle.std.specs.{Prelude.{slice_set}, List.{AllByRecursion, concat, slice_range}}
use Rattle.std.proofs.lemmas.List.{FromFn.{get_or-map-range_with_len, length-map-range_with_len}, Concat.{flat_map-append}}
use Rattle.std.proofs.lemmas.List.{ext_get_or, append-nil, take-append-le, take-append-drop, length-take-le, take_more_set}
use Rattle.std.proofs.Math.Seq.{take-append_seam, take-append-add, drop-append-add, take-length}
use Rattle.mon_text.specs.Lines.{IsLine}
use Rattle.packed_lines.specs.Packing.{pieces, printed, ends_of, start_of, IsPacked}

pub how_many : (from : ℕ) (lines : List (List ℕ)) → length (ends_of from lines) ≡ length lines
how_many from [] = refl
how_many from (l ∷ ls) = ap suc (how_many (from + length l + 1) ls)

pub counted : (capacity : ℕ) (ends bytes : List ℕ) (lines : List (List ℕ)) → IsPacked capacity ends bytes lines → length ends ≡ length lines
counted capacity ends bytes lines p = ap length p.ended ∙ how_many 0 lines

-- one line more is as many bytes more, and LF
one_more : (l : List ℕ) (ls : List (List ℕ)) → length (printed (l ∷ ls)) ≡ length l + 1 + length (printed ls)
one_more l ls = length-append (l ++ 10 ∷ []) (printed ls) ∙ ap (λ (n : ℕ). n + length (printed ls)) (length-append l (10 ∷ []))

-- where a line ends
pub end_at : (from n : ℕ) (lines : List (List ℕ)) (d : ℕ) → n < length lines → get_or (ends_of from lines) n d ≡ from + start_of (suc n) lines
end_at from n [] d within = omega (arith, within)
end_at from zero (l ∷ ls) d within = omega (arith, one_more l [])
end_at from (suc n) (l ∷ ls) d within =
    end_at (from + length l + 1) n ls d (omega (arith, within)) ∙ omega (arith, one_more l (take (suc n) ls))

printed_taken : (n : ℕ) (lines : List (List ℕ)) → take (start_of n lines) (printed lines) ≡ printed (take n lines)
printed_taken zero lines = refl
printed_taken (suc n) [] = refl
printed_taken (suc n) (l ∷ ls) =
    let whole = l ++ 10 ∷ [] in
    rw (length-append whole (printed (take n ls))) (
    rw (take-append-add whole (printed ls) (start_of n ls)) (ap (λ (xs : List ℕ). whole ++ xs) (printed_taken n ls)))

ends_taken : (from n : ℕ) (lines : List (List ℕ)) → ends_of from (take n lines) ≡ take n (ends_of from lines)
ends_taken from zero lines = refl
ends_taken from (suc n) [] = refl
ends_taken from (suc n) (l ∷ ls) = ap (λ (es : List ℕ). (from + length l + 1) ∷ es) (ends_taken (from + length l + 1) n ls)

ends_pushed : (from : ℕ) (lines : List (List ℕ)) (line : List ℕ) → ends_of from (lines ++ line ∷ []) ≡ ends_of from lines ++ (from + length (printed lines) + length line + 1) ∷ []
ends_pushed from [] line = ap (λ (n : ℕ). n ∷ []) (omega arith)
ends_pushed from (l ∷ ls) line =
    ap (λ (es : List ℕ). (from + length l + 1) ∷ es)
    (ends_pushed (from + length l + 1) ls line
    ∙ ap (λ (n : ℕ). ends_of (from + length l + 1) ls ++ n ∷ []) (omega (arith, one_more l ls)))

-- the line at an index
pub line_at : (n : ℕ) (lines : List (List ℕ)) (d : List ℕ) → n < length lines
    → slice_range (printed lines) (start_of n lines) (start_of (suc n) lines - 1) ≡ get_or lines n d
line_at n [] d within = let no : ◌≡◌ {A = ℕ} 0 1 = omega (arith, within) in cc
line_at zero (l ∷ ls) d within =
    ap (λ (k : ℕ). take k ((l ++ 10 ∷ []) ++ printed ls)) (omega (arith, one_more l []))
    ∙ ap (λ (xs : List ℕ). take (length l) xs) (append_assoc l (10 ∷ []) (printed ls))
    ∙ take-append_seam l (10 ∷ printed ls)
line_at (suc n) (l ∷ ls) d within =
    let whole = l ++ 10 ∷ [] in
    rw (length-append whole (printed (take n ls))) (
    rw (length-append whole (printed (take (suc n) ls))) (
    rw (drop-append-add whole (printed ls) (start_of n ls)) (
    ap (λ (k : ℕ). take k (drop (start_of n ls) (printed ls))) (omega arith)
    ∙ line_at n ls d (omega (arith, within)))))

-- where the line begins
begins_at : (n : ℕ) (lines : List (List ℕ)) → n < length lines → get_or (0 ∷ ends_of 0 lines) n 0 ≡ start_of n lines
begins_at zero lines within = refl
begins_at (suc n) lines within = end_at 0 n lines 0 (omega (arith, within)) ∙ omega arith

-- what stands in memory are the lines
pieces_are : (lines : List (List ℕ)) → pieces (ends_of 0 lines) (printed lines) ≡ lines
pieces_are lines =
    let part = λ (i : ℕ). slice_range (printed lines) (get_or (0 ∷ ends_of 0 lines) i 0) (get_or (ends_of 0 lines) i 0 - 1) in
    let many : length (pieces (ends_of 0 lines) (printed lines)) ≡ length lines = length-map-range_with_len part 0 (length (ends_of 0 lines)) ∙ how_many 0 lines in
    ext_get_or [] (pieces (ends_of 0 lines) (printed lines)) lines many
    (λ i below.
    let within : i < length lines = omega (arith, below, many) in
    get_or-map-range_with_len part 0 (length (ends_of 0 lines)) i i [] (omega (arith, within, how_many 0 lines)) (omega arith)
    ∙ ap (λ (start : ℕ). slice_range (printed lines) start (get_or (ends_of 0 lines) i 0 - 1)) (begins_at i lines within)
    ∙ ap (λ (end : ℕ). slice_range (printed lines) (start_of i lines) (end - 1)) (end_at 0 i lines 0 within ∙ omega arith)
    ∙ line_at i lines [] within)

pub seen : (capacity : ℕ) (ends bytes : List ℕ) (lines : List (List ℕ)) → IsPacked capacity ends bytes lines → pieces ends bytes ≡ lines
seen capacity ends bytes lines p = ap (λ (es : List ℕ). pieces es bytes) p.ended ∙ ap (λ (bs : List ℕ). pieces (ends_of 0 lines) bs) p.joined ∙ pieces_are lines

pub standing : (capacity : ℕ) (ends bytes : List ℕ) (lines : List (List ℕ)) → IsPacked capacity ends bytes lines → IsPacked capacity ends bytes (pieces ends bytes)
standing capacity ends bytes lines p = subst (IsPacked capacity ends bytes) (sym (seen capacity ends bytes lines p)) p

both_taken : (m n : ℕ) (lines : List (List ℕ)) → m ≤ n → take m (take n lines) ≡ take m lines
both_taken zero n lines le = refl
both_taken (suc m) zero lines le = let no : ◌≡◌ {A = ℕ} 0 1 = omega (arith, le) in cc
both_taken (suc m) (suc n) [] le = refl
both_taken (suc m) (suc n) (l ∷ ls) le = ap (λ (rest : List (List ℕ)). l ∷ rest) (both_taken m n ls (omega (arith, le)))

-- lines are printable up to an index, and with one behind them
all_taken : (n : ℕ) (lines : List (List ℕ)) → AllByRecursion IsLine lines → AllByRecursion IsLine (take n lines)
all_taken zero lines all = tt
all_taken (suc n) [] all = tt
all_taken (suc n) (l ∷ ls) all = (all.0, all_taken n ls all.1)

all_pushed : (lines : List (List ℕ)) (line : List ℕ) → AllByRecursion IsLine lines → IsLine line → AllByRecursion IsLine (lines ++ line ∷ [])
all_pushed [] line all one = (one, tt)
all_pushed (l ∷ ls) line all one = (all.0, all_pushed ls line all.1 one)

pub all_at : (n : ℕ) (lines : List (List ℕ)) (d : List ℕ) → n < length lines → AllByRecursion IsLine lines → IsLine (get_or lines n d)
all_at n [] d within all = absurd (omega (arith, within))
all_at zero (l ∷ ls) d within all = all.0
all_at (suc n) (l ∷ ls) d within all = all_at n ls d (omega (arith, within)) all.1

-- the line at an index, with LF behind it
whole_at : (n : ℕ) (lines : List (List ℕ)) (d : List ℕ) → n < length lines
    → slice_range (printed lines) (start_of n lines) (start_of (suc n) lines) ≡ get_or lines n d ++ 10 ∷ []
whole_at n [] d within = absurd (omega (arith, within))
whole_at zero (l ∷ ls) d within =
    let whole = l ++ 10 ∷ [] in
    rw (append-nil whole) (ap (λ (k : ℕ). take k (whole ++ printed ls)) (omega arith) ∙ take-append_seam whole (printed ls))
whole_at (suc n) (l ∷ ls) d within =
    let whole = l ++ 10 ∷ [] in
    rw (length-append whole (printed (take n ls))) (
    rw (length-append whole (printed (take (suc n) ls))) (
    rw (drop-append-add whole (printed ls) (start_of n ls)) (
    ap (λ (k : ℕ). take k (drop (start_of n ls) (printed ls))) (omega arith)
    ∙ whole_at n ls d (omega (arith, within)))))

-- how many bytes lines are beside their characters
pub how_long : (lines : List (List ℕ)) → length (printed lines) ≡ length (concat lines) + length lines
how_long [] = refl
how_long (l ∷ ls) = omega (arith, one_more l ls, how_long ls, length-append l (concat ls))

-- lines from an index on are cut off
pub cut : (capacity n : ℕ) (ends bytes : List ℕ) (lines : List (List ℕ)) → n ≤ length lines → IsPacked capacity ends bytes lines
    → IsPacked capacity (take n ends) (take (start_of n lines) bytes) (take n lines)
cut capacity n ends bytes lines within p = record {
  joined = ap (λ (bs : List ℕ). take (start_of n lines) bs) p.joined ∙ printed_taken n lines;
  ended = ap (λ (es : List ℕ). take n es) p.ended ∙ sym (ends_taken 0 n lines);
  printable = all_taken n lines p.printable;
  room = λ m below.
      let short : m < n = omega (arith, below, length-take-le n lines within) in
      let same : take m (take n lines) ≡ take m lines = both_taken m n lines (omega (arith, short)) in
      rw same (p.room m (omega (arith, short, within)));
}

below_or_all : (m n a b : ℕ) → m ≤ n → (m < n → a ≤ b) → (m ≡ n → a ≤ b) → a ≤ b
below_or_all zero zero a b le below all = all refl
below_or_all zero (suc n) a b le below all = below (omega arith)
below_or_all (suc m) zero a b le below all = omega (arith, le)
below_or_all (suc m) (suc n) a b le below all = below_or_all m n a b (omega (arith, le)) (λ h. below (omega (arith, h))) (λ e. all (ap suc e))

roomy : (capacity wide : ℕ) (bytes : List ℕ) (lines : List (List ℕ)) (m : ℕ) → m ≤ length lines → capacity ≤ wide → length bytes + 1025 ≤ wide → bytes ≡ printed lines
    → ((n : ℕ) → n < length lines → start_of n lines + 1025 ≤ capacity) → start_of m lines + 1025 ≤ wide
roomy capacity wide bytes lines m within more room joined rooms =
    below_or_all m (length lines) (start_of m lines + 1025) wide within
    (λ h. omega (arith, rooms m h, more))
    (λ e. let whole : start_of m lines ≡ length bytes = ap (λ (xs : List (List ℕ)). length (printed xs)) (ap (λ (n : ℕ). take n lines) e ∙ take-length lines) ∙ ap length (sym joined) in omega (arith, whole, room))

-- a line is put behind others, with so much room from where it begins
pub pushed : (capacity wide : ℕ) (ends bytes line : List ℕ) (lines : List (List ℕ)) → IsPacked capacity ends bytes lines → IsLine line → capacity ≤ wide → length bytes + 1025 ≤ wide
    → IsPacked wide (ends ++ length ((bytes ++ line) ++ 10 ∷ []) ∷ []) ((bytes ++ line) ++ 10 ∷ []) (lines ++ line ∷ [])
pushed capacity wide ends bytes line lines p printable more room = record {
  joined =
      ap (λ (bs : List ℕ). (bs ++ line) ++ 10 ∷ []) p.joined ∙ append_assoc (printed lines) line (10 ∷ [])
      ∙ ap (λ (xs : List ℕ). printed lines ++ xs) (sym (append-nil (line ++ 10 ∷ []))) ∙ sym (flat_map-append (λ (l : List ℕ). l ++ 10 ∷ []) lines (line ∷ []));
  ended =
      ap (λ (es : List ℕ). es ++ length ((bytes ++ line) ++ 10 ∷ []) ∷ []) p.ended
      ∙ ap (λ (n : ℕ). ends_of 0 lines ++ n ∷ [])
      (length-append (bytes ++ line) (10 ∷ []) ∙ ap (λ (n : ℕ). n + 1) (length-append bytes line) ∙ ap (λ (bs : List ℕ). length bs + length line + 1) p.joined ∙ omega arith)
      ∙ sym (ends_pushed 0 lines line);
  printable = all_pushed lines line p.printable printable;
  room = λ m below.
      let within : m ≤ length lines = omega (arith, below, length-append lines (line ∷ [])) in
      rw (take-append-le m lines (line ∷ []) within) (roomy capacity wide bytes lines m within more room p.joined p.room);
}

-- a line begins in what stands in memory
pub starts_within : (capacity n : ℕ) (ends bytes : List ℕ) (lines : List (List ℕ)) → IsPacked capacity ends bytes lines → start_of n lines ≤ length bytes
starts_within capacity n ends bytes lines p =
    let whole : printed (take n lines) ++ printed (drop n lines) ≡ bytes =
    sym (flat_map-append (λ (l : List ℕ). l ++ 10 ∷ []) (take n lines) (drop n lines)) ∙ ap printed (take-append-drop n lines) ∙ sym p.joined in
    omega (arith, ap length whole, length-append (printed (take n lines)) (printed (drop n lines)))

-- a line is put in the place of one and of those behind it
put : (capacity wide n : ℕ) (ends bytes line : List ℕ) (lines : List (List ℕ)) → n < length lines → IsPacked capacity ends bytes lines → IsLine line → capacity ≤ wide
    → IsPacked wide (take (n + 1) (slice_set ends n (length ((take (start_of n lines) bytes ++ line) ++ 10 ∷ [])))) ((take (start_of n lines) bytes ++ line) ++ 10 ∷ []) (take n lines ++ line ∷ [])
put capacity wide n ends bytes line lines within p printable more =
    let kept = cut capacity n ends bytes lines (omega (arith, within)) p in
    let start = starts_within capacity n ends bytes lines p in
    rw (take_more_set ends n (length ((take (start_of n lines) bytes ++ line) ++ 10 ∷ [])) (omega (arith, within, ap length p.ended, how_many 0 lines))) (
    pushed capacity wide (take n ends) (take (start_of n lines) bytes) line (take n lines) kept printable more
    (omega (arith, more, p.room n within, length-take-le (start_of n lines) bytes start)))

-- where a line begins that is not the first
pub start_is : (capacity n : ℕ) (ends bytes : List ℕ) (lines : List (List ℕ)) (start : ℕ) → IsPacked capacity ends bytes lines → 0 < n → n ≤ length lines
    → start ≡ get_or ends (n - 1) start → start ≡ start_of n lines
start_is capacity zero ends bytes lines start p some within is = omega (arith, some)
start_is capacity (suc n) ends bytes lines start p some within is =
    is ∙ ap (λ (k : ℕ). get_or ends k start) (omega arith) ∙ ap (λ (es : List ℕ). get_or es n start) p.ended ∙ end_at 0 n lines start (omega (arith, within)) ∙ omega arith

-- where a line ends
pub end_is : (capacity n : ℕ) (ends bytes : List ℕ) (lines : List (List ℕ)) (end : ℕ) → IsPacked capacity ends bytes lines → n < length lines
    → end ≡ get_or ends n end → end ≡ start_of (suc n) lines
end_is capacity n ends bytes lines end p within is =
    is ∙ ap (λ (es : List ℕ). get_or es n end) p.ended ∙ end_at 0 n lines end within ∙ omega arith

pub ordered : (n : ℕ) (lines : List (List ℕ)) → n < length lines → start_of n lines < start_of (suc n) lines
ordered n [] within = omega (arith, within)
ordered zero (l ∷ ls) within = omega (arith, one_more l [])
ordered (suc n) (l ∷ ls) within = omega (arith, ordered n ls (omega (arith, within)), one_more l (take n ls), one_more l (take (suc n) ls))

-- the line between where it begins and where it ends
pub part_is : (capacity n : ℕ) (ends bytes : List ℕ) (lines : List (List ℕ)) (start end : ℕ) (d : List ℕ) → IsPacked capacity ends bytes lines → n < length lines
    → start ≡ start_of n lines → end ≡ start_of (suc n) lines → slice_range bytes start (end - 1) ≡ get_or lines n d
part_is capacity n ends bytes lines start end d p within begins is =
    ap (λ (bs : List ℕ). slice_range bs start (end - 1)) p.joined
    ∙ ap (λ (k : ℕ). slice_range (printed lines) k (end - 1)) begins
    ∙ ap (λ (k : ℕ). slice_range (printed lines) (start_of n lines) (k - 1)) is
    ∙ line_at n lines d within

-- the same with the LF behind it
whole_is : (capacity n : ℕ) (ends bytes : List ℕ) (lines : List (List ℕ)) (start end : ℕ) (d : List ℕ) → IsPacked capacity ends bytes lines → n < length lines
    → start ≡ start_of n lines → end ≡ start_of (suc n) lines → slice_range bytes start end ≡ get_or lines n d ++ 10 ∷ []
whole_is capacity n ends bytes lines start end d p within begins is =
    ap (λ (bs : List ℕ). slice_range bs start end) p.joined
    ∙ ap (λ (k : ℕ). slice_range (printed lines) k end) begins
    ∙ ap (λ (k : ℕ). slice_range (printed lines) (start_of n lines) k) is
    ∙ whole_at n lines d within

-- where a line ends, by what is read of the ends, and that it lies between there and where it begins
end_read : (capacity n : ℕ) (ends bytes items : List ℕ) (lines : List (List ℕ)) → IsPacked capacity ends bytes lines → items ≡ ends → n < length lines
    → get_or items n 0 ≡ start_of (suc n) lines
end_read capacity n ends bytes items lines p same within = ap (λ (es : List ℕ). get_or es n 0) (same ∙ p.ended) ∙ end_at 0 n lines 0 within ∙ omega arith

pub begins_next : (capacity n : ℕ) (ends bytes items : List ℕ) (lines : List (List ℕ)) → IsPacked capacity ends bytes lines → items ≡ ends → n < length lines
    → get_or items n 0 ≡ start_of (n + 1) lines
begins_next capacity n ends bytes items lines p same within =
    let next : suc n ≡ n + 1 = omega arith in
    end_read capacity n ends bytes items lines p same within ∙ ap (λ (k : ℕ). start_of k lines) next

pub lies_within : (capacity n : ℕ) (ends bytes items text : List ℕ) (lines : List (List ℕ)) (start : ℕ) → IsPacked capacity ends bytes lines → items ≡ ends → text ≡ bytes → n < length lines
    → start ≡ start_of n lines → (start ≤ get_or items n 0) × (get_or items n 0 ≤ length text)
lies_within capacity n ends bytes items text lines start p same said within begins =
    let end = end_read capacity n ends bytes items lines p same within in
    (omega (arith, end, ordered n lines within, begins), omega (arith, end, starts_within capacity (suc n) ends bytes lines p, ap length said))

-- and what it is
pub whole_read : (capacity n : ℕ) (ends bytes items text : List ℕ) (lines : List (List ℕ)) (start : ℕ) → IsPacked capacity ends bytes lines → items ≡ ends → text ≡ bytes → n < length lines
    → start ≡ start_of n lines → slice_range text start (get_or items n 0) ≡ get_or lines n [] ++ 10 ∷ []
whole_read capacity n ends bytes items text lines start p same said within begins =
    ap (λ (bs : List ℕ). slice_range bs start (get_or items n 0)) said
    ∙ whole_is capacity n ends bytes lines start (get_or items n 0) [] p within begins (end_read capacity n ends bytes items lines p same within)

-- the lines as a contract sees them
pub known : (capacity : ℕ) (ends bytes : List ℕ) (lines : List (List ℕ)) → pieces ends bytes ≡ lines → IsPacked capacity ends bytes (pieces ends bytes)
    → IsPacked capacity ends bytes lines
known capacity ends bytes lines is p = subst (IsPacked capacity ends bytes) is p

-- the same by what the vectors have then
pub pushed_so : (capacity wide : ℕ) (ends bytes line : List ℕ) (lines : List (List ℕ)) (ends' bytes' : List ℕ) → IsPacked capacity ends bytes lines → IsLine line
    → capacity ≤ wide → length bytes + 1025 ≤ wide → bytes' ≡ (bytes ++ line) ++ 10 ∷ [] → ends' ≡ ends ++ length bytes' ∷ [] → IsPacked wide ends' bytes' (lines ++ line ∷ [])
pushed_so capacity wide ends bytes line lines ends' bytes' p printable more room bytes_are ends_are =
    rw ends_are (rw bytes_are (pushed capacity wide ends bytes line lines p printable more room))

pub put_so : (capacity wide n : ℕ) (ends bytes line : List ℕ) (lines : List (List ℕ)) (ends' bytes' : List ℕ) → n < length lines → IsPacked capacity ends bytes lines
    → IsLine line → capacity ≤ wide → bytes' ≡ (take (start_of n lines) bytes ++ line) ++ 10 ∷ [] → ends' ≡ take (n + 1) (slice_set ends n (length bytes')) → IsPacked wide ends' bytes' (take n lines ++ line ∷ [])
put_so capacity wide n ends bytes line lines ends' bytes' within p printable more bytes_are ends_are =
    rw ends_are (rw bytes_are (put capacity wide n ends bytes line lines within p printable more))

pub cut_so : (capacity wide n : ℕ) (ends bytes : List ℕ) (lines : List (List ℕ)) (ends' bytes' : List ℕ) → n ≤ length lines → IsPacked capacity ends bytes lines
    → wide ≡ capacity → bytes' ≡ take (start_of n lines) bytes → ends' ≡ take n ends → IsPacked wide ends' bytes' (take n lines)
cut_so capacity wide n ends bytes lines ends' bytes' within p same bytes_are ends_are = rw same (rw ends_are (rw bytes_are (cut capacity n ends bytes lines within p)))
