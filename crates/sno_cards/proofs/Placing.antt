-- Texts kept as characters and segments.
use Rattle.std.proofs.Common.{◌≡◌, ℕ, ◌+◌, ◌-◌, ◌^◌, ◌<◌, ◌≤◌, Bool, true, false, ◌&&◌, List, [], ◌∷◌, ◌++◌, length, Result, Ok, Err, is_ok, OnOk, length-append, Some, slice_get, get_or, nat_le, min, if◌then◌else◌, zero, suc, refl, sym, ap, ◌∙◌, subst, arith}
use Rattle.std.proofs.lemmas.Bool.Decides.{nat_tests}
use Rattle.sno_cards.specs.{declared.refusal.Place.{Place}, declared.text.Segment.{Segment}, Texts.{Placed, text_of}, inner.Parts.{places_of}}
use Rattle.sno_cards.specs.{Statements.{placed_on}, inner.Segments.{AreAscending, nowhere, moved, place_by, placed_by, ascend}}

-- WHAT IS READ

pub text_of-placed_by : (ss : List Segment) (n : ℕ) (cs : List ℕ) → text_of (placed_by ss n cs) ≡ cs
text_of-placed_by ss n [] = refl
text_of-placed_by ss n (c ∷ cs) = ap (λ (xs : List ℕ). c ∷ xs) (text_of-placed_by ss (n + 1) cs)

pub length-placed_by : (ss : List Segment) (n : ℕ) (cs : List ℕ) → length (placed_by ss n cs) ≡ length cs
length-placed_by ss n [] = refl
length-placed_by ss n (c ∷ cs) = ap suc (length-placed_by ss (n + 1) cs)

placed_there : (ss : List Segment) (n : ℕ) (cs : List ℕ) (i : ℕ) → i < length cs
    → slice_get (places_of (placed_by ss n cs)) i ≡ Some (place_by nowhere ss (n + i))
placed_there ss n [] i within = absurd (omega arith)
placed_there ss n (c ∷ cs) zero within = let same : n ≡ n + 0 = omega arith in ap (λ k. Some (place_by nowhere ss k)) same
placed_there ss n (c ∷ cs) (suc i) within =
    let same : n + 1 + i ≡ n + suc i = omega arith in
    placed_there ss (n + 1) cs i (omega arith) ∙ ap (λ k. Some (place_by nowhere ss k)) same

pub read_place : (ss : List Segment) (cs : List ℕ) (i : ℕ) (place : Place) → i < length cs → place ≡ place_by nowhere ss i
    → slice_get (places_of (placed_by ss 0 cs)) i ≡ Some place
read_place ss cs i place within is =
    let same : 0 + i ≡ i = omega arith in
    placed_there ss 0 cs i within ∙ ap (λ k. Some (place_by nowhere ss k)) same ∙ ap Some (sym is)

pub ruleset placing = (text_of-placed_by, length-placed_by)

-- WHAT IS APPENDED

placed_by-append : (ss : List Segment) (n : ℕ) (xs ys : List ℕ) → placed_by ss n (xs ++ ys) ≡ placed_by ss n xs ++ placed_by ss (n + length xs) ys
placed_by-append ss n [] ys = let same : n ≡ n + 0 = omega arith in ap (λ k. placed_by ss k ys) same
placed_by-append ss n (x ∷ xs) ys =
    let same : n + 1 + length xs ≡ n + length (x ∷ xs) = omega arith in
    ap (λ (ps : List Placed). record { code = x; place = place_by nowhere ss n } ∷ ps)
    (placed_by-append ss (n + 1) xs ys ∙ ap (λ k. placed_by ss (n + 1) xs ++ placed_by ss k ys) same)

place_by-push : (p : Place) (ss : List Segment) (s : Segment) (i : ℕ)
    → place_by p (ss ++ s ∷ []) i ≡ (if nat_le s.offset i then moved s i else place_by p ss i)
place_by-push p [] s i = refl
place_by-push p (t ∷ ss) s i = place_by-push (if nat_le t.offset i then moved t i else p) ss s i

-- a segment that begins behind these characters changes no place of theirs
before : (ss : List Segment) (s : Segment) (n : ℕ) (cs : List ℕ) → n + length cs ≤ s.offset → placed_by (ss ++ s ∷ []) n cs ≡ placed_by ss n cs
before ss s n [] within = refl
before ss s n (c ∷ cs) within =
    let later : n < s.offset = omega arith in
    let not_here : nat_le s.offset n ≡ false = grind (arith, nat_tests) in
    ap (λ (place : Place). record { code = c; place = place } ∷ placed_by (ss ++ s ∷ []) (n + 1) cs)
    (place_by-push nowhere ss s n ∙ ap (λ (b : Bool). if b then moved s n else place_by nowhere ss n) not_here)
    ∙ ap (λ (ps : List Placed). record { code = c; place = place_by nowhere ss n } ∷ ps) (before ss s (n + 1) cs (omega arith))

-- those behind stand where it says
behind : (ss : List Segment) (s : Segment) (n column : ℕ) (cs : List ℕ) → s.offset ≤ n → column ≡ s.place.column + (n - s.offset)
    → column + length cs ≤ 2 ^ 64 → placed_by (ss ++ s ∷ []) n cs ≡ placed_on s.place.card column cs
behind ss s n column [] from is fits = refl
behind ss s n column (c ∷ cs) from is fits =
    let here : nat_le s.offset n ≡ true = grind (arith, nat_tests) in
    let whole : min (s.place.column + (n - s.offset)) (2 ^ 64 - 1) ≡ column = omega arith in
    ap (λ (place : Place). record { code = c; place = place } ∷ placed_by (ss ++ s ∷ []) (n + 1) cs)
    (place_by-push nowhere ss s n ∙ ap (λ (b : Bool). if b then moved s n else place_by nowhere ss n) here
    ∙ ap (λ (k : ℕ). record { card = s.place.card; column = k }) whole)
    ∙ ap (λ (ps : List Placed). record { code = c; place = record { card = s.place.card; column = column } } ∷ ps)
    (behind ss s (n + 1) (column + 1) cs (omega arith) (omega arith) (omega arith))

pub appended : (ss : List Segment) (cs text : List ℕ) (card column offset : ℕ) → offset ≡ length cs → column + length text ≤ 2 ^ 64
    → placed_by (ss ++ (record { offset = offset; place = record { card = card; column = column } }) ∷ []) 0 (cs ++ text)
    ≡ placed_by ss 0 cs ++ placed_on card column text
appended ss cs text card column offset is fits =
    let s : Segment = record { offset = offset; place = record { card = card; column = column } } in
    placed_by-append (ss ++ s ∷ []) 0 cs text
    ∙ ap (λ (ps : List Placed). ps ++ placed_by (ss ++ s ∷ []) (0 + length cs) text) (before ss s 0 cs (omega arith))
    ∙ ap (λ (ps : List Placed). placed_by ss 0 cs ++ ps) (behind ss s (0 + length cs) column text (omega arith) (omega arith) fits)

-- SEGMENTS ASCEND

both : (a b : Bool) → (a && b) ≡ true → (a ≡ true) × (b ≡ true)
both true b h = (refl, h)
both false b h = cc

of_both : (a b : Bool) → a ≡ true → b ≡ true → (a && b) ≡ true
of_both a b x y = rw (x, y) refl

le_true : (a b : ℕ) → a ≤ b → nat_le a b ≡ true
le_true a b h = grind (arith, nat_tests)

le_false : (a b : ℕ) → b < a → nat_le a b ≡ false
le_false a b h = grind (arith, nat_tests)

true_le : (a b : ℕ) → nat_le a b ≡ true → a ≤ b
true_le a b h = grind (arith, nat_tests)

pub ascend-push : (from most more : ℕ) (ss : List Segment) (s : Segment) → ascend from ss most ≡ true → s.offset ≡ most → most ≤ more
    → ascend from (ss ++ s ∷ []) more ≡ true
ascend-push from most more [] s h is within =
    let first : from ≤ most = true_le from most h in
    of_both (nat_le from s.offset) (nat_le s.offset more) (le_true from s.offset (omega arith)) (le_true s.offset more (omega arith))
ascend-push from most more (t ∷ ss) s h is within =
    let parts = both (nat_le from t.offset) (ascend t.offset ss most) h in
    of_both (nat_le from t.offset) (ascend t.offset (ss ++ s ∷ []) more) parts.0 (ascend-push t.offset most more ss s parts.1 is within)

-- HALVING

place_by-append : (p : Place) (ss ts : List Segment) (i : ℕ) → place_by p (ss ++ ts) i ≡ place_by (place_by p ss i) ts i
place_by-append p [] ts i = refl
place_by-append p (s ∷ ss) ts i = place_by-append (if nat_le s.offset i then moved s i else p) ss ts i

-- where the first of the later ones begins at the offset or before it, these alone count
pub later_half : (p : Place) (ss ts : List Segment) (t : Segment) (i : ℕ) → t.offset ≤ i → place_by p (ss ++ t ∷ ts) i ≡ place_by p (t ∷ ts) i
later_half p ss ts t i from =
    let here : nat_le t.offset i ≡ true = le_true t.offset i from in
    place_by-append p ss (t ∷ ts) i
    ∙ ap (λ (b : Bool). place_by (if b then moved t i else place_by p ss i) ts i) here
    ∙ sym (ap (λ (b : Bool). place_by (if b then moved t i else p) ts i) here)

none_of : (p : Place) (from most i : ℕ) (ts : List Segment) → i < from → ascend from ts most ≡ true → place_by p ts i ≡ p
none_of p from most i [] h up = refl
none_of p from most i (t ∷ ts) h up =
    let parts = both (nat_le from t.offset) (ascend t.offset ts most) up in
    let first : from ≤ t.offset = true_le from t.offset parts.0 in
    let not_here : nat_le t.offset i ≡ false = le_false t.offset i (omega arith) in
    ap (λ (b : Bool). place_by (if b then moved t i else p) ts i) not_here ∙ none_of p t.offset most i ts (omega arith) parts.1

-- where it begins behind the offset, none of the later ones count
pub earlier_half : (p : Place) (ss ts : List Segment) (t : Segment) (i from most : ℕ) → i < t.offset → ascend from (t ∷ ts) most ≡ true
    → place_by p (ss ++ t ∷ ts) i ≡ place_by p ss i
earlier_half p ss ts t i from most later up =
    let parts = both (nat_le from t.offset) (ascend t.offset ts most) up in
    let not_here : nat_le t.offset i ≡ false = le_false t.offset i later in
    place_by-append p ss (t ∷ ts) i
    ∙ ap (λ (b : Bool). place_by (if b then moved t i else place_by p ss i) ts i) not_here
    ∙ none_of (place_by p ss i) t.offset most i ts later parts.1

pub ascend-first : (from most : ℕ) (ss ts : List Segment) → ascend from (ss ++ ts) most ≡ true → (upto : ℕ) × (ascend from ss upto ≡ true)
ascend-first from most [] ts up = (from, le_true from from (omega arith))
ascend-first from most (s ∷ ss) ts up =
    let parts = both (nat_le from s.offset) (ascend s.offset (ss ++ ts) most) up in
    let rest = ascend-first s.offset most ss ts parts.1 in
    (rest.0, of_both (nat_le from s.offset) (ascend s.offset ss rest.0) parts.0 rest.1)

pub ascend-last : (from most : ℕ) (ss ts : List Segment) → ascend from (ss ++ ts) most ≡ true → (at : ℕ) × (ascend at ts most ≡ true)
ascend-last from most [] ts up = (from, up)
ascend-last from most (s ∷ ss) ts up =
    let parts = both (nat_le from s.offset) (ascend s.offset (ss ++ ts) most) up in
    ascend-last s.offset most ss ts parts.1

-- of two halves, the later one counts where it begins at the offset or before it
pub by_later_half : (p : Place) (rest front back : List Segment) (i : ℕ) (d : Segment) → front ++ back ≡ rest → 0 < length back
    → (get_or back 0 d).offset ≤ i → place_by p back i ≡ place_by p rest i
by_later_half p rest front [] i d is some from = absurd (omega arith)
by_later_half p rest front (t ∷ ts) i d is some from = sym (later_half p front ts t i from) ∙ ap (λ (ss : List Segment). place_by p ss i) is

-- else the earlier one
pub by_earlier_half : (p : Place) (rest front back : List Segment) (i : ℕ) (d : Segment) → front ++ back ≡ rest → 0 < length back
    → i < (get_or back 0 d).offset → AreAscending rest → place_by p front i ≡ place_by p rest i
by_earlier_half p rest front [] i d is some later up = absurd (omega arith)
by_earlier_half p rest front (t ∷ ts) i d is some later up =
    let P : List Segment → Type 0 = λ ss. ascend up.0 ss up.1 ≡ true in
    let last = ascend-last up.0 up.1 front (t ∷ ts) (subst P (sym is) up.2) in
    sym (earlier_half p front ts t i last.0 up.1 later last.1) ∙ ap (λ (ss : List Segment). place_by p ss i) is

pub later_ascends : (rest front back : List Segment) → front ++ back ≡ rest → AreAscending rest → AreAscending back
later_ascends rest front back is up =
    let P : List Segment → Type 0 = λ ss. ascend up.0 ss up.1 ≡ true in
    let last = ascend-last up.0 up.1 front back (subst P (sym is) up.2) in
    (last.0, up.1, last.1)

pub earlier_ascends : (rest front back : List Segment) → front ++ back ≡ rest → AreAscending rest → AreAscending front
earlier_ascends rest front back is up =
    let P : List Segment → Type 0 = λ ss. ascend up.0 ss up.1 ≡ true in
    let first = ascend-first up.0 up.1 front back (subst P (sym is) up.2) in
    (up.0, first.0, first.1)

-- A PIECE IS APPENDED

pub appended_ok : {E : Type 0} (r : Result (Unit {0}) E) (ss new_ss : List Segment) (cs new_cs text : List ℕ) (now : List Placed) (card column offset : ℕ)
    → placed_by ss 0 cs ≡ now → new_ss ≡ ss ++ (record { offset = offset; place = record { card = card; column = column } }) ∷ []
    → new_cs ≡ (if is_ok r then cs ++ text else cs) → offset ≡ length cs → column + length text < 2 ^ 64
    → OnOk r (placed_by new_ss 0 new_cs ≡ now ++ placed_on card column text)
appended_ok (Err e) ss new_ss cs new_cs text now card column offset view segments grown is fits = tt
appended_ok (Ok u) ss new_ss cs new_cs text now card column offset view segments grown is fits =
    ap (λ (l : List Segment). placed_by l 0 new_cs) segments
    ∙ ap (placed_by (ss ++ (record { offset = offset; place = record { card = card; column = column } }) ∷ []) 0) grown
    ∙ appended ss cs text card column offset is (omega arith)
    ∙ ap (λ (l : List Placed). l ++ placed_on card column text) view

pub still_ascends : {E : Type 0} (r : Result (Unit {0}) E) (ss new_ss : List Segment) (cs new_cs text : List ℕ) (s : Segment)
    → ascend 0 ss (length cs) ≡ true → new_ss ≡ ss ++ s ∷ [] → new_cs ≡ (if is_ok r then cs ++ text else cs) → s.offset ≡ length cs
    → ascend 0 new_ss (length new_cs) ≡ true
still_ascends (Err e) ss new_ss cs new_cs text s up segments grown is =
    ap (λ (l : List Segment). ascend 0 l (length new_cs)) segments
    ∙ ap (λ (l : List ℕ). ascend 0 (ss ++ s ∷ []) (length l)) grown
    ∙ ascend-push 0 (length cs) (length cs) ss s up is (omega arith)
still_ascends (Ok u) ss new_ss cs new_cs text s up segments grown is =
    ap (λ (l : List Segment). ascend 0 l (length new_cs)) segments
    ∙ ap (λ (l : List ℕ). ascend 0 (ss ++ s ∷ []) (length l)) grown
    ∙ ascend-push 0 (length cs) (length (cs ++ text)) ss s up is (simp length-append (omega arith))
