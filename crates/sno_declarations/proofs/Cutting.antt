-- Texts cut into records.
use Rattle.std.proofs.Common.{◌≡◌, ℕ, zero, suc, ◌-◌, ◌≤◌, Bool, true, false, List, [], ◌∷◌, length, map, take, drop, refl, sym, ap, ◌∙◌, arith, nat_le}
use Rattle.std.specs.{Prelude.{if◌then◌else◌, All}, List.{onto_first}}
use Rattle.std.proofs.lemmas.{Bool.Decides.{nat_tests}, List.Elements.{All-nil, All-cons, All-head, All-tail}}
use Rattle.sno_declarations.specs.{Formats.{RecordFormat, most_characters, pieces, laid_out}, Laws.{RecordsFollow, RecordsFit}}

-- ONE PIECE AFTER ANOTHER

nat_le-suc : (a b : ℕ) → nat_le (suc a) (suc b) ≡ nat_le a b
nat_le-suc a b = by (nat_le a b) refl
  where
    by : (c : Bool) → nat_le a b ≡ c → nat_le (suc a) (suc b) ≡ c
    by true h = grind (arith, nat_tests)
    by false h = grind (arith, nat_tests)

cut : (m left : ℕ) (text : List ℕ) → pieces (suc m) left text ≡ take left text ∷ (if nat_le (length text) left then [] else pieces (suc m) (suc m) (drop left text))
cut m zero [] = refl
cut m (suc left) [] =
    let none : nat_le 0 (suc left) ≡ true = grind (arith, nat_tests) in
    sym (ap (λ (b : Bool). [] ∷ (if b then [] else ([] ∷ []))) none)
cut m zero (c ∷ cs) =
    let one : suc m - 1 ≡ m = omega arith in
    let no : nat_le (suc (length cs)) 0 ≡ false = grind (arith, nat_tests) in
    ap (λ k. [] ∷ onto_first c (pieces (suc m) k cs)) one ∙ sym (ap (λ (b : Bool). [] ∷ (if b then [] else pieces (suc m) (suc m) (c ∷ cs))) no)
cut m (suc left) (c ∷ cs) =
    let below : nat_le (suc (length cs)) (suc left) ≡ nat_le (length cs) left = nat_le-suc (length cs) left in
    ap (onto_first c) (cut m left cs) ∙ sym (ap (λ (b : Bool). take (suc left) (c ∷ cs) ∷ (if b then [] else pieces (suc m) (suc m) (drop left cs))) below)

cut_at : (n : ℕ) (text : List ℕ) → 1 ≤ n → pieces n n text ≡ take n text ∷ (if nat_le (length text) n then [] else pieces n n (drop n text))
cut_at zero text h = absurd (omega arith)
cut_at (suc m) text h = cut m (suc m) text

map_rest : (format : RecordFormat) (b : Bool) (ps : List (List ℕ)) → map (laid_out format) (if b then [] else ps) ≡ (if b then [] else map (laid_out format) ps)
map_rest format true ps = refl
map_rest format false ps = refl

pub records_follow : RecordsFollow
records_follow = λ format text is.
    let n = format.characters in
    ap (map (laid_out format)) (cut_at n text is.0)
    ∙ ap (λ others. laid_out format (take n text) ∷ others) (map_rest format (nat_le (length text) n) (pieces n n (drop n text)))

-- THEIR LENGTHS

-- the first has at most so many characters, and all have at most n
abbrev Fits : ℕ → ℕ → List (List ℕ) → Type 0
Fits n left [] = Unit {0}
Fits n left (p ∷ ps) = (length p ≤ left) × All (λ q. length q ≤ n) ps

onto_fits : (n left c : ℕ) (ps : List (List ℕ)) → Fits n left ps → Fits n (suc left) (onto_first c ps)
onto_fits n left c [] h = (omega arith, All-nil (λ q. length q ≤ n))
onto_fits n left c (p ∷ ps) h = (omega (arith, h.0), h.1)

all_fit : (n left : ℕ) (ps : List (List ℕ)) → left ≤ n → Fits n left ps → All (λ q. length q ≤ n) ps
all_fit n left [] within h = All-nil (λ q. length q ≤ n)
all_fit n left (p ∷ ps) within h = All-cons (λ q. length q ≤ n) p ps (omega (arith, h.0, within)) h.1

fit : (m left : ℕ) (text : List ℕ) → Fits (suc m) left (pieces (suc m) left text)
fit m zero [] = (omega arith, All-nil (λ q. length q ≤ suc m))
fit m (suc left) [] = (omega arith, All-nil (λ q. length q ≤ suc m))
fit m zero (c ∷ cs) =
    let one : suc m - 1 ≡ m = omega arith in
    let onto : Fits (suc m) (suc m) (onto_first c (pieces (suc m) m cs)) = onto_fits (suc m) m c (pieces (suc m) m cs) (fit m m cs) in
    let all : All (λ q. length q ≤ suc m) (onto_first c (pieces (suc m) (suc m - 1) cs)) = rw one (all_fit (suc m) (suc m) (onto_first c (pieces (suc m) m cs)) (omega arith) onto) in
    (omega arith, all)
fit m (suc left) (c ∷ cs) = onto_fits (suc m) left c (pieces (suc m) left cs) (fit m left cs)

fit_at : (n : ℕ) (text : List ℕ) → 1 ≤ n → All (λ q. length q ≤ n) (pieces n n text)
fit_at zero text h = absurd (omega arith)
fit_at (suc m) text h = all_fit (suc m) (suc m) (pieces (suc m) (suc m) text) (omega arith) (fit m (suc m) text)

short : (format : RecordFormat) (piece : List ℕ) → format.characters ≤ most_characters format.blank → length piece ≤ format.characters → length (laid_out format piece) ≤ 1024
short format piece fits h = by format.blank refl
  where
    by : (b : Bool) → format.blank ≡ b → length (laid_out format piece) ≤ 1024
    by true e =
        let most : most_characters format.blank ≡ 1023 = ap most_characters e in
        let long : length (laid_out format piece) ≡ suc (length piece) = ap (λ (b : Bool). length (if b then 32 ∷ piece else piece)) e in
        omega (arith, most, long, fits, h)
    by false e =
        let most : most_characters format.blank ≡ 1024 = ap most_characters e in
        let long : length (laid_out format piece) ≡ length piece = ap (λ (b : Bool). length (if b then 32 ∷ piece else piece)) e in
        omega (arith, most, long, fits, h)

all_short : (format : RecordFormat) (ps : List (List ℕ)) → format.characters ≤ most_characters format.blank → All (λ q. length q ≤ format.characters) ps
    → All (λ line. length line ≤ 1024) (map (laid_out format) ps)
all_short format [] fits h = All-nil (λ line. length line ≤ 1024)
all_short format (p ∷ ps) fits h =
    All-cons (λ line. length line ≤ 1024) (laid_out format p) (map (laid_out format) ps) (short format p fits (All-head (λ q. length q ≤ format.characters) p ps h))
    (all_short format ps fits (All-tail (λ q. length q ≤ format.characters) p ps h))

pub records_fit : RecordsFit
records_fit = λ format text is. all_short format (pieces format.characters format.characters text) is.1 (fit_at format.characters text is.0)
