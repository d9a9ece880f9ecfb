-- Lines that are tested by blocks.
use Rattle.std.proofs.Common.{◌≡◌, ◌∙◌, ap, sym, ℕ, ◌+◌, ◌-◌, refl, ◌≤◌, Bool, true, false, true≢false, ◌&&◌, List, length, take, drop, arith}
use Rattle.std.{specs.List.{list_all, slice_range}, proofs.lemmas.List.{length-drop, take_all, take-append-drop}, proofs.lemmas.List.Folds.{list_all-append}}
use lib.Seq.{take-add}
use Rattle.mon_text.specs.Characters.{is_printable}

-- both parts of a line
in_two : (n : ℕ) (line : List ℕ) → list_all is_printable line ≡ (list_all is_printable (take n line) && list_all is_printable (drop n line))
in_two n line = ap (list_all is_printable) (sym (take-append-drop n line)) ∙ list_all-append is_printable (take n line) (drop n line)

holds_so_far : (a b : Bool) → (a && b) ≡ true → a ≡ true
holds_so_far true b h = refl
holds_so_far false b h = h

two_hold : (a b : Bool) → a ≡ true → b ≡ true → (a && b) ≡ true
two_hold true b h i = i
two_hold false b h i = h

three_fail : (a b c : Bool) → b ≡ false → (a && (b && c)) ≡ false
three_fail false b c h = refl
three_fail true false c h = refl
three_fail true true c h = absurd (true≢false h)

-- where a longer beginning holds, a shorter one does
shorter : (m n : ℕ) (line : List ℕ) → m ≤ n → list_all is_printable (take n line) ≡ true → list_all is_printable (take m line) ≡ true
shorter m n line within holds =
    let more : n ≡ m + (n - m) = omega (arith, within) in
    let split : list_all is_printable (take n line) ≡ (list_all is_printable (take m line) && list_all is_printable (take (n - m) (drop m line))) =
    ap (λ (k : ℕ). list_all is_printable (take k line)) more ∙ ap (list_all is_printable) (take-add m (n - m) line) ∙ list_all-append is_printable (take m line) (take (n - m) (drop m line)) in
    holds_so_far _ _ (sym split ∙ holds)

-- the last block tells of the whole line
pub last_tells : (n from : ℕ) (line : List ℕ) (told : Bool) → n ≤ from → list_all is_printable (take from line) ≡ true → told ≡ list_all is_printable (slice_range line n (length line))
    → told ≡ list_all is_printable line
last_tells n from line told within holds tells =
    tells ∙ ap (list_all is_printable) (take_all (length line - n) (drop n line) (omega (arith, length-drop n line)))
    ∙ sym (in_two n line ∙ ap (λ (b : Bool). b && list_all is_printable (drop n line)) (shorter n from line within holds))

-- one block more holds
pub one_more : (from : ℕ) (line : List ℕ) → list_all is_printable (take from line) ≡ true → list_all is_printable (slice_range line from (from + 32)) ≡ true
    → list_all is_printable (take (from + 32) line) ≡ true
one_more from line so_far holds =
    let long : from + 32 - from ≡ 32 = omega arith in
    let block : list_all is_printable (take 32 (drop from line)) ≡ true = ap (λ (k : ℕ). list_all is_printable (take k (drop from line))) (sym long) ∙ holds in
    ap (list_all is_printable) (take-add from 32 line) ∙ list_all-append is_printable (take from line) (take 32 (drop from line)) ∙ two_hold _ _ so_far block

-- a block that fails tells of the whole line
pub one_fails : (from : ℕ) (line : List ℕ) → list_all is_printable (slice_range line from (from + 32)) ≡ false → list_all is_printable line ≡ false
one_fails from line fails =
    let long : from + 32 - from ≡ 32 = omega arith in
    let block : list_all is_printable (take 32 (drop from line)) ≡ false = ap (λ (k : ℕ). list_all is_printable (take k (drop from line))) (sym long) ∙ fails in
    in_two from line ∙ ap (λ (b : Bool). list_all is_printable (take from line) && b) (in_two 32 (drop from line)) ∙ three_fail _ _ _ block
