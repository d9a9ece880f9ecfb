-- Lines that are gathered before they are put.
use Rattle.std.proofs.Common.{◌≡◌, ◌∙◌, ap, sym, ℕ, ◌+◌, ◌-◌, ◌<◌, ◌≤◌, List, [], ◌∷◌, ◌++◌, length, take, drop, get_or, append_assoc, append-nil, arith}
use Rattle.std.{specs.Prelude.{slice_set}, specs.List.{flat_map, slice_range}, proofs.Math.Seq.{take-append-add}, proofs.lemmas.List.Concat.{flat_map-append}}
use Rattle.std.proofs.lemmas.List.{length-append, length-drop, length-take-le, take_all, take_more, take_more_set, take-append-le, take-take}
use lib.Seq.{take-add}
use Rattle.mon_device.{specs.Putting.{Standing, Puts, PutsBut}, proofs.Putting.{puts_same, puts_then, puts_three}}

-- what is behind a text that was put so far is put
pub piece_put : (a b c : Standing) (bytes text : List ℕ) (from to : ℕ) → text ≡ bytes → from ≤ to → Puts a b (take from bytes) → Puts b c (slice_range text from to) → Puts a c (take to bytes)
piece_put a b c bytes text from to said onward so_far more =
    let far : to ≡ from + (to - from) = omega (arith, onward) in
    let piece : take from bytes ++ slice_range text from to ≡ take to bytes =
    ap (λ (bs : List ℕ). take from bytes ++ slice_range bs from to) said ∙ sym (take-add from (to - from) bytes) ∙ sym (ap (λ (n : ℕ). take n bytes) far) in
    puts_same a c (take from bytes ++ slice_range text from to) (take to bytes) piece (puts_then a b c (take from bytes) (slice_range text from to) so_far more)

-- what is gathered is put, and then a line in two pieces
pub line_put : (a b c d : Standing) (had before line : List ℕ) → Puts a b had → Puts b c before → Puts c d line → PutsBut a d [] (had ++ (before ++ line))
line_put a b c d had before line one two three =
    ((had ++ before) ++ line, puts_three a b c d had before line one two three, append-nil ((had ++ before) ++ line) ∙ append_assoc had before line)

-- of lines in a row one more is put, or gathered
pub line_gathered : (before : List ℕ) (lines : List (List ℕ)) (i : ℕ) (line had has : List ℕ) (a b c : Standing) → i < length lines → line ≡ get_or lines i [] ++ 10 ∷ []
    → PutsBut a b had (flat_map (λ l. before ++ l ++ 10 ∷ []) (take i lines)) → PutsBut b c has (had ++ (before ++ line))
    → PutsBut a c has (flat_map (λ l. before ++ l ++ 10 ∷ []) (take (i + 1) lines))
line_gathered before lines i line had has a b c inside is so_far one =
    let f = λ (l : List ℕ). before ++ l ++ 10 ∷ [] in
    let here = get_or lines i [] in
    let more : before ++ line ≡ f here = ap (λ (v : List ℕ). before ++ v) is ∙ sym (append_assoc before here (10 ∷ [])) in
    let longer : flat_map f (take (i + 1) lines) ≡ flat_map f (take i lines) ++ f here =
    ap (flat_map f) (take_more lines i [] inside) ∙ flat_map-append f (take i lines) (here ∷ []) ∙ ap (λ (v : List ℕ). flat_map f (take i lines) ++ v) (append-nil (f here)) in
    let all : (so_far.0 ++ one.0) ++ has ≡ flat_map f (take (i + 1) lines) =
    append_assoc so_far.0 one.0 has ∙ ap (λ (v : List ℕ). so_far.0 ++ v) one.2 ∙ sym (append_assoc so_far.0 had (before ++ line))
    ∙ ap (λ (v : List ℕ). v ++ (before ++ line)) so_far.2 ∙ ap (λ (v : List ℕ). flat_map f (take i lines) ++ v) more ∙ sym longer in
    (so_far.0 ++ one.0, puts_then a b c so_far.0 one.0 so_far.1 one.1, all)

-- and at the end what is gathered
pub all_gathered : (before : List ℕ) (lines : List (List ℕ)) (i : ℕ) (had : List ℕ) (a b c : Standing) → length lines ≤ i
    → PutsBut a b had (flat_map (λ l. before ++ l ++ 10 ∷ []) (take i lines)) → Puts b c had → Puts a c (flat_map (λ l. before ++ l ++ 10 ∷ []) lines)
all_gathered before lines i had a b c whole so_far last =
    let f = λ (l : List ℕ). before ++ l ++ 10 ∷ [] in
    puts_same a c (so_far.0 ++ had) (flat_map f lines) (so_far.2 ∙ ap (flat_map f) (take_all i lines whole)) (puts_then a b c so_far.0 had so_far.1 last)

-- a byte is set, and a block laid behind it: of the block so much as is wanted
pub block_laid : (room block place more rest : List ℕ) (at byte count : ℕ) → at < length room → count ≤ length block → place ≡ block ++ more
    → take (at + 1 + count) (take (at + 1) (slice_set room at byte) ++ (place ++ rest)) ≡ take at room ++ ((byte ∷ []) ++ take count block)
block_laid room block place more rest at byte count inside enough is =
    let had = take at room ++ byte ∷ [] in
    let long : length had ≡ at + 1 = length-append (take at room) (byte ∷ []) ∙ ap (λ (n : ℕ). n + 1) (length-take-le at room (omega (arith, inside))) in
    let laid : place ++ rest ≡ block ++ (more ++ rest) = ap (λ (v : List ℕ). v ++ rest) is ∙ append_assoc block more rest in
    ap (λ (v : List ℕ). take (at + 1 + count) (v ++ (place ++ rest))) (take_more_set room at byte inside) ∙ ap (λ (v : List ℕ). take (at + 1 + count) (had ++ v)) laid
    ∙ ap (λ (n : ℕ). take (n + count) (had ++ (block ++ (more ++ rest)))) (sym long)
    ∙ take-append-add had (block ++ (more ++ rest)) count ∙ ap (λ (v : List ℕ). had ++ v) (take-append-le count block (more ++ rest) enough) ∙ append_assoc (take at room) (byte ∷ []) (take count block)

-- of a block that something begins with so much as is wanted
pub block_begins : (had has block rest : List ℕ) (byte count : ℕ) → count ≤ 128 → block ≡ take 128 rest → has ≡ had ++ ((byte ∷ []) ++ take count block)
    → has ≡ had ++ ((byte ∷ []) ++ take count rest)
block_begins had has block rest byte count short same is =
    is ∙ ap (λ (v : List ℕ). had ++ ((byte ∷ []) ++ v)) (ap (take count) same ∙ take-take count 128 rest short)

-- a line stands at the begin of what there is from it on
pub line_begins : (text : List ℕ) (start end : ℕ) → end ≤ length text → take (end - start) (slice_range text start (length text)) ≡ slice_range text start end
line_begins text start end within = take-take (end - start) (length text - start) (drop start text) (omega (arith, within))

pub line_fits : (text : List ℕ) (start end : ℕ) → start ≤ end → end ≤ length text → end - start ≤ length (slice_range text start (length text))
line_fits text start end onward within =
    let left = length-drop start text in
    omega (arith, onward, within, left, length-take-le (length text - start) (drop start text) (omega (arith, left)))
