-- A line that is put together in a room, piece behind piece.
use Rattle.std.proofs.Common.{◌≡◌, ◌∙◌, ap, ap₂, sym, ℕ, ◌+◌, ◌-◌, ◌≤◌, List, ◌++◌, length, take, drop, append_assoc, arith, length-append, length-drop, length-take-le, take-append-drop, take-take, take-add, drop-drop, take_all}
use Rattle.std.proofs.Math.Seq.{take-append-add}

-- what stands before bytes that are put is as long as it says
begun : (at count : ℕ) (old mid bytes : List ℕ) → at + count ≤ length mid → count ≤ length bytes → take (at + count) mid ≡ take at old ++ take count bytes → length (take at old) ≡ at
begun at count old mid bytes room enough put =
    let whole : length (take (at + count) mid) ≡ at + count = length-take-le (at + count) mid room in
    let piece : length (take count bytes) ≡ count = length-take-le count bytes enough in
    omega (arith, ap length put, length-append (take at old) (take count bytes), whole, piece)

-- some of the bytes that are put
past : (at rest count : ℕ) (old mid bytes : List ℕ) → length (take at old) ≡ at → rest ≤ count → take (at + count) mid ≡ take at old ++ take count bytes →
    take (at + rest) mid ≡ take at old ++ take rest bytes
past at rest count old mid bytes before less put =
    sym (take-take (at + rest) (at + count) mid (omega (arith, less)))
    ∙ ap (take (at + rest)) put
    ∙ ap (λ (n : ℕ). take (n + rest) (take at old ++ take count bytes)) (sym before)
    ∙ take-append-add (take at old) (take count bytes) rest
    ∙ ap (λ (v : List ℕ). take at old ++ v) (take-take rest count bytes less)

-- bytes are put by so many of their first ones and of their last ones
pub by_ends : (at rest count far : ℕ) (old mid new bytes : List ℕ) → at + count ≤ length mid → count ≤ length bytes → length bytes ≤ count + count → rest ≡ length bytes - count → far ≡ at + rest →
    take (at + count) mid ≡ take at old ++ take count bytes → take (far + count) new ≡ take far mid ++ take count (drop rest bytes) → take (at + length bytes) new ≡ take at old ++ bytes
by_ends at rest count far old mid new bytes room enough few is there first last =
    let whole : far + count ≡ at + length bytes = omega (arith, enough, is, there) in
    let ends : take count (drop rest bytes) ≡ drop rest bytes = take_all count (drop rest bytes) (omega (arith, length-drop rest bytes, enough, is)) in
    ap (λ (n : ℕ). take n new) (sym whole)
    ∙ last
    ∙ ap₂ (λ (v w : List ℕ). v ++ w) (ap (λ (n : ℕ). take n mid) there ∙ past at rest count old mid bytes (begun at count old mid bytes room enough first) (omega (arith, few, is)) first) ends
    ∙ append_assoc (take at old) (take rest bytes) (drop rest bytes)
    ∙ ap (λ (v : List ℕ). take at old ++ v) (take-append-drop rest bytes)

-- two pieces are put, one behind the other
pub one_behind : (end far : ℕ) (old mid new first last : List ℕ) → take end mid ≡ old ++ first → take far new ≡ take end mid ++ last → take far new ≡ old ++ (first ++ last)
one_behind end far old mid new first last one two = two ∙ ap (λ (v : List ℕ). v ++ last) one ∙ append_assoc old first last

-- four of the bytes, and the four behind them
pub eight_are : (from : ℕ) (bytes first last : List ℕ) → first ≡ take 4 (drop from bytes) → last ≡ take 4 (drop (from + 4) bytes) → first ++ last ≡ take 8 (drop from bytes)
eight_are from bytes first last one two =
    ap₂ (λ (v w : List ℕ). v ++ w) one (two ∙ ap (take 4) (sym (drop-drop 4 from bytes))) ∙ sym (take-add 4 4 (drop from bytes))

-- the first ones of a line are appended: so many, and then some of them are let go
pub cut_to : (count usual before : ℕ) (old room had : List ℕ) → count ≤ usual → before ≡ length old → had ≡ old ++ take usual room → take (before + count) had ≡ old ++ take count room
cut_to count usual before old room had few is appended =
    ap₂ (λ (n : ℕ) (v : List ℕ). take (n + count) v) is appended ∙ take-append-add old (take usual room) count ∙ ap (λ (v : List ℕ). old ++ v) (take-take count usual room few)
