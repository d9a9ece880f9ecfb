-- Parts of a text, and where those end that have their parentheses in pairs, for BAL (own).
use Rattle.std.specs.Prelude.{ℕ, ◌+◌, ◌-◌, List, length, take, drop, Bool, ◌&&◌, nat_eq, nat_le}
use Rattle.std.specs.List.{range_with_len, filter, list_all}

-- the text between two cursors
abbrev pub part : List ℕ → ℕ → ℕ → List ℕ
part text from to = take (to - from) (drop from text)

-- how often a character stands in a text
abbrev pub times : ℕ → List ℕ → ℕ
times c text = length (filter (λ x. nat_eq x c) text)

-- parentheses are in pairs where there are as many `)` as `(`, and no beginning of the text has more `)` than `(`
abbrev pub in_pairs : List ℕ → Bool
in_pairs text = nat_eq (times 41 text) (times 40 text) && list_all (λ n. nat_le (times 41 (take n text)) (times 40 (take n text)))
    (range_with_len 0 (length text))

-- where a part that begins here, is not null and has its parentheses in pairs can end
abbrev pub balanced_ends : List ℕ → ℕ → List ℕ
balanced_ends text c = filter (λ e. in_pairs (part text c e)) (range_with_len (c + 1) (length text - c))
