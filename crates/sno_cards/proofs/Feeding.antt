-- A card is fed to the line that is being cut, character by character.
use Rattle.std.proofs.Common.{◌≡◌, ◌==◌, ◌||◌, ℕ, ◌+◌, ◌-◌, ◌<◌, ◌≤◌, Bool, true, false, cond, List, [], ◌∷◌, ◌++◌, length, length-drop, take, drop, get_or, Option, Some, None, refl, sym, ap, ◌∙◌, append_assoc, append-nil, arith}
use Rattle.std.{specs.List.{slice_range, list_any}, proofs.lemmas.List.{drop_more, take_more, get_or-drop, length-take-le}}
use Rattle.mon_text.specs.Characters.{is_quote}
use Rattle.sno_cards.specs.{Texts.{Placed}, Statements.{ends_statement, literal_after, placed_on}, inner.Cuts.{Cut, ended, step, fed}}

abbrev at : ℕ → ℕ → ℕ → Placed
at card column code = record { code = code; place = record { card = card; column = column } }

placed_on-push : (card column : ℕ) (cs : List ℕ) (c : ℕ) → placed_on card column (cs ++ c ∷ []) ≡ placed_on card column cs ++ at card (column + length cs) c ∷ []
placed_on-push card column [] c = let same : column ≡ column + 0 = omega arith in ap (λ k. at card k c ∷ []) same
placed_on-push card column (x ∷ cs) c =
    let same : column + 1 + length cs ≡ column + length (x ∷ cs) = omega arith in
    ap (λ ps. at card column x ∷ ps) (placed_on-push card (column + 1) cs c ∙ ap (λ k. placed_on card (column + 1) cs ++ at card k c ∷ []) same)

range_more : (text : List ℕ) (from i d : ℕ) → from ≤ i → i < length text → slice_range text from (i + 1) ≡ slice_range text from i ++ get_or text i d ∷ []
range_more text from i d within below =
    let one_more : (i + 1) - from ≡ (i - from) + 1 = omega arith in
    let there : from + (i - from) ≡ i = omega arith in
    let inside : i - from < length (drop from text) = simp length-drop (omega arith) in
    ap (λ (n : ℕ). take n (drop from text)) one_more ∙ take_more (drop from text) (i - from) d inside
    ∙ ap (λ (c : ℕ). take (i - from) (drop from text) ++ c ∷ []) (get_or-drop from text (i - from) d ∙ ap (λ (n : ℕ). get_or text n d) there)

length-range : (text : List ℕ) (from i : ℕ) → from ≤ i → i < length text → length (slice_range text from i) ≡ i - from
length-range text from i within below =
    let inside : i - from ≤ length (drop from text) = simp length-drop (omega arith) in
    length-take-le (i - from) (drop from text) inside

nothing_between : (text : List ℕ) (i : ℕ) → slice_range text i i ≡ []
nothing_between text i = let none : i - i ≡ 0 = omega arith in ap (λ (n : ℕ). take n (drop i text)) none

-- one character more of the piece
placed_more : (card column : ℕ) (text : List ℕ) (from i d : ℕ) → from ≤ i → i < length text
    → placed_on card (column + from) (slice_range text from (i + 1)) ≡ placed_on card (column + from) (slice_range text from i) ++ at card (column + i) (get_or text i d) ∷ []
placed_more card column text from i d within below =
    let long = length-range text from i within below in
    let same : column + from + length (slice_range text from i) ≡ column + i = omega arith in
    ap (placed_on card (column + from)) (range_more text from i d within below)
    ∙ placed_on-push card (column + from) (slice_range text from i) (get_or text i d)
    ∙ ap (λ k. placed_on card (column + from) (slice_range text from i) ++ at card k (get_or text i d) ∷ []) same

-- what is left to feed begins with the character at the index
fed_more : (card column : ℕ) (text : List ℕ) (i d : ℕ) (c : Cut) → i < length text
    → fed c (placed_on card (column + i) (drop i text)) ≡ fed (step c (at card (column + i) (get_or text i d))) (placed_on card (column + (i + 1)) (drop (i + 1) text))
fed_more card column text i d c below =
    let same : column + i + 1 ≡ column + (i + 1) = omega arith in
    ap (λ cs. fed c (placed_on card (column + i) cs)) (drop_more text i d below)
    ∙ ap (λ k. fed (step c (at card (column + i) (get_or text i d))) (placed_on card k (drop (i + 1) text))) same

-- a `;` outside literals: the piece is whole
pub piece_ends : (card column : ℕ) (text : List ℕ) (from i d : ℕ) (c next : Cut) (literal : Option ℕ) → i < length text
    → ends_statement c.literal (get_or text i d) ≡ true → next ≡ record c { statements = ended c; piece = [] } → from ≡ i + 1
    → literal ≡ literal_after next.literal (get_or text i d)
    → fed c (placed_on card (column + i) (drop i text))
    ≡ fed (record { statements = next.statements; piece = next.piece ++ placed_on card (column + from) (slice_range text from (i + 1)); literal = literal })
    (placed_on card (column + (i + 1)) (drop (i + 1) text))
piece_ends card column text from i d c next literal below ends is begins quote =
    let nothing : slice_range text from (i + 1) ≡ [] = ap (λ k. slice_range text k (i + 1)) begins ∙ nothing_between text (i + 1) in
    let stepped : step c (at card (column + i) (get_or text i d)) ≡ record { statements = ended c; piece = []; literal = literal_after c.literal (get_or text i d) } = rw ends refl in
    let same : record { statements = next.statements; piece = next.piece ++ placed_on card (column + from) (slice_range text from (i + 1)); literal = literal }
    ≡ step c (at card (column + i) (get_or text i d)) =
    ap (λ l. record { statements = next.statements; piece = next.piece ++ placed_on card (column + from) (slice_range text from (i + 1)); literal = l }) quote
    ∙ ap (λ cs. record { statements = next.statements; piece = next.piece ++ placed_on card (column + from) cs; literal = literal_after next.literal (get_or text i d) }) nothing
    ∙ ap (λ ps. record { statements = next.statements; piece = ps; literal = literal_after next.literal (get_or text i d) }) (append-nil next.piece)
    ∙ ap (λ n. record { statements = n.statements; piece = n.piece; literal = literal_after n.literal (get_or text i d) }) is
    ∙ sym stepped in
    fed_more card column text i d c below ∙ ap (λ n. fed n (placed_on card (column + (i + 1)) (drop (i + 1) text))) (sym same)

-- any other character belongs to it
pub piece_goes_on : (card column : ℕ) (text : List ℕ) (from i d : ℕ) (c next : Cut) (literal : Option ℕ) → from ≤ i → i < length text
    → ends_statement c.literal (get_or text i d) ≡ false → next ≡ c → literal ≡ literal_after next.literal (get_or text i d)
    → fed (record c { piece = c.piece ++ placed_on card (column + from) (slice_range text from i) }) (placed_on card (column + i) (drop i text))
    ≡ fed (record { statements = next.statements; piece = next.piece ++ placed_on card (column + from) (slice_range text from (i + 1)); literal = literal })
    (placed_on card (column + (i + 1)) (drop (i + 1) text))
piece_goes_on card column text from i d c next literal within below goes is quote =
    let so_far : Cut = record c { piece = c.piece ++ placed_on card (column + from) (slice_range text from i) } in
    let p : Placed = at card (column + i) (get_or text i d) in
    let stepped : step so_far p ≡ record { statements = c.statements; piece = so_far.piece ++ p ∷ []; literal = literal_after c.literal (get_or text i d) } = rw goes refl in
    let longer : c.piece ++ placed_on card (column + from) (slice_range text from (i + 1)) ≡ so_far.piece ++ p ∷ [] =
    ap (λ ps. c.piece ++ ps) (placed_more card column text from i d within below)
    ∙ sym (append_assoc c.piece (placed_on card (column + from) (slice_range text from i)) (p ∷ [])) in
    let same : record { statements = next.statements; piece = next.piece ++ placed_on card (column + from) (slice_range text from (i + 1)); literal = literal } ≡ step so_far p =
    ap (λ l. record { statements = next.statements; piece = next.piece ++ placed_on card (column + from) (slice_range text from (i + 1)); literal = l }) quote
    ∙ ap (λ n. record { statements = n.statements; piece = n.piece ++ placed_on card (column + from) (slice_range text from (i + 1)); literal = literal_after n.literal (get_or text i d) }) is
    ∙ ap (λ ps. record { statements = c.statements; piece = ps; literal = literal_after c.literal (get_or text i d) }) longer
    ∙ sym stepped in
    fed_more card column text i d so_far below ∙ ap (λ n. fed n (placed_on card (column + (i + 1)) (drop (i + 1) text))) (sym same)

-- CHARACTERS THAT BEGIN NO LITERAL AND END NO STATEMENT

unmarked : (card column : ℕ) (text : List ℕ) (statements : List (List Placed)) (piece : List Placed) → list_any (λ c. is_quote c || c == 59) text ≡ false
    → fed (record { statements = statements; piece = piece; literal = None }) (placed_on card column text)
    ≡ record { statements = statements; piece = piece ++ placed_on card column text; literal = None }
unmarked card column [] statements piece none = ap (λ (ps : List Placed). record { statements = statements; piece = ps; literal = None }) (sym (append-nil piece))
unmarked card column (c ∷ cs) statements piece none =
    by (is_quote c) (c == 59) none (unmarked card (column + 1) cs statements (piece ++ at card column c ∷ []))
  where
    rest : List Placed
    rest = placed_on card (column + 1) cs

    whole : Cut
    whole = record { statements = statements; piece = piece; literal = None }

    by : (q s : Bool) → ((q || s) || list_any (λ c. is_quote c || c == 59) cs) ≡ false
        → (list_any (λ c. is_quote c || c == 59) cs ≡ false → fed (record { statements = statements; piece = piece ++ at card column c ∷ []; literal = None }) rest
        ≡ record { statements = statements; piece = (piece ++ at card column c ∷ []) ++ rest; literal = None })
        → fed (cond s (record { statements = ended whole; piece = []; literal = cond q (Some c) None })
        (record { statements = statements; piece = piece ++ at card column c ∷ []; literal = cond q (Some c) None })) rest
        ≡ record { statements = statements; piece = piece ++ at card column c ∷ rest; literal = None }
    by true s h go = cc
    by false true h go = cc
    by false false h go = go h ∙ ap (λ (ps : List Placed). record { statements = statements; piece = ps; literal = None }) (append_assoc piece (at card column c ∷ []) rest)

-- they go to the piece at once
pub unmarked_fed : (card column : ℕ) (text : List ℕ) (c : Cut) → c.literal ≡ None → list_any (λ c. is_quote c || c == 59) text ≡ false
    → fed c (placed_on card column text) ≡ record { statements = c.statements; piece = c.piece ++ placed_on card column text; literal = c.literal }
unmarked_fed card column text c none clean =
    ap (λ (l : Option ℕ). fed (record { statements = c.statements; piece = c.piece; literal = l }) (placed_on card column text)) none
    ∙ unmarked card column text c.statements c.piece clean
    ∙ ap (λ (l : Option ℕ). record { statements = c.statements; piece = c.piece ++ placed_on card column text; literal = l }) (sym none)
