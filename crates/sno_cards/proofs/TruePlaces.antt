-- Each character of a statement is the one that is read at its place.
use Rattle.std.proofs.Common.{◌≡◌, ℕ, ◌+◌, ◌-◌, ◌≤◌, Bool, true, false, ◌&&◌, ◌==◌, List, [], ◌∷◌, ◌++◌, length, drop, filter, Option, Some, None, Ok, slice_get, if◌then◌else◌, refl, sym, ap, ◌∙◌, subst, append_assoc, append-nil, length-append, take-append-drop, arith}
use Rattle.std.specs.{Option.{option_and_then}, List.{All, find, flat_map, onto_first, position_or_len, before_first}}
use Rattle.std.proofs.lemmas.{Bool.Decides.{nat_tests}, List.Elements.{All-nil, All-cons, All-head, All-tail, All-append, All-filter}, List.Folds.{find_at}}
use Rattle.sno_cards.specs.{declared.card.CardKind.TheVariants.{Start}, declared.refusal.SyntaxError.{SyntaxError}, Texts.{Placed}, Programs.{ProgramText}}
use Rattle.sno_cards.specs.{Cards.{kind_of, is_end_line, is_semicolon, ends_label, rest_of_end_line}, inner.Parts.{is_statement_card}}
use Rattle.sno_cards.{specs.Laws.{as_read, character_at, StandsThere, PlacesAreTrue}, proofs.Shorthand.{program_with, unless_refused}}
use Rattle.sno_cards.specs.Statements.{Card, numbered, placed_on, without_mark, is_continuation_card, continued, joined, literal_after, ends_statement, pieces, is_statement, statements_in, statements_on, end_index, first_refusal, program_ended_by}

-- ONE CARD

at_end_of : (front : List ℕ) (c : ℕ) (cs : List ℕ) → slice_get (front ++ c ∷ cs) (length front) ≡ Some c
at_end_of [] c cs = refl
at_end_of (x ∷ xs) c cs = at_end_of xs c cs

-- what is read at a place of a card whose text is known
read_at : (lines : List (List ℕ)) (n k : ℕ) (line text : List ℕ) → slice_get lines (n - 1) ≡ Some line → as_read line ≡ text
    → character_at lines (record { card = n; column = k }) ≡ slice_get text (k - 1)
read_at lines n k line text there read =
    ap (λ (found : Option (List ℕ)). option_and_then (λ l. slice_get (as_read l) (k - 1)) found) there
    ∙ ap (λ (cs : List ℕ). slice_get cs (k - 1)) read

stands_on : (lines : List (List ℕ)) (n : ℕ) (line front cs more : List ℕ) (k : ℕ) → 1 ≤ n → slice_get lines (n - 1) ≡ Some line
    → as_read line ≡ front ++ (cs ++ more) → k ≡ length front + 1 → All (StandsThere lines) (placed_on n k cs)
stands_on lines n line front [] more k low there read from = All-nil (StandsThere lines)
stands_on lines n line front (c ∷ cs) more k low there read from =
    let at : k - 1 ≡ length front = omega arith in
    All-cons (StandsThere lines) (record { code = c; place = record { card = n; column = k } }) (placed_on n (k + 1) cs)
    (record {
      card = low;
      column = omega arith;
      read = read_at lines n k line (front ++ c ∷ (cs ++ more)) there read ∙ ap (slice_get (front ++ c ∷ (cs ++ more))) at ∙ at_end_of front c (cs ++ more);
    })
    (stands_on lines n line (front ++ c ∷ []) cs more (k + 1) low there (read ∙ sym (append_assoc front (c ∷ []) (cs ++ more)))
    (omega (arith, length-append front (c ∷ []))))

-- a card of these lines
record IsCardOf (lines : List (List ℕ)) (card : Card) : Type 0 where
  low : 1 ≤ card.number
  there : slice_get lines (card.number - 1) ≡ Some card.text

start_stands : (lines : List (List ℕ)) (card : Card) → IsCardOf lines card → is_continuation_card card ≡ false
    → All (StandsThere lines) (placed_on card.number 1 card.text)
start_stands lines card here start =
    stands_on lines card.number card.text [] card.text [] 1 here.low here.there (rw start (sym (append-nil card.text))) refl

continuation_stands : (lines : List (List ℕ)) (card : Card) → IsCardOf lines card → is_continuation_card card ≡ true
    → All (StandsThere lines) (placed_on card.number 1 (without_mark card.text))
continuation_stands lines card here continues =
    stands_on lines card.number card.text [] (without_mark card.text) [] 1 here.low here.there (rw continues (sym (append-nil (without_mark card.text)))) refl

-- ALL CARDS

line_at_end_of : (front : List (List ℕ)) (line : List ℕ) (lines : List (List ℕ)) → slice_get (front ++ line ∷ lines) (length front) ≡ Some line
line_at_end_of [] line lines = refl
line_at_end_of (x ∷ xs) line lines = line_at_end_of xs line lines

are_cards : (lines front rest more : List (List ℕ)) (n : ℕ) → lines ≡ front ++ (rest ++ more) → n ≡ length front + 1
    → All (IsCardOf lines) (numbered n rest)
are_cards lines front [] more n made from = All-nil (IsCardOf lines)
are_cards lines front (line ∷ rest) more n made from =
    let at : n - 1 ≡ length front = omega arith in
    All-cons (IsCardOf lines) (record { number = n; text = line }) (numbered (n + 1) rest)
    (record {
      low = omega arith;
      there = ap (λ (ls : List (List ℕ)). slice_get ls (n - 1)) made ∙ ap (slice_get (front ++ line ∷ (rest ++ more))) at ∙ line_at_end_of front line (rest ++ more);
    })
    (are_cards lines (front ++ line ∷ []) rest more (n + 1) (made ∙ sym (append_assoc front (line ∷ []) (rest ++ more)))
    (omega (arith, length-append front (line ∷ []))))

-- LINES

continued_stands : (lines : List (List ℕ)) (cards : List Card) → All (IsCardOf lines) cards → All (StandsThere lines) (continued cards)
continued_stands lines [] here = All-nil (StandsThere lines)
continued_stands lines (card ∷ cards) here = at (continued_stands lines cards (All-tail (IsCardOf lines) card cards here)) (is_continuation_card card) refl
  where
    at : All (StandsThere lines) (continued cards) → (b : Bool) → is_continuation_card card ≡ b
        → All (StandsThere lines) (if b then placed_on card.number 1 (without_mark card.text) ++ continued cards else [])
    at later true e = All-append (StandsThere lines) (placed_on card.number 1 (without_mark card.text)) (continued cards)
        (continuation_stands lines card (All-head (IsCardOf lines) card cards here) e) later
    at later false e = All-nil (StandsThere lines)

-- each of these texts stands where it says
abbrev Stand : List (List ℕ) → List (List Placed) → Type 0
Stand lines texts = All (λ text. All (StandsThere lines) text) texts

joined_stand : (lines : List (List ℕ)) (cards : List Card) → All (IsCardOf lines) cards → Stand lines (joined cards)
joined_stand lines [] here = All-nil (λ text. All (StandsThere lines) text)
joined_stand lines (card ∷ cards) here =
    at (joined_stand lines cards (All-tail (IsCardOf lines) card cards here)) (is_continuation_card card) refl
  where
    at : Stand lines (joined cards) → (b : Bool) → is_continuation_card card ≡ b
        → Stand lines (if b then joined cards else (placed_on card.number 1 card.text ++ continued cards) ∷ joined cards)
    at later true e = later
    at later false e = All-cons (λ text. All (StandsThere lines) text) (placed_on card.number 1 card.text ++ continued cards) (joined cards)
        (All-append (StandsThere lines) (placed_on card.number 1 card.text) (continued cards)
        (start_stands lines card (All-head (IsCardOf lines) card cards here) e)
        (continued_stands lines cards (All-tail (IsCardOf lines) card cards here)))
        later

-- STATEMENTS

onto_stands : (lines : List (List ℕ)) (c : Placed) (ps : List (List Placed)) → StandsThere lines c → Stand lines ps → Stand lines (onto_first c ps)
onto_stands lines c [] here there =
    All-cons (λ text. All (StandsThere lines) text) (c ∷ []) [] (All-cons (StandsThere lines) c [] here (All-nil (StandsThere lines))) there
onto_stands lines c (p ∷ ps) here there =
    All-cons (λ text. All (StandsThere lines) text) (c ∷ p) ps
    (All-cons (StandsThere lines) c p here (All-head (λ text. All (StandsThere lines) text) p ps there))
    (All-tail (λ text. All (StandsThere lines) text) p ps there)

pieces_stand : (lines : List (List ℕ)) (literal : Option ℕ) (cs : List Placed) → All (StandsThere lines) cs → Stand lines (pieces literal cs)
pieces_stand lines literal [] there =
    All-cons (λ text. All (StandsThere lines) text) [] [] (All-nil (StandsThere lines)) (All-nil (λ text. All (StandsThere lines) text))
pieces_stand lines literal (c ∷ cs) there =
    at (pieces_stand lines (literal_after literal c.code) cs (All-tail (StandsThere lines) c cs there)) (ends_statement literal c.code)
  where
    at : Stand lines (pieces (literal_after literal c.code) cs) → (b : Bool)
        → Stand lines (if b then [] ∷ pieces (literal_after literal c.code) cs else onto_first c (pieces (literal_after literal c.code) cs))
    at later true = All-cons (λ text. All (StandsThere lines) text) [] (pieces (literal_after literal c.code) cs) (All-nil (StandsThere lines)) later
    at later false = onto_stands lines c (pieces (literal_after literal c.code) cs) (All-head (StandsThere lines) c cs there) later

statements_stand : (lines : List (List ℕ)) (texts : List (List Placed)) → Stand lines texts → Stand lines (flat_map statements_in texts)
statements_stand lines [] there = All-nil (λ text. All (StandsThere lines) text)
statements_stand lines (text ∷ texts) there =
    All-append (λ statement. All (StandsThere lines) statement) (statements_in text) (flat_map statements_in texts)
    (All-filter is_statement (λ statement. All (StandsThere lines) statement) (pieces None text)
    (pieces_stand lines None text (All-head (λ t. All (StandsThere lines) t) text texts there)))
    (statements_stand lines texts (All-tail (λ t. All (StandsThere lines) t) text texts there))

-- THE END LINE

both : (a b : Bool) → (a && b) ≡ true → (a ≡ true) × (b ≡ true)
both true b h = (refl, h)
both false b h = cc

letter_starts : (e : ℕ) (rest : List ℕ) → (e == 69) ≡ true → kind_of (e ∷ rest) ≡ Start
letter_starts e rest is =
    let comment : (e == 42) ≡ false = grind (arith, nat_tests) in
    let control : (e == 45) ≡ false = grind (arith, nat_tests) in
    let plus : (e == 43) ≡ false = grind (arith, nat_tests) in
    let dot : (e == 46) ≡ false = grind (arith, nat_tests) in
    rw (comment, control, plus, dot) refl

end_line_is : (line : List ℕ) → is_end_line line ≡ true → (front more : List ℕ) × (as_read line ≡ front ++ (rest_of_end_line line ++ more)) × (length front ≡ 3)
end_line_is [] h = cc
end_line_is (e ∷ []) h = cc
end_line_is (e ∷ n ∷ []) h = cc
end_line_is (e ∷ n ∷ d ∷ rest) h =
    let first = both (e == 69) (n == 78) (both (e == 69 && n == 78) (d == 68) (both (e == 69 && n == 78 && d == 68) (ends_label rest) h).0).0 in
    let start = letter_starts e (n ∷ d ∷ rest) first.0 in (
      e ∷ n ∷ d ∷ [],
      drop (position_or_len is_semicolon rest) rest,
      rw start (ap (λ (cs : List ℕ). e ∷ n ∷ d ∷ cs) (sym (take-append-drop (position_or_len is_semicolon rest) rest))),
      refl,
    )

found_passes : (lines : List (List ℕ)) (line : List ℕ) → find is_end_line lines ≡ Some line → is_end_line line ≡ true
found_passes [] line h = cc
found_passes (x ∷ xs) line h = at (is_end_line x) refl h (found_passes xs line)
  where
    at : (b : Bool) → is_end_line x ≡ b → (if b then Some x else find is_end_line xs) ≡ Some line
        → (find is_end_line xs ≡ Some line → is_end_line line ≡ true) → is_end_line line ≡ true
    at true e found later = let same : x ≡ line = cc in ap is_end_line (sym same) ∙ e
    at false e found later = later found

-- THE PROGRAM

ended_stands : (lines : List (List ℕ)) (end_line : List ℕ) → find is_end_line lines ≡ Some end_line
    → Stand lines (statements_on (numbered 1 (before_first is_end_line lines))) × All (StandsThere lines) (placed_on (end_index lines + 1) 4 (rest_of_end_line end_line))
ended_stands lines end_line found =
    let cards = are_cards lines [] (before_first is_end_line lines) (drop (end_index lines) lines) 1 (sym (take-append-drop (end_index lines) lines)) refl in
    let statement_cards = All-filter is_statement_card (IsCardOf lines) (numbered 1 (before_first is_end_line lines)) cards in
    let there = sym (find_at is_end_line lines) ∙ found in
    let is = end_line_is end_line (found_passes lines end_line found) in
    let number : (end_index lines + 1) - 1 ≡ end_index lines = omega arith in (
      statements_stand lines (joined (filter is_statement_card (numbered 1 (before_first is_end_line lines)))) (joined_stand lines (filter is_statement_card (numbered 1 (before_first is_end_line lines))) statement_cards),
      stands_on lines (end_index lines + 1) end_line is.0 (rest_of_end_line end_line) is.1 4 (omega arith) (ap (slice_get lines) number ∙ there) is.2 (omega (arith, is.3)),
    )

pub places_are_true : PlacesAreTrue
places_are_true lines program answered =
    at (first_refusal false (numbered 1 (before_first is_end_line lines))) (find is_end_line lines) refl answered
  where
    at : (refusal : Option SyntaxError) (end_line : Option (List ℕ)) → find is_end_line lines ≡ end_line
        → unless_refused refusal (program_with end_line lines) ≡ Ok program
        → Stand lines program.statements × All (StandsThere lines) program.end_rest
    at (Some refusal) end_line found h = cc
    at None None found h = cc
    at None (Some end_line) found h =
        let same : program_ended_by end_line lines ≡ program = cc in
        let P : ProgramText → Type 0 = λ p. Stand lines p.statements × All (StandsThere lines) p.end_rest in
        subst P same (ended_stands lines end_line found)
