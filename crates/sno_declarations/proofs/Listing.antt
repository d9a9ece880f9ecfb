-- Items one after the other.
use Rattle.std.proofs.Common.{◌≡◌, ℕ, ◌+◌, ◌≤◌, ◌<◌, Bool, true, false, cond, not, ◌&&◌, List, [], ◌∷◌, ◌++◌, length, map, take, drop, Option, None, Some, refl, sym, ap, ◌∙◌, arith, nat_lt, append-nil}
use Rattle.std.specs.{Prelude.{if◌then◌else◌, unwrap_or}, Borrow.{Bor}, Option.{option_map}, List.{list_all, slice_split, onto_first, position_or_len}}
use Rattle.std.proofs.lemmas.{Bool.Decides.{nat_tests}, List.Folds.{list_all-append}, List.Splits.{slice_split-cons_no, slice_split_first}}
use Rattle.mon_text.specs.{Lines.{is_blank_line}, Characters.{is_comma}}
use Rattle.sno_declarations.specs.{Prototypes.{is_identifier, trimmed, items, cut_at}, inner.Reading.{told, listed}}

-- THE FIRST ITEM

alone : (text : List ℕ) → length text ≤ position_or_len is_comma text → slice_split is_comma text ≡ text ∷ []
alone [] h = refl
alone (c ∷ cs) h = by (is_comma c) refl (λ g. alone cs g)
  where
    by : (b : Bool) → is_comma c ≡ b → (length cs ≤ position_or_len is_comma cs → slice_split is_comma cs ≡ cs ∷ []) → slice_split is_comma (c ∷ cs) ≡ (c ∷ cs) ∷ []
    by true e rest =
        let at : position_or_len is_comma (c ∷ cs) ≡ 0 = ap (λ (b : Bool). cond (not b) (1 + position_or_len is_comma cs) 0) e in
        absurd (omega (arith, at, h))
    by false e rest =
        let at : position_or_len is_comma (c ∷ cs) ≡ 1 + position_or_len is_comma cs = ap (λ (b : Bool). cond (not b) (1 + position_or_len is_comma cs) 0) e in
        slice_split-cons_no is_comma c cs e ∙ ap (onto_first c) (rest (omega (arith, at, h)))

whole : (text : List ℕ) → nat_lt (position_or_len is_comma text) (length text) ≡ false → slice_split is_comma text ≡ text ∷ []
whole text e = alone text (grind (arith, nat_tests))

halves : (text : List ℕ) → nat_lt (position_or_len is_comma text) (length text) ≡ true
    → slice_split is_comma text ≡ take (position_or_len is_comma text) text ∷ slice_split is_comma (drop (position_or_len is_comma text + 1) text)
halves text e = let within : position_or_len is_comma text < length text = grind (arith, nat_tests) in slice_split_first is_comma text 0 within

-- where no comma stands, the text is the one item
pub no_comma : (text : List ℕ) (cut : Option (Bor (List ℕ) × Bor (List ℕ))) → option_map told cut ≡ cut_at 44 text → cut ≡ None → slice_split is_comma text ≡ text ∷ []
no_comma text cut told_is is = by (nat_lt (position_or_len is_comma text) (length text)) refl
  where
    by : (b : Bool) → nat_lt (position_or_len is_comma text) (length text) ≡ b → slice_split is_comma text ≡ text ∷ []
    by false e = whole text e
    by true e =
        let some : cut_at 44 text ≡ Some (take (position_or_len is_comma text) text, drop (position_or_len is_comma text + 1) text) = ap (λ (b : Bool). option_map (λ i. (take i text, drop (i + 1) text)) (cond b (Some (position_or_len is_comma text)) None)) e in
        let none : option_map told cut ≡ None = ap (option_map told) is in
        let both : None ≡ Some (take (position_or_len is_comma text) text, drop (position_or_len is_comma text + 1) text) = sym none ∙ told_is ∙ some in
        cc

-- and otherwise it stands before the first comma
pub before_comma : (text : List ℕ) (cut : Option (Bor (List ℕ) × Bor (List ℕ))) (item rest : Bor (List ℕ)) → option_map told cut ≡ cut_at 44 text → cut ≡ Some (item, rest)
    → slice_split is_comma text ≡ item.now ∷ slice_split is_comma rest.now
before_comma text cut item rest told_is is = by (nat_lt (position_or_len is_comma text) (length text)) refl
  where
    given : option_map told cut ≡ Some (item.now, rest.now)
    given = ap (option_map told) is

    by : (b : Bool) → nat_lt (position_or_len is_comma text) (length text) ≡ b → slice_split is_comma text ≡ item.now ∷ slice_split is_comma rest.now
    by false e =
        let none : cut_at 44 text ≡ None = ap (λ (b : Bool). option_map (λ i. (take i text, drop (i + 1) text)) (cond b (Some (position_or_len is_comma text)) None)) e in
        let both : Some (item.now, rest.now) ≡ None = sym given ∙ told_is ∙ none in
        cc
    by true e =
        let some : cut_at 44 text ≡ Some (take (position_or_len is_comma text) text, drop (position_or_len is_comma text + 1) text) = ap (λ (b : Bool). option_map (λ i. (take i text, drop (i + 1) text)) (cond b (Some (position_or_len is_comma text)) None)) e in
        let both : Some (take (position_or_len is_comma text) text, drop (position_or_len is_comma text + 1) text) ≡ Some (item.now, rest.now) = sym some ∙ sym told_is ∙ given in
        let first : take (position_or_len is_comma text) text ≡ item.now = ap (λ (o : Option (List ℕ × List ℕ)). (unwrap_or o ([], [])).0) both in
        let second : drop (position_or_len is_comma text + 1) text ≡ rest.now = ap (λ (o : Option (List ℕ × List ℕ)). (unwrap_or o ([], [])).1) both in
        halves text e ∙ ap (λ (t : List ℕ). t ∷ slice_split is_comma (drop (position_or_len is_comma text + 1) text)) first ∙ ap (λ (t : List ℕ). item.now ∷ slice_split is_comma t) second

-- ALL ITEMS

items_are : (text : List ℕ) → is_blank_line text ≡ false → items text ≡ map trimmed (slice_split is_comma text)
items_are text h = ap (λ (b : Bool). if b then [] else map trimmed (slice_split is_comma text)) h

abbrev choice : List (List ℕ) → Option (List (List ℕ))
choice names = if list_all is_identifier names then Some names else None

pub blank : (text : List ℕ) → is_blank_line text ≡ true → Some [] ≡ listed text
blank text h =
    let none : items text ≡ [] = ap (λ (b : Bool). if b then [] else map trimmed (slice_split is_comma text)) h in
    sym (ap choice none)

pub accepted : (text : List ℕ) (names : List (List ℕ)) → is_blank_line text ≡ false → names ++ [] ≡ map trimmed (slice_split is_comma text)
    → list_all is_identifier names ≡ true → Some names ≡ listed text
accepted text names h e all =
    let are : items text ≡ names = items_are text h ∙ sym e ∙ append-nil names in
    sym (ap choice are ∙ ap (λ (b : Bool). if b then Some names else None) all)

and_false : (a b : Bool) → b ≡ false → (a && b) ≡ false
and_false true b h = h
and_false false b h = refl

pub refused : (text : List ℕ) (names : List (List ℕ)) (item : List ℕ) (more : List (List ℕ)) → is_blank_line text ≡ false
    → names ++ trimmed item ∷ more ≡ map trimmed (slice_split is_comma text) → is_identifier (trimmed item) ≡ false → None ≡ listed text
refused text names item more h e other =
    let all = names ++ trimmed item ∷ more in
    let are : items text ≡ all = items_are text h ∙ sym e in
    let last : list_all is_identifier (trimmed item ∷ more) ≡ false = ap (λ (b : Bool). b && list_all is_identifier more) other in
    let fails : list_all is_identifier all ≡ false = list_all-append is_identifier names (trimmed item ∷ more) ∙ and_false (list_all is_identifier names) (list_all is_identifier (trimmed item ∷ more)) last in
    sym (ap choice are ∙ ap (λ (b : Bool). if b then Some all else None) fails)

-- one more item
pub one_more : (names : List (List ℕ)) (item : List ℕ) → list_all is_identifier names ≡ true → is_identifier (trimmed item) ≡ true
    → list_all is_identifier (names ++ trimmed item ∷ []) ≡ true
one_more names item all is =
    list_all-append is_identifier names (trimmed item ∷ []) ∙ ap (λ (b : Bool). b && (is_identifier (trimmed item) && true)) all ∙ ap (λ (b : Bool). b && true) is
