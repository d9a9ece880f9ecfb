-- What the calls that are left come to, the last of them first.
use Rattle.std.proofs.Common.{◌≡◌, ◌<◌, ◌≤◌, ℕ, zero, suc, ◌+◌, ◌-◌, List, [], ◌∷◌, ◌++◌, length, take, map, get_or, refl, sym, ap, ◌∙◌, subst, arith}
use Rattle.std.proofs.lemmas.List.{map-append, take_more}
use Rattle.ledger_disk.specs.{declared.name.Name.{Name}, declared.memory.Entry.{Entry}, Memory.{entry_call}}
use Rattle.ledger_disk.specs.Disks.{Disk, Which, Call, after, after_all, found_in, empty, which_after, which_behind, none_there}

after_both : (xs ys : List Call) (disk : Disk) → after_all (xs ++ ys) disk ≡ after_all ys (after_all xs disk)
after_both [] ys disk = refl
after_both (x ∷ xs) ys disk = after_both xs ys (after x disk)

-- what was done by all entries but the last so many
abbrev pub left_by : List Entry → ℕ → Disk
left_by xs n = after_all (map entry_call (take n xs)) empty

pub one_less : (xs : List Entry) (i : ℕ) (e : Entry) (name : Name) → i < length xs → e ≡ get_or xs (length xs - 1 - i) e
    → found_in (left_by xs (length xs - i)) name ≡ found_in (after (entry_call e) (left_by xs (length xs - (i + 1)))) name
one_less xs i e name less is =
    ap (λ (n : ℕ). found_in (left_by xs n) name) count ∙ ap (λ (l : List Entry). found_in (after_all (map entry_call l) empty) name) (take_more xs (length xs - (i + 1)) e within)
    ∙ ap (λ (y : Entry). found_in (after_all (map entry_call (take (length xs - (i + 1)) xs ++ y ∷ [])) empty) name) (sym here)
    ∙ ap (λ (l : List Call). found_in (after_all l empty) name) (map-append entry_call (take (length xs - (i + 1)) xs) (e ∷ []))
    ∙ ap (λ (d : Disk). found_in d name) (after_both (map entry_call (take (length xs - (i + 1)) xs)) (entry_call e ∷ []) empty)
  where
    count : length xs - i ≡ length xs - (i + 1) + 1
    count = omega (arith, less)

    within : length xs - (i + 1) < length xs
    within = omega (arith, less)

    place : length xs - 1 - i ≡ length xs - (i + 1)
    place = omega (arith, less)

    here : e ≡ get_or xs (length xs - (i + 1)) e
    here = subst (λ (n : ℕ). e ≡ get_or xs n e) place is

-- ---- which file it is

which_last : (xs : List Call) (y : Call) (t : ℕ) (which : Which) → which_behind t (xs ++ y ∷ []) which ≡ which_after (t + length xs) y (which_behind t xs which)
which_last [] y t which = ap (λ (n : ℕ). which_after n y which) (omega arith)
which_last (x ∷ xs) y t which = which_last xs y (suc t) (which_after t x which) ∙ ap (λ (n : ℕ). which_after n y (which_behind (suc t) xs (which_after t x which))) count
  where
    count : suc t + length xs ≡ t + length (x ∷ xs)
    count = omega arith

counted : (n : ℕ) (xs : List Entry) → n ≤ length xs → length (map entry_call (take n xs)) ≡ n
counted zero xs le = refl
counted (suc n) [] le = absurd (omega (arith, le))
counted (suc n) (x ∷ xs) le = ap (λ (m : ℕ). suc m) (counted n xs (omega (arith, le)))

abbrev pub which_left : List Entry → ℕ → Which
which_left xs n = which_behind 0 (map entry_call (take n xs)) none_there

pub one_less_which : (xs : List Entry) (i place : ℕ) (e : Entry) (name : Name) → i < length xs → place ≡ length xs - 1 - i → e ≡ get_or xs place e
    → (which_left xs (length xs - i) name).now ≡ (which_after place (entry_call e) (which_left xs (length xs - (i + 1))) name).now
one_less_which xs i place e name less at is =
    ap (λ (n : ℕ). (which_left xs n name).now) count
    ∙ ap (λ (l : List Entry). (which_behind 0 (map entry_call l) none_there name).now) (take_more xs place e within)
    ∙ ap (λ (y : Entry). (which_behind 0 (map entry_call (take place xs ++ y ∷ [])) none_there name).now) (sym is)
    ∙ ap (λ (l : List Call). (which_behind 0 l none_there name).now) (map-append entry_call (take place xs) (e ∷ []))
    ∙ ap (λ (w : Which). (w name).now) (which_last (map entry_call (take place xs)) (entry_call e) 0 none_there)
    ∙ ap (λ (n : ℕ). (which_after n (entry_call e) (which_left xs place) name).now) made
    ∙ ap (λ (n : ℕ). (which_after place (entry_call e) (which_left xs n) name).now) left
  where
    count : length xs - i ≡ place + 1
    count = omega (arith, less, at)

    within : place < length xs
    within = omega (arith, less, at)

    made : 0 + length (map entry_call (take place xs)) ≡ place
    made = let h = counted place xs (omega (arith, within)) in omega (arith, h)

    left : place ≡ length xs - (i + 1)
    left = omega (arith, less, at)
