-- What is read so far stands before what is left.
use Rattle.std.proofs.Common.{◌≡◌, ℕ, ◌+◌, ◌<◌, List, [], ◌∷◌, ◌++◌, length, map, drop, get_or, Bor, Option, Some, None, option_map, refl, sym, ap, ◌∙◌, append_assoc}
use Rattle.std.{specs.Option.{option_and_then}, proofs.lemmas.List.{drop_more, map-append}}
use Rattle.ledger_index.specs.{declared.course.Kept.{Kept as CodeKept}, Index.{Entry}}
use Rattle.ledger_index.specs.Course.{Kept, seen_kept, seen_list, kept_of, and_list, list_in}

-- ---- entries of an index

abbrev pub behind : List Entry → Option (List Entry) → Option (List Entry)
behind entries more = option_map (λ es. entries ++ es) more

-- ---- texts and answers

abbrev pub list_behind : List Kept → Option (List Kept) → Option (List Kept)
list_behind list more = option_map (λ others. list ++ others) more

one_more : (list : List Kept) (one : Kept) (more : Option (List Kept)) → list_behind list (and_list more one) ≡ list_behind (list ++ one ∷ []) more
one_more list one None = refl
one_more list one (Some others) = ap (λ (l : List Kept). Some l) (sym (append_assoc list (one ∷ []) others))

abbrev texts : List (Bor (List ℕ)) → List (List ℕ)
texts fields = map (λ (field : Bor (List ℕ)). field.now) fields

pub next_one : (all : Option (List Kept)) (xs : List (Bor (List ℕ))) (i : ℕ) (d : Bor (List ℕ)) (list new : List CodeKept) (one : CodeKept)
    → i < length xs → Some (seen_kept one) ≡ kept_of (get_or xs i d).now → new ≡ list ++ one ∷ []
    → all ≡ list_behind (seen_list list) (list_in (texts (drop i xs))) → all ≡ list_behind (seen_list new) (list_in (texts (drop (i + 1) xs)))
next_one all xs i d list new one less read is so_far =
    so_far
    ∙ ap (λ (ys : List (Bor (List ℕ))). list_behind (seen_list list) (list_in (texts ys))) (drop_more xs i d less)
    ∙ ap (λ (o : Option Kept). list_behind (seen_list list) (option_and_then (and_list (list_in (texts (drop (i + 1) xs)))) o)) (sym read)
    ∙ one_more (seen_list list) (seen_kept one) (list_in (texts (drop (i + 1) xs)))
    ∙ ap (λ (l : List Kept). list_behind l (list_in (texts (drop (i + 1) xs)))) (sym (map-append seen_kept list (one ∷ [])))
    ∙ ap (λ (l : List CodeKept). list_behind (seen_list l) (list_in (texts (drop (i + 1) xs)))) (sym is)
