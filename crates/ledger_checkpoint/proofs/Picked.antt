-- The pieces of some entries are those of the data sets of their names.
use Rattle.std.proofs.Common.{◌≡◌, ◌⊎◌, inl, inr, ℕ, ◌+◌, Bool, true, false, List, [], ◌∷◌, ◌++◌, length, map, take, drop, refl, sym, ap, ◌∙◌, subst, append_assoc}
use Rattle.std.specs.{Prelude.{if◌then◌else◌, bytes_eq}, List.{AllByRecursion}}
use Rattle.std.proofs.{Math.Seq.{drop-append_seam, take-append_seam}, lemmas.List.{length-append}}
use Rattle.std.proofs.lemmas.Slice.Eq.{bytes_eq-Decides}
use Rattle.mon_catalogue.specs.{declared.data_set.DataSet.{DataSet}, Sets.{Sets}}
use Rattle.ledger_text.specs.{Text.{Collide}, Digests.{digest_of}}
use Rattle.ledger_index.specs.Index.{Entry}
use Rattle.ledger_checkpoint.specs.{Checkpoints.{piece_of, entry_at, entries_from, pieces_text}, Picking.{picked, of_names}, Taking.{AreTexts}}
use Rattle.ledger_checkpoint.specs.Laws.{PickedAreOwn, OwnArePicked, HasItsPiece, PiecesStand}

own_or : (text piece : List ℕ) (texts rest : List (List ℕ)) → digest_of text ≡ digest_of piece → (b : Bool) → bytes_eq text piece ≡ b
    → (texts ≡ rest) ⊎ Collide digest_of → (text ∷ texts ≡ piece ∷ rest) ⊎ Collide digest_of
own_or text piece texts rest same true e (inr collide) = inr collide
own_or text piece texts rest same true e (inl more) =
    inl (ap (λ (t : List ℕ). t ∷ texts) ((bytes_eq-Decides text piece).0 e) ∙ ap (λ (l : List (List ℕ)). piece ∷ l) more)
own_or text piece texts rest same false e more = inr (record {
  one = text;
  other = piece;
  apart = λ is. (let t : bytes_eq text piece ≡ true = (bytes_eq-Decides text piece).1 is in cc (t, e));
  same = same;
})

module _ (p : List ℕ → Bool) where
  are_own : (place : ℕ) (sets : Sets) (texts : List (List ℕ)) → AreTexts (picked p (entries_from place sets)) texts
      → (texts ≡ map piece_of (of_names p sets)) ⊎ Collide digest_of
  are_own place [] [] fit = inl refl
  are_own place [] (text ∷ texts) fit = absurd fit
  are_own place (named ∷ sets) texts fit = by (p named.0) texts fit (λ later. are_own (place + length (piece_of named)) sets later)
    where
      by : (b : Bool) (ts : List (List ℕ)) → AreTexts (if b then entry_at place named ∷ picked p (entries_from (place + length (piece_of named)) sets)
          else picked p (entries_from (place + length (piece_of named)) sets)) ts
          → ((later : List (List ℕ)) → AreTexts (picked p (entries_from (place + length (piece_of named)) sets)) later → (later ≡ map piece_of (of_names p sets)) ⊎ Collide digest_of)
          → (ts ≡ map piece_of (if b then named ∷ of_names p sets else of_names p sets)) ⊎ Collide digest_of
      by false ts fits more = more ts fits
      by true [] fits more = absurd fits
      by true (t ∷ ts) fits more = own_or t (piece_of named) ts (map piece_of (of_names p sets)) fits.0 (bytes_eq t (piece_of named)) refl (more ts fits.1)

  own_fit : (place : ℕ) (sets : Sets) → AreTexts (picked p (entries_from place sets)) (map piece_of (of_names p sets))
  own_fit place [] = tt
  own_fit place (named ∷ sets) = by (p named.0) (own_fit (place + length (piece_of named)) sets)
    where
      by : (b : Bool) → AreTexts (picked p (entries_from (place + length (piece_of named)) sets)) (map piece_of (of_names p sets))
          → AreTexts (if b then entry_at place named ∷ picked p (entries_from (place + length (piece_of named)) sets)
          else picked p (entries_from (place + length (piece_of named)) sets))
          (map piece_of (if b then named ∷ of_names p sets else of_names p sets))
      by true rest = (refl, rest)
      by false rest = rest

pub picked_are_own : PickedAreOwn
picked_are_own p place sets texts fit = are_own p place sets texts fit

pub own_are_picked : OwnArePicked
own_are_picked p place sets = own_fit p place sets

all_picked : (entries : List Entry) → picked (λ name. true) entries ≡ entries
all_picked [] = refl
all_picked (e ∷ entries) = ap (λ (l : List Entry). e ∷ l) (all_picked entries)

all_named : (sets : Sets) → of_names (λ name. true) sets ≡ sets
all_named [] = refl
all_named (named ∷ sets) = ap (λ (l : Sets). named ∷ l) (all_named sets)

pub all_are_own : PickedAreOwn → (place : ℕ) (sets : Sets) (texts : List (List ℕ)) → AreTexts (entries_from place sets) texts
    → (texts ≡ map piece_of sets) ⊎ Collide digest_of
all_are_own picked_own place sets texts fit =
    subst (λ (l : Sets). (texts ≡ map piece_of l) ⊎ Collide digest_of) (all_named sets)
    (picked_own (λ name. true) place sets texts (subst (λ (l : List Entry). AreTexts l texts) (sym (all_picked (entries_from place sets))) fit))

pieces : (front : List ℕ) (sets : Sets) (place : ℕ) → place ≡ length front → AllByRecursion (HasItsPiece (front ++ pieces_text sets)) (entries_from place sets)
pieces front [] place e = tt
pieces front (named ∷ sets) place e = (
  ap digest_of
      (ap (λ (n : ℕ). take (length (piece_of named)) (drop n (front ++ (piece_of named ++ pieces_text sets)))) e
      ∙ ap (take (length (piece_of named))) (drop-append_seam front (piece_of named ++ pieces_text sets))
      ∙ take-append_seam (piece_of named) (pieces_text sets)),
  subst (λ (l : List ℕ). AllByRecursion (HasItsPiece l) (entries_from (place + length (piece_of named)) sets))
      (append_assoc front (piece_of named) (pieces_text sets))
      (pieces (front ++ piece_of named) sets (place + length (piece_of named))
      (ap (λ (n : ℕ). n + length (piece_of named)) e ∙ sym (length-append front (piece_of named)))),
)

pub pieces_stand : PiecesStand
pieces_stand sets = pieces [] sets 0 refl
