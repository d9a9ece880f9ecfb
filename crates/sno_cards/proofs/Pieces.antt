-- A line that is cut as its characters come has its pieces for its statements.
use Rattle.std.proofs.Common.{◌≡◌, ℕ, Bool, true, false, List, [], ◌∷◌, ◌++◌, filter, Option, None, if◌then◌else◌, refl, sym, ap, ◌∙◌, append_assoc, append-nil}
use Rattle.std.{specs.List.{onto_first}, proofs.lemmas.List.Elements.{filter-append}}
use Rattle.sno_cards.specs.{Texts.{Placed}, Statements.{pieces, ends_statement, literal_after, is_statement, statements_in}}
use Rattle.sno_cards.specs.inner.Cuts.{Cut, begun, ended, step, fed}

-- the pieces of a line whose first piece begins with these characters
abbrev pub begun_by : List Placed → List (List Placed) → List (List Placed)
begun_by start [] = start ∷ []
begun_by start (piece ∷ pieces) = (start ++ piece) ∷ pieces

-- one character more in the first piece
onto : (start : List Placed) (c : Placed) (ps : List (List Placed)) → begun_by start (onto_first c ps) ≡ begun_by (start ++ c ∷ []) ps
onto start c [] = refl
onto start c (p ∷ ps) = ap (λ (first : List Placed). first ∷ ps) (sym (append_assoc start (c ∷ []) p))

nothing_onto : (c : Placed) (ps : List (List Placed)) → begun_by [] (onto_first c ps) ≡ onto_first c ps
nothing_onto c [] = refl
nothing_onto c (p ∷ ps) = refl

-- a piece of which nothing has begun is a whole one
pub begun_by_nothing : (literal : Option ℕ) (cs : List Placed) → begun_by [] (pieces literal cs) ≡ pieces literal cs
begun_by_nothing literal [] = refl
begun_by_nothing literal (c ∷ cs) = at (ends_statement literal c.code)
  where
    at : (b : Bool)
        → begun_by [] (if b then [] ∷ pieces (literal_after literal c.code) cs else onto_first c (pieces (literal_after literal c.code) cs))
        ≡ (if b then [] ∷ pieces (literal_after literal c.code) cs else onto_first c (pieces (literal_after literal c.code) cs))
    at true = refl
    at false = nothing_onto c (pieces (literal_after literal c.code) cs)

kept_first : (p : List Placed) (ps : List (List Placed)) → filter is_statement (p ∷ ps) ≡ filter is_statement (p ∷ []) ++ filter is_statement ps
kept_first p ps = filter-append is_statement (p ∷ []) ps

ending_piece : (start : List Placed) (literal : Option ℕ) (c : Placed) (rest : List Placed) → ends_statement literal c.code ≡ true
    → begun_by start (pieces literal (c ∷ rest)) ≡ start ∷ pieces (literal_after literal c.code) rest
ending_piece start literal c rest ends =
    rw ends (ap (λ (first : List Placed). first ∷ pieces (literal_after literal c.code) rest) (append-nil start))

longer_piece : (start : List Placed) (literal : Option ℕ) (c : Placed) (rest : List Placed) → ends_statement literal c.code ≡ false
    → begun_by start (pieces literal (c ∷ rest)) ≡ begun_by (start ++ c ∷ []) (pieces (literal_after literal c.code) rest)
longer_piece start literal c rest goes_on = rw goes_on (onto start c (pieces (literal_after literal c.code) rest))

-- the statements of a line that goes on so
abbrev left : Cut → List Placed → List (List Placed)
left c line = c.statements ++ filter is_statement (begun_by c.piece (pieces c.literal line))

left_more : (c : Cut) (p : Placed) (line : List Placed) → left c (p ∷ line) ≡ left (step c p) line
left_more c p line = at (ends_statement c.literal p.code) refl
  where
    at : (b : Bool) → ends_statement c.literal p.code ≡ b → left c (p ∷ line) ≡ left (step c p) line
    at true e =
        ap (λ (ps : List (List Placed)). c.statements ++ filter is_statement ps) (ending_piece c.piece c.literal p line e)
        ∙ ap (λ (ps : List (List Placed)). c.statements ++ ps) (kept_first c.piece (pieces (literal_after c.literal p.code) line))
        ∙ sym (append_assoc c.statements (filter is_statement (c.piece ∷ [])) (filter is_statement (pieces (literal_after c.literal p.code) line)))
        ∙ ap (λ (ps : List (List Placed)). c.statements ++ filter is_statement (c.piece ∷ []) ++ filter is_statement ps) (sym (begun_by_nothing (literal_after c.literal p.code) line))
        ∙ sym (ap (λ (n : Cut). left n line) (stepped_true e))
      where
        stepped_true : ends_statement c.literal p.code ≡ true → step c p ≡ record { statements = ended c; piece = []; literal = literal_after c.literal p.code }
        stepped_true e = rw e refl
    at false e =
        ap (λ (ps : List (List Placed)). c.statements ++ filter is_statement ps) (longer_piece c.piece c.literal p line e)
        ∙ sym (ap (λ (n : Cut). left n line) (stepped_false e))
      where
        stepped_false : ends_statement c.literal p.code ≡ false → step c p ≡ record { statements = c.statements; piece = c.piece ++ p ∷ []; literal = literal_after c.literal p.code }
        stepped_false e = rw e refl

all_left : (c : Cut) (line : List Placed) → left c line ≡ ended (fed c line)
all_left c [] = ap (λ (ps : List Placed). c.statements ++ filter is_statement (ps ∷ [])) (append-nil c.piece)
all_left c (p ∷ line) = left_more c p line ∙ all_left (step c p) line

-- a line that is cut as its characters come
pub line_cut : (statements : List (List Placed)) (line : List Placed) → ended (fed (begun statements) line) ≡ statements ++ statements_in line
line_cut statements line =
    sym (all_left (begun statements) line)
    ∙ ap (λ (ps : List (List Placed)). statements ++ filter is_statement ps) (begun_by_nothing None line)

pub fed-append : (c : Cut) (a b : List Placed) → fed c (a ++ b) ≡ fed (fed c a) b
fed-append c [] b = refl
fed-append c (p ∷ a) b = fed-append (step c p) a b
