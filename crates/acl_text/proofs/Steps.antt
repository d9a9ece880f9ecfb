-- Reading with the entries kept in canonical order: what the loop does, piece by piece.
use Rattle.std.proofs.Common.{◌≡◌, ◌∙◌, ap, sym, subst, refl, ℕ, ◌+◌, Bool, true, false, cond, ◌≤◌, List, [], ◌∷◌, ◌++◌, length, length-append, take, drop, arith, Option}
use Rattle.std.specs.{Prelude.{Result, Ok, Err, IsOk, count_by, ◌==◌, ◌&&◌}, Ordering.{is_lt}, List.{list_any}}
use Rattle.std.proofs.lemmas.List.{append_assoc, take-append-drop, take-append-le}
use Rattle.mon_text.specs.{declared.stop.Stop.{Stop}, declared.stop.Stop.TheVariants.{Refused, Memory}, Stops.{Gives}}
use Rattle.mon_acl.specs.declared.entries.{Entry.{Entry}, Tag.TheVariants.{UserObj, GroupObj, Mask, Other}}
use Rattle.mon_acl.specs.declared.refusals.AclError.{AclError, TheVariants.{Twice, TooMany}}
use Rattle.mon_acl.specs.Entries.{compared, is_for, qualifier, is_named, has_tag, IsCanonical}
use Rattle.acl_text.specs.{Refusals.{◌>>=◌, entry_of, joined, entries_on, entries_of, lacking}, Reading.{MayGrow, put_in, arranged, read_pieces}}
use Rattle.acl_text.specs.inner.Building.{added, piece_added, canonical_entries_of}
use Rattle.acl_text.proofs.{Order.{any_arranged, count_arranged, put_sorted}, Lacks.{whole}}

abbrev pub sorted_on : ℕ → List Entry → List (List ℕ) → Result (List Entry) AclError
sorted_on n es [] = Ok es
sorted_on n es (p ∷ ps) = piece_added n p es >>= λ more. sorted_on (n + 1) more ps

-- a call that stops tells of what is read where it stops, and of what follows
abbrev pub Stops : {A : Type 0} → Stop AclError → Result A AclError → Type 0
Stops (Refused e) read = read ≡ Err e
Stops Memory read = Unit {0}

pub stops_then : {A B : Type 0} (s : Stop AclError) (read : Result A AclError) (f : A → Result B AclError) → Stops s read → Stops s (read >>= f)
stops_then (Refused e) read f h = ap (λ r. r >>= f) h
stops_then Memory read f h = tt

pub stops_of_gives : {X B : Type 0} (seen : X → B) (s : Stop AclError) (read : Result B AclError) → Gives seen (Err s) read → Stops s read
stops_of_gives seen (Refused e) read h = h
stops_of_gives seen Memory read h = tt

pub exit : {X B : Type 0} (seen : X → B) (r : Result X (Stop AclError)) (s : Stop AclError) (read : Result B AclError) → r ≡ Err s → Stops s read → Gives seen r read
exit {X = X} seen r (Refused e) read is h = subst (λ (t : Result X (Stop AclError)). Gives seen t read) (sym is) h
exit {X = X} seen r Memory read is h = subst (λ (t : Result X (Stop AclError)). Gives seen t read) (sym is) tt

-- what a call stops for is what the one that it called stopped for
pub stopped_for : {X : Type 0} (r : Result X (Stop AclError)) (s t u : Stop AclError) → r ≡ Err s → s ≡ t → r ≡ Err u → t ≡ u
stopped_for r s t u is same h = cc

-- one more entry, among those in any order and among those in canonical order
added_arranged : (n : ℕ) (e : Entry) (es : List Entry) → added n e (arranged es) ≡ (joined n e es >>= λ more. Ok (arranged more))
added_arranged n e es =
    ap (λ (b : Bool). (cond b (Err (Twice n)) (cond (is_named e && (count_by is_named (arranged es) == 100)) (Err (TooMany n)) (Ok (e ∷ arranged es)))) >>= λ _. Ok (put_in e (arranged es)))
    (any_arranged (is_for e.tag (qualifier e)) es)
    ∙ ap (λ (k : ℕ). (cond (list_any (is_for e.tag (qualifier e)) es) (Err (Twice n)) (cond (is_named e && (k == 100)) (Err (TooMany n)) (Ok (e ∷ arranged es)))) >>= λ _. Ok (put_in e (arranged es)))
    (count_arranged is_named es)
    ∙ at (list_any (is_for e.tag (qualifier e)) es) (is_named e && (count_by is_named es == 100))
  where
    at : (b c : Bool) → ((cond b (Err (Twice n)) (cond c (Err (TooMany n)) (Ok (e ∷ arranged es)))) >>= λ _. Ok (put_in e (arranged es)))
        ≡ ((cond b (Err (Twice n)) (cond c (Err (TooMany n)) (Ok (e ∷ es)))) >>= λ more. Ok (arranged more))
    at true c = refl
    at false true = refl
    at false false = refl

-- the loop reads the entries, and arranges them
pub sorted_as_read : (n : ℕ) (es : List Entry) (ps : List (List ℕ)) → sorted_on n (arranged es) ps ≡ (entries_on n es ps >>= λ all. Ok (arranged all))
sorted_as_read n es [] = refl
sorted_as_read n es (p ∷ ps) = first (λ more. sorted_as_read (n + 1) more ps) (entry_of n p)
  where
    second : ((more : List Entry) → sorted_on (n + 1) (arranged more) ps ≡ (entries_on (n + 1) more ps >>= λ all. Ok (arranged all))) → (e : Entry) (j : Result (List Entry) AclError) →
        ((j >>= λ more. Ok (arranged more)) >>= λ more. sorted_on (n + 1) more ps) ≡ ((j >>= λ more. entries_on (n + 1) more ps) >>= λ all. Ok (arranged all))
    second rest e (Ok more) = rest more
    second rest e (Err refusal) = refl

    first : ((more : List Entry) → sorted_on (n + 1) (arranged more) ps ≡ (entries_on (n + 1) more ps >>= λ all. Ok (arranged all))) → (r : Result Entry AclError) →
        ((r >>= λ e. added n e (arranged es)) >>= λ more. sorted_on (n + 1) more ps) ≡ ((r >>= λ e. joined n e es >>= λ more. entries_on (n + 1) more ps) >>= λ all. Ok (arranged all))
    first rest (Ok e) = ap (λ (j : Result (List Entry) AclError). j >>= λ more. sorted_on (n + 1) more ps) (added_arranged n e es) ∙ second rest e (joined n e es)
    first rest (Err refusal) = refl

pub lacking_arranged : (es : List Entry) → lacking (arranged es) ≡ lacking es
lacking_arranged es = cc (any_arranged (has_tag UserObj) es, any_arranged (has_tag GroupObj) es, any_arranged (has_tag Other) es, any_arranged (has_tag Mask) es, any_arranged is_named es)

-- what one more entry leaves is in canonical order
pub added_sorted : (n : ℕ) (e : Entry) (es more : List Entry) → IsCanonical es → added n e es ≡ Ok more → IsCanonical more
added_sorted n e es more s h = at (list_any (is_for e.tag (qualifier e)) es) refl (is_named e && (count_by is_named es == 100)) h
  where
    at : (b : Bool) → list_any (is_for e.tag (qualifier e)) es ≡ b → (c : Bool) →
        ((cond b (Err (Twice n)) (cond c (Err (TooMany n)) (Ok (e ∷ es)))) >>= λ _. Ok (put_in e es)) ≡ Ok more → IsCanonical more
    at true t c h = absurd (let k : Err (Twice n) ≡ Ok more = h in cc)
    at false t true h = absurd (let k : Err (TooMany n) ≡ Ok more = h in cc)
    at false t false h = subst IsCanonical (let k : Ok (put_in e es) ≡ Ok more = h in cc) (put_sorted e es s t)

pub piece_sorted : (n : ℕ) (p : List ℕ) (es more : List Entry) → IsCanonical es → piece_added n p es ≡ Ok more → IsCanonical more
piece_sorted n p es more s h = at (entry_of n p) h
  where
    at : (r : Result Entry AclError) → (r >>= λ e. added n e es) ≡ Ok more → IsCanonical more
    at (Ok e) h = added_sorted n e es more s h
    at (Err refusal) h = absurd (let k : Err refusal ≡ Ok more = h in cc)

-- the list of the loop's entries is the list that is read, where it lacks nothing
pub read_whole : (texts : List (List ℕ)) (es : List Entry) (lacks : Option AclError) → canonical_entries_of texts ≡ Ok es → lacks ≡ lacking es → read_pieces texts ≡ whole lacks es
read_whole texts es lacks h k = at (entries_of texts) h
  where
    at : (r : Result (List Entry) AclError) → (r >>= λ all. Ok (arranged all)) ≡ Ok es → (r >>= λ all. whole (lacking all) (arranged all)) ≡ whole lacks es
    at (Ok all) h =
        let same : arranged all ≡ es = (let t : Ok (arranged all) ≡ Ok es = h in cc) in
        ap (λ (o : Option AclError). whole o (arranged all)) (sym (lacking_arranged all) ∙ ap lacking same ∙ sym k) ∙ ap (whole lacks) same
    at (Err e) h = absurd (let t : Err e ≡ Ok es = h in cc)

-- ---- what was read so far

put_longer : (e : Entry) (es : List Entry) → length (put_in e es) ≡ length es + 1
put_longer e [] = refl
put_longer e (x ∷ xs) = at (is_lt (compared x e)) (put_longer e xs)
  where
    at : (b : Bool) → length (put_in e xs) ≡ length xs + 1 → length (cond b (x ∷ put_in e xs) (e ∷ x ∷ xs)) ≡ length (x ∷ xs) + 1
    at true h = omega (arith, h)
    at false h = omega arith

piece_longer : (n : ℕ) (p : List ℕ) (es more : List Entry) → piece_added n p es ≡ Ok more → length more ≡ length es + 1
piece_longer n p es more h = at (entry_of n p) h
  where
    joined_at : (e : Entry) (j : Result (List Entry) AclError) → (j >>= λ _. Ok (put_in e es)) ≡ Ok more → length more ≡ length es + 1
    joined_at e (Ok all) h = let k : put_in e es ≡ more = (let t : Ok (put_in e es) ≡ Ok more = h in cc) in ap length (sym k) ∙ put_longer e es
    joined_at e (Err refusal) h = absurd (let k : Err refusal ≡ Ok more = h in cc)

    at : (r : Result Entry AclError) → (r >>= λ e. added n e es) ≡ Ok more → length more ≡ length es + 1
    at (Ok e) h = joined_at e (joined n e es) h
    at (Err refusal) h = absurd (let k : Err refusal ≡ Ok more = h in cc)

sorted_append : (n : ℕ) (es : List Entry) (xs ys : List (List ℕ)) (more : List Entry) → sorted_on n es xs ≡ Ok more → sorted_on n es (xs ++ ys) ≡ sorted_on (length xs + n) more ys
sorted_append n es [] ys more h =
    let same : es ≡ more = (let k : Ok es ≡ Ok more = h in cc) in
    let counted : n ≡ 0 + n = omega arith in
    ap (λ (all : List Entry). sorted_on n all ys) same ∙ ap (λ (k : ℕ). sorted_on k more ys) counted
sorted_append n es (x ∷ xs) ys more h = at (λ all. sorted_append (n + 1) all xs ys more) (piece_added n x es) h
  where
    at : ((all : List Entry) → sorted_on (n + 1) all xs ≡ Ok more → sorted_on (n + 1) all (xs ++ ys) ≡ sorted_on (length xs + (n + 1)) more ys) →
        (r : Result (List Entry) AclError) → (r >>= λ all. sorted_on (n + 1) all xs) ≡ Ok more →
        (r >>= λ all. sorted_on (n + 1) all (xs ++ ys)) ≡ sorted_on (length (x ∷ xs) + n) more ys
    at rest (Ok all) h =
        let counted : length xs + (n + 1) ≡ length (x ∷ xs) + n = omega arith in
        rest all h ∙ ap (λ (k : ℕ). sorted_on k more ys) counted
    at rest (Err refusal) h = absurd (let k : Err refusal ≡ Ok more = h in cc)

prefix_read : (n : ℕ) (es : List Entry) (xs ys : List (List ℕ)) → IsOk (sorted_on n es (xs ++ ys)) → IsOk (sorted_on n es xs)
prefix_read n es [] ys h = refl
prefix_read n es (x ∷ xs) ys h = at (λ all. prefix_read (n + 1) all xs ys) (piece_added n x es) h
  where
    at : ((all : List Entry) → IsOk (sorted_on (n + 1) all (xs ++ ys)) → IsOk (sorted_on (n + 1) all xs)) →
        (r : Result (List Entry) AclError) → IsOk (r >>= λ all. sorted_on (n + 1) all (xs ++ ys)) → IsOk (r >>= λ all. sorted_on (n + 1) all xs)
    at rest (Ok all) h = rest all h
    at rest (Err refusal) h = h

-- the texts up to the n-th are read, and these entries are theirs
pub record IsReadTo (texts rest : List (List ℕ)) (n : ℕ) (es : List Entry) : Type 0 where
  pub before : List (List ℕ)
  pub parts : texts ≡ before ++ rest
  pub numbered : length before + 1 ≡ n
  pub many : length es ≡ length before
  pub read : sorted_on 1 [] before ≡ Ok es

pub none_read : (texts : List (List ℕ)) (es : List Entry) → es ≡ [] → IsReadTo texts texts 1 es
none_read texts es none = record { before = []; parts = refl; numbered = refl; many = ap length none; read = ap (λ (all : List Entry). Ok all) (sym none) }

sorted_rest : (texts rest : List (List ℕ)) (n : ℕ) (es : List Entry) → IsReadTo texts rest n es → sorted_on 1 [] texts ≡ sorted_on n es rest
sorted_rest texts rest n es r =
    ap (sorted_on 1 []) r.parts ∙ sorted_append 1 [] r.before rest es r.read ∙ ap (λ (k : ℕ). sorted_on k es rest) r.numbered

one_read : (texts : List (List ℕ)) (piece : List ℕ) (rest : List (List ℕ)) (n : ℕ) (es : List Entry) (r : IsReadTo texts (piece ∷ rest) n es) →
    sorted_on 1 [] (r.before ++ piece ∷ []) ≡ (piece_added n piece es >>= λ more. Ok more)
one_read texts piece rest n es r = sorted_append 1 [] r.before (piece ∷ []) es r.read ∙ ap (λ (k : ℕ). sorted_on k es (piece ∷ [])) r.numbered

pub more_read : (texts left : List (List ℕ)) (piece : List ℕ) (rest : List (List ℕ)) (n : ℕ) (es more : List Entry) →
    IsReadTo texts left n es → left ≡ piece ∷ rest → piece_added n piece es ≡ Ok more → IsReadTo texts rest (n + 1) more
more_read texts left piece rest n es more r is h =
    let r : IsReadTo texts (piece ∷ rest) n es = subst (λ (ls : List (List ℕ)). IsReadTo texts ls n es) is r in record {
      before = r.before ++ piece ∷ [];
      parts = r.parts ∙ sym (append_assoc r.before (piece ∷ []) rest);
      numbered = omega (arith, length-append r.before (piece ∷ []), r.numbered);
      many = omega (arith, piece_longer n piece es more h, length-append r.before (piece ∷ []), r.many);
      read = one_read texts piece rest n es r ∙ ap (λ (j : Result (List Entry) AclError). j >>= λ all. Ok all) h;
    }

pub all_read : (texts left : List (List ℕ)) (n : ℕ) (es : List Entry) → IsReadTo texts left n es → left ≡ [] → canonical_entries_of texts ≡ Ok es
all_read texts left n es r is =
    sym (sorted_as_read 1 [] texts) ∙ sorted_rest texts left n es r ∙ ap (sorted_on n es) is

-- a piece at which the reading stops stops that of the text
pub piece_stops : (texts left : List (List ℕ)) (piece : List ℕ) (rest : List (List ℕ)) (n : ℕ) (es : List Entry) (s : Stop AclError) →
    IsReadTo texts left n es → left ≡ piece ∷ rest → Stops s (piece_added n piece es) → Stops s (canonical_entries_of texts)
piece_stops texts left piece rest n es s r is h =
    subst (λ (r : Result (List Entry) AclError). Stops s r) (sym (sorted_rest texts left n es r ∙ ap (sorted_on n es) is) ∙ sorted_as_read 1 [] texts)
    (stops_then s (piece_added n piece es) (λ more. sorted_on (n + 1) more rest) h)

sorted_longer : (n : ℕ) (es : List Entry) (ps : List (List ℕ)) (more : List Entry) → sorted_on n es ps ≡ Ok more → length more ≡ length es + length ps
sorted_longer n es [] more h = let same : es ≡ more = (let k : Ok es ≡ Ok more = h in cc) in omega (arith, ap length same)
sorted_longer n es (p ∷ ps) more h = at (λ all. sorted_longer (n + 1) all ps more) (piece_added n p es) refl h
  where
    at : ((all : List Entry) → sorted_on (n + 1) all ps ≡ Ok more → length more ≡ length all + length ps) →
        (r : Result (List Entry) AclError) → piece_added n p es ≡ r → (r >>= λ all. sorted_on (n + 1) all ps) ≡ Ok more → length more ≡ length es + length (p ∷ ps)
    at rest (Ok all) e h = omega (arith, rest all h, piece_longer n p es all e)
    at rest (Err refusal) e h = absurd (let k : Err refusal ≡ Ok more = h in cc)

of_sorted : (j : Result (List Entry) AclError) → IsOk (j >>= λ all. Ok (arranged all)) → IsOk j
of_sorted (Ok all) h = refl
of_sorted (Err refusal) h = h

-- where five entries were read, the first five were
pub five_read : (texts : List (List ℕ)) (es : List Entry) → canonical_entries_of texts ≡ Ok es → 5 ≤ length es → MayGrow texts
five_read texts es h five =
    let read : sorted_on 1 [] texts ≡ Ok es = sorted_as_read 1 [] texts ∙ h in
    let whole : IsOk (sorted_on 1 [] (take 5 texts ++ drop 5 texts)) = subst (λ (ps : List (List ℕ)). IsOk (sorted_on 1 [] ps)) (sym (take-append-drop 5 texts)) (subst (λ (r : Result (List Entry) AclError). IsOk r) (sym read) refl) in (
      omega (arith, sorted_longer 1 [] texts es read),
      of_sorted (entries_of (take 5 texts)) (subst (λ (r : Result (List Entry) AclError). IsOk r) (sorted_as_read 1 [] (take 5 texts)) (prefix_read 1 [] (take 5 texts) (drop 5 texts) whole)),
    )

-- where one more entry than four asks for memory, the first five were read
pub piece_grows : (texts left : List (List ℕ)) (piece : List ℕ) (rest : List (List ℕ)) (n : ℕ) (es : List Entry) →
    IsReadTo texts left n es → left ≡ piece ∷ rest → 4 ≤ length es → IsOk (piece_added n piece es) → MayGrow texts
piece_grows texts left piece rest n es r is four h =
    let r : IsReadTo texts (piece ∷ rest) n es = subst (λ (ls : List (List ℕ)). IsReadTo texts ls n es) is r in
    let known : List (List ℕ) = r.before ++ piece ∷ [] in
    let long : 5 ≤ length known = omega (arith, length-append r.before (piece ∷ []), r.many) in
    let all : texts ≡ known ++ rest = r.parts ∙ sym (append_assoc r.before (piece ∷ []) rest) in
    let read : IsOk (sorted_on 1 [] known) = subst (λ (j : Result (List Entry) AclError). IsOk j) (sym (one_read texts piece rest n es r)) (given (piece_added n piece es) h) in
    let five : IsOk (sorted_on 1 [] (take 5 known)) =
    prefix_read 1 [] (take 5 known) (drop 5 known) (subst (λ (ps : List (List ℕ)). IsOk (sorted_on 1 [] ps)) (sym (take-append-drop 5 known)) read) in
    let same : take 5 known ≡ take 5 texts = sym (ap (take 5) all ∙ take-append-le 5 known rest long) in (
      omega (arith, ap length all, length-append known rest),
      subst (λ (ps : List (List ℕ)). IsOk (entries_of ps)) same
          (of_sorted (entries_of (take 5 known)) (subst (λ (j : Result (List Entry) AclError). IsOk j) (sorted_as_read 1 [] (take 5 known)) five)),
    )
  where
    given : (j : Result (List Entry) AclError) → IsOk j → IsOk (j >>= λ more. Ok more)
    given (Ok more) h = refl
    given (Err refusal) h = h
