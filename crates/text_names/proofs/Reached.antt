-- Where a text has come to after some lines, and what was found in them.
use Rattle.std.proofs.Common.{◌≡◌, ℕ, ◌+◌, Bool, true, false, List, [], ◌∷◌, ◌++◌, Option, Some, None, refl, sym, ap, ◌∙◌, append_assoc, append-nil}
use Rattle.std.specs.{Prelude.{◌||◌, option_map}, Option.{option_or, option_map_or}, Str.Lines.{lines}}
use Rattle.deck_lines.specs.declared.deck_error.DeckError.{DeckError}
use Rattle.deck_syntax.specs.Events.{event_in, open_after, refusal_in}
use Rattle.deck_syntax.specs.{Decks.{Asked}, Sections.{Open, Closed, InList, InJob}}
use Rattle.preflight.specs.{declared.why.Why.{Why}, declared.why.Why.TheVariants.{Line}, Examined.{IsSubmission, Verdict, Admits, Refuses}}
use Rattle.preflight.{specs.inner.Reading.{asks_of, refused_to, why_in, and_then, all_then, at_end, examined}, proofs.Exactly.{admits_exactly}}
use Rattle.text_names.specs.{declared.reading.Found.{Found}, Names.{names_of, is_of_all, names_in, asks_all, Speaks}}
use Rattle.text_names.specs.inner.Lines.{names_brought, all_brought, Follows}

-- of a text that is admitted this is left
pub record Left (own : List ℕ) (place : Open) (names : List (List ℕ)) (all : Bool) (left : List ℕ) (asked : List Asked) : Type 0 where
  pub number : ℕ
  pub later : List Asked
  pub is : examined own number place (lines left) ≡ Admits later
  pub names_are : names_in asked ≡ names ++ names_in later
  pub all_is : asks_all asked ≡ (all || asks_all later)

abbrev pub Reached : List ℕ → Open → List (List ℕ) → Bool → List ℕ → Type 0
Reached text place names all left =
    (own : List ℕ) (asked : List Asked) → examined own 1 Closed (lines text) ≡ Admits asked → Left own place names all left asked

pub at_first : (text : List ℕ) → Reached text Closed [] false text
at_first text own asked is = record { number = 1; later = asked; is = is; names_are = refl; all_is = refl }

-- WHAT IS ASKED FIRST, AND THEN

names_then : (first later : List Asked) → names_in (first ++ later) ≡ names_in first ++ names_in later
names_then [] later = refl
names_then (one ∷ first) later = ap (λ (l : List (List ℕ)). names_of one ++ l) (names_then first later) ∙ sym (append_assoc (names_of one) (names_in first) (names_in later))

or_assoc : (a b c : Bool) → (a || (b || c)) ≡ ((a || b) || c)
or_assoc true b c = refl
or_assoc false b c = refl

all_first : (first later : List Asked) → asks_all (first ++ later) ≡ (asks_all first || asks_all later)
all_first [] later = refl
all_first (one ∷ first) later = ap (λ (b : Bool). is_of_all one || b) (all_first first later) ∙ or_assoc (is_of_all one) (asks_all first) (asks_all later)

-- of a verdict behind what is asked first
pub record Behind (first : List Asked) (v : Verdict) (asked : List Asked) : Type 0 where
  pub later : List Asked
  pub is : v ≡ Admits later
  pub all : asked ≡ first ++ later

one_behind : (one : Asked) (v : Verdict) (asked : List Asked) → and_then one v ≡ Admits asked → Behind (one ∷ []) v asked
one_behind one (Admits later) asked h = record { later = later; is = refl; all = (let same : one ∷ later ≡ asked = cc (h) in sym same) }
one_behind one (Refuses n why) asked h = absurd cc

pub behind : (first : List Asked) (v : Verdict) (asked : List Asked) → all_then first v ≡ Admits asked → Behind first v asked
behind [] v asked h = record { later = asked; is = h; all = refl }
behind (one ∷ first) v asked h =
    let outer = one_behind one (all_then first v) asked h in
    let inner = behind first v outer.later outer.is in
    record { later = inner.later; is = inner.is; all = outer.all ∙ ap (λ (l : List Asked). one ∷ l) inner.all }

-- ONE LINE MORE

pub not_refused : (n : ℕ) (w : Option Why) (v : Verdict) (asked : List Asked) → option_map_or (Refuses n) w v ≡ Admits asked → (w ≡ None) × (v ≡ Admits asked)
not_refused n None v asked h = (refl, h)
not_refused n (Some why) v asked h = absurd cc

pub none_of : (o : Option DeckError) (p : Option Why) → option_or (option_map Line o) p ≡ None → o ≡ None
none_of None p h = refl
none_of (Some code) p h = absurd cc

module _ (text : List ℕ) (place : Open) (before : Found) (left line rest : List ℕ) (reached : Reached text place before.names.items before.all left) (cut : lines left ≡ line ∷ lines rest) where
  pub line_more : (next : Open) (after : Found) → (refusal_in place line ≡ None → Follows before after next (open_after place line) (event_in place line))
      → Reached text next after.names.items after.all rest
  line_more next after follows own asked is =
      let here = reached own asked is in
      let event = event_in place line in
      let at = not_refused here.number (why_in own place line) (all_then (asks_of event) (examined own (here.number + 1) (open_after place line) (lines rest))) here.later
      (sym (ap (examined own here.number place) cut) ∙ here.is) in
      let good = follows (none_of (refusal_in place line) (refused_to own event) at.0) in
      let more = behind (asks_of event) (examined own (here.number + 1) (open_after place line) (lines rest)) here.later at.1 in
      record {
        number = here.number + 1;
        later = more.later;
        is = ap (λ (o : Open). examined own (here.number + 1) o (lines rest)) good.place_is ∙ more.is;
        names_are =
            here.names_are
            ∙ ap (λ (l : List Asked). before.names.items ++ names_in l) more.all
            ∙ ap (λ (l : List (List ℕ)). before.names.items ++ l) (names_then (asks_of event) more.later)
            ∙ sym (append_assoc before.names.items (names_brought event) (names_in more.later))
            ∙ ap (λ (l : List (List ℕ)). l ++ names_in more.later) (sym good.names_are);
        all_is =
            here.all_is
            ∙ ap (λ (l : List Asked). before.all || asks_all l) more.all
            ∙ ap (λ (b : Bool). before.all || b) (all_first (asks_of event) more.later)
            ∙ or_assoc before.all (all_brought event) (asks_all more.later)
            ∙ ap (λ (b : Bool). b || asks_all more.later) (sym good.all_is);
      }

-- AT THE END

pub or_false : (a : Bool) → (a || false) ≡ a
or_false true = refl
or_false false = refl

pub or_true : (a : Bool) → (a || true) ≡ true
or_true true = refl
or_true false = refl

pub and_nothing : (names : List (List ℕ)) → names ++ [] ≡ names
and_nothing names = append-nil names

pub at_last : (text : List ℕ) (place : Open) (names : List (List ℕ)) (all : Bool) (left : List ℕ) → left ≡ [] → Reached text place names all left
    → (own : List ℕ) (asked : List Asked) → IsSubmission own (lines text) asked → Speaks names all asked
at_last text place names all left none reached own asked submitted =
    let here = reached own asked ((admits_exactly own (lines text) asked).1 submitted) in
    by place here.number here.later (sym (ap (λ (l : List ℕ). examined own here.number place (lines l)) none) ∙ here.is) here.names_are here.all_is
  where
    by : (place : Open) (n : ℕ) (later : List Asked) → at_end n place ≡ Admits later → names_in asked ≡ names ++ names_in later → asks_all asked ≡ (all || asks_all later)
        → Speaks names all asked
    by Closed n [] h names_are all_is = record { names_are = sym (names_are ∙ append-nil names); all_is = sym (all_is ∙ or_false all) }
    by Closed n (one ∷ later) h names_are all_is = absurd (let c : [] ≡ one ∷ later = cc (h) in cc)
    by (InList list) n later h names_are all_is = absurd cc
    by (InJob job) n later h names_are all_is = absurd cc
