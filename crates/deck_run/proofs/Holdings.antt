-- What a writer holds after what was gathered, and what is still to come.
use Rattle.std.proofs.Common.{◌≡◌, ◌≤◌, ◌+◌, ℕ, true, List, [], ◌++◌, take, drop, Option, Some, None, refl, sym, ap, subst, ◌∙◌, arith, append_assoc, append-nil}
use Rattle.std.proofs.lemmas.List.{append_cancel_left, take-append-drop}
use Rattle.mon_device.specs.{Devices.{holding}, Putting.{Standing, Puts}}
use Rattle.mon_device.proofs.{Putting.{puts_nothing, puts_same, puts_then}, Holding.{holding-append, holding-nothing}}
use Rattle.deck_lines.specs.declared.deck_error.DeckError.{DeckError}
use Rattle.deck_driver.specs.declared.{feed.DeckFeed.{DeckFeed}, options.Counts.{Counts}, section.DeckState.{DeckState}}
use Rattle.deck_driver.specs.{Feeds.{Outcome, behind, refused_at, Bad, Begins, is_reading, error_at, may_grow, used_by}, inner.Counting.{lines_ended}}
use Rattle.deck_driver.{specs.Abstraction.{told, audit_told, Took, Begun as Beginning}, proofs.Parts.{ended_further}}
use Rattle.scheduler.specs.Marks.{Marks}
use Rattle.deck_driver.specs.declared.section.DeckState.TheVariants as state
use Rattle.mon_text.specs.Feeding.{taken_of}
use Rattle.deck_run.specs.{Runs.{HoldsBeginning}, inner.Writing.{Held, holds, HasGrown, Serves, Refuses, Starts, Stands, BrokeOffAt}}

pub kept : (w w' : Option (List ℕ)) (out out' x : List ℕ) → holding w' out' ≡ holding w out → holding w' (out' ++ x) ≡ holding w (out ++ x)
kept w w' out out' x same = sym (holding-append w' out' x) ∙ ap (λ h. holding h x) same ∙ holding-append w out x

-- some of what was gathered was written
pub kept_told : (w w' : Option (List ℕ)) (out out' : List ℕ) → holding w' out' ≡ holding w out
    → (m : Marks) (f : DeckFeed) (bytes : List ℕ) → holds w' (told m out' f bytes) ≡ holds w (told m out f bytes)
kept_told w w' out out' same m f bytes =
    let later = told m [] f bytes in
    ap (λ b. record { bytes = b; conclusion = later.conclusion }) (kept w w' out out' later.written same)

-- a part was taken, and some of what was gathered was written
pub serves_written : (w w' : Option (List ℕ)) (before mid after : List ℕ) (f g : DeckFeed) (part : List ℕ) (a b : Standing) → Took before f part mid g a b → holding w' after ≡ holding w mid
    → Serves w w' before f part after g a b
serves_written w w' before mid after f g part a b took put = record {
  marks = took.marks;
  is = λ rest bytes. kept_told w w' mid after put rest g bytes ∙ ap (holds w) (took.is rest bytes);
  audit = took.audit;
  tells = took.tells;
  audited = took.audited;
}

-- all that was gathered was written, and nothing follows
pub refused_holds : (w w' : Option (List ℕ)) (out : List ℕ) (counts : Counts) (n : ℕ) (code : DeckError) (o : Outcome) → w' ≡ holding w out
    → behind out counts (refused_at n code) ≡ o → holds w' (refused_at n code) ≡ holds w o
refused_holds w w' out counts n code o all same =
    ap (λ h. record { bytes = holding h []; conclusion = Bad n code }) all
    ∙ ap (λ h. record { bytes = h; conclusion = Bad n code }) (holding-append w out [])
    ∙ ap (holds w) same

-- nothing was written yet
pub nothing_held : (held : Option (List ℕ)) (text : List ℕ) → HoldsBeginning held held text
nothing_held held text = (text, ([], sym (holding-nothing held), refl))

-- a beginning of a beginning was written
pub held_begins : (held now : Option (List ℕ)) (out text : List ℕ) → HoldsBeginning held now out → Begins out text → HoldsBeginning held now text
held_begins held now out text h b =
    (h.0 ++ b.0, (h.1.0, h.1.1, b.1 ∙ ap (λ v. v ++ b.0) h.1.2 ∙ append_assoc h.1.0 h.0 b.0))

abbrev bytes_in : Option (List ℕ) → List ℕ
bytes_in (Some held) = held
bytes_in None = []

-- a beginning of all was written, and then one of the rest
pub held_further : (held mid now : Option (List ℕ)) (all rest : List ℕ) → HoldsBeginning held mid all → holding mid rest ≡ holding held all
    → HoldsBeginning mid now rest → HoldsBeginning held now all
held_further None mid now all rest h same further =
    (all, ([], further.1.1 ∙ ap (λ w. holding w further.1.0) h.1.1, refl))
held_further (Some before) mid now all rest h same further =
    let first = h.1.0 in
    let second = further.1.0 in
    let both : before ++ (first ++ rest) ≡ before ++ all = ap bytes_in (sym (holding-append (Some before) first rest) ∙ ap (λ w. holding w rest) (sym h.1.1) ∙ same) in (
      further.0,
      (
        first ++ second,
        further.1.1 ∙ ap (λ w. holding w second) h.1.1 ∙ holding-append (Some before) first second,
        sym (append_cancel_left before _ _ both) ∙ ap (λ v. first ++ v) further.1.2 ∙ sym (append_assoc first second further.0),
      ),
    )

pub not_grown : (held : Option (List ℕ)) → HasGrown held held
not_grown held = record { text = []; is = sym (holding-nothing held) }

pub has_grown : (held now : Option (List ℕ)) (text : List ℕ) → HoldsBeginning held now text → HasGrown held now
has_grown held now text h = record { text = h.1.0; is = h.1.1 }

pub grown_further : (held mid now : Option (List ℕ)) → HasGrown held mid → HasGrown mid now → HasGrown held now
grown_further held mid now first second = record {
  text = first.text ++ second.text;
  is = second.is ∙ ap (λ w. holding w second.text) first.is ∙ holding-append held first.text second.text;
}

-- what a writer has taken is a beginning of what it is to hold
grown_begins : (held mid : Option (List ℕ)) (all rest : List ℕ) → HasGrown held mid → holding mid rest ≡ holding held all → HoldsBeginning held mid all
grown_begins None mid all rest grown same = (all, ([], grown.is, refl))
grown_begins (Some before) mid all rest grown same =
    let both : before ++ (grown.text ++ rest) ≡ before ++ all = ap bytes_in (sym (holding-append (Some before) grown.text rest) ∙ ap (λ w. holding w rest) (sym grown.is) ∙ same) in
    (rest, (grown.text, grown.is, sym (append_cancel_left before _ _ both)))

-- so much was served, and what was written then begins the rest
pub grown_held : (held mid now : Option (List ℕ)) (before later : Outcome) → HasGrown held mid → holds mid later ≡ holds held before
    → HoldsBeginning mid now later.written → HoldsBeginning held now before.written
grown_held held mid now before later grown same further =
    let bytes = ap (λ (h : Held). h.bytes) same in
    held_further held mid now before.written later.written (grown_begins held mid before.written later.written grown bytes) bytes further

-- what was gathered was written, or a beginning of it
pub starts_written : (held now : Option (List ℕ)) (before after : List ℕ) (f : DeckFeed) (piece : List ℕ) (a b : Standing) → Beginning before f piece after a b
    → HoldsBeginning held now after → Starts held now before f piece a b
starts_written held now before after f piece a b begun written = record {
  marks = begun.marks;
  is = λ rest bytes. held_begins held now after (told (begun.marks ++ rest) before f (piece ++ bytes)).written written (begun.is rest bytes);
  audit = begun.audit;
  tells = begun.tells;
  audited = begun.audited;
}

-- what was gathered begins all that is to come
pub all_told : (held now : Option (List ℕ)) (before : List ℕ) (f : DeckFeed) (piece : List ℕ) (a b : Standing) → HoldsBeginning held now before → Puts a b [] → Starts held now before f piece a b
all_told held now before f piece a b written put = record {
  marks = [];
  is = λ rest bytes. held_begins held now before (told rest before f (piece ++ bytes)).written written ((told rest [] f (piece ++ bytes)).written, refl);
  audit = [];
  tells = λ rest bytes. (audit_told rest f (piece ++ bytes), refl);
  audited = put;
}

-- ---- an audit that writes what it has gathered

pub flushed : (a b c : Standing) (text : List ℕ) → Puts a b text → Puts b c [] → Puts a c text
flushed a b c text first put = puts_same a c (text ++ []) text (append-nil text) (puts_then a b c text [] first put)

pub serves_flushed : (held now : Option (List ℕ)) (before after : List ℕ) (f g : DeckFeed) (part : List ℕ) (a b c : Standing) → Serves held now before f part after g a b → Puts b c []
    → Serves held now before f part after g a c
serves_flushed held now before after f g part a b c serves put =
    record { marks = serves.marks; is = serves.is; audit = serves.audit; tells = serves.tells; audited = flushed a b c serves.audit serves.audited put }

pub starts_flushed : (held now : Option (List ℕ)) (before : List ℕ) (f : DeckFeed) (part : List ℕ) (a b c : Standing) → Starts held now before f part a b → Puts b c [] → Starts held now before f part a c
starts_flushed held now before f part a b c starts put =
    record { marks = starts.marks; is = starts.is; audit = starts.audit; tells = starts.tells; audited = flushed a b c starts.audit starts.audited put }

pub stands_flushed : (held now : Option (List ℕ)) (out : List ℕ) (start f : DeckFeed) (given : List ℕ) (a b c : Standing) → Stands held now out start f given a b → Puts b c []
    → Stands held now out start f given a c
stands_flushed held now out start f given a b c stands put =
    record { served = serves_flushed held now [] out start f given a b c stands.served put; counted = stands.counted; sound = stands.sound }

-- ---- where a feed stands

pub no_error : (s : DeckState) → is_reading s ≡ true → error_at s ≡ None
no_error (state.Reading section) reading = refl
no_error (state.Stopped w) reading = cc
no_error (state.Refused n code) reading = cc
no_error state.NoMemory reading = cc

-- where memory ran out, the deck was still read
pub still_read : (s : DeckState) (bytes : List ℕ) → error_at s ≡ None → may_grow s bytes ≡ true → is_reading s ≡ true
still_read (state.Reading section) bytes sound grows = refl
still_read (state.Stopped w) bytes sound grows = cc
still_read (state.Refused n code) bytes sound grows = cc
still_read state.NoMemory bytes sound grows = cc

-- where a deck is still read, a line is taken at once
pub taken_where_read : (s : DeckState) (piece : List ℕ) → is_reading s ≡ true → used_by s piece ≡ taken_of piece
taken_where_read (state.Reading section) piece reading = refl
taken_where_read (state.Stopped w) piece reading = cc
taken_where_read (state.Refused n code) piece reading = cc
taken_where_read state.NoMemory piece reading = cc

pub stands_at_start : (held : Option (List ℕ)) (gathered : List ℕ) (f : DeckFeed) (a : Standing) → gathered ≡ [] → error_at f.state ≡ None → Stands held held gathered f f [] a a
stands_at_start held gathered f a empty sound = record {
  served = record {
    marks = [];
    is = λ rest bytes. ap (λ (out : List ℕ). holds held (told rest out f bytes)) empty;
    audit = [];
    tells = λ rest bytes. refl;
    audited = puts_nothing a;
  };
  counted = λ reading. (reading, omega arith);
  sound = sound;
}

-- a part, and then another
module _ (held mid now : Option (List ℕ)) (before out : List ℕ) (start f : DeckFeed) (given : List ℕ) (a b c : Standing) (first : Serves held mid before start given out f a b) where
  -- what follows all of it
  pub both : (marks rest : Marks) (part bytes : List ℕ)
      → holds mid (told (marks ++ rest) out f (part ++ bytes)) ≡ holds held (told ((first.marks ++ marks) ++ rest) before start ((given ++ part) ++ bytes))
  both marks rest part bytes =
      first.is (marks ++ rest) (part ++ bytes)
      ∙ ap (λ (m : Marks). holds held (told m before start (given ++ (part ++ bytes)))) (sym (append_assoc first.marks marks rest))
      ∙ ap (λ (v : List ℕ). holds held (told ((first.marks ++ marks) ++ rest) before start v)) (sym (append_assoc given part bytes))

  -- and what it tells
  pub both_tell : (marks rest : Marks) (part bytes : List ℕ)
      → audit_told ((first.marks ++ marks) ++ rest) start ((given ++ part) ++ bytes) ≡ first.audit ++ audit_told (marks ++ rest) f (part ++ bytes)
  both_tell marks rest part bytes =
      ap (λ (m : Marks). audit_told m start ((given ++ part) ++ bytes)) (append_assoc first.marks marks rest)
      ∙ ap (λ (v : List ℕ). audit_told (first.marks ++ (marks ++ rest)) start v) (append_assoc given part bytes)
      ∙ first.tells (marks ++ rest) (part ++ bytes)

  pub serves_further : (after : List ℕ) (g : DeckFeed) (part : List ℕ) → Serves mid now out f part after g b c → Serves held now before start (given ++ part) after g a c
  serves_further after g part next = record {
    marks = first.marks ++ next.marks;
    is = λ rest bytes. next.is rest bytes ∙ both next.marks rest part bytes;
    audit = first.audit ++ next.audit;
    tells = λ rest bytes.
        both_tell next.marks rest part bytes ∙ ap (λ (l : List ℕ). first.audit ++ l) (next.tells rest bytes)
        ∙ sym (append_assoc first.audit next.audit (audit_told rest g bytes));
    audited = puts_then a b c first.audit next.audit first.audited next.audited;
  }

  pub refuses_further : (part : List ℕ) (n : ℕ) (code : DeckError) → Refuses mid now out f part n code b c → Refuses held now before start (given ++ part) n code a c
  refuses_further part n code next = record {
    marks = first.marks ++ next.marks;
    is = λ rest bytes. next.is rest bytes ∙ both next.marks rest part bytes;
    audit = first.audit ++ next.audit;
    tells = λ rest bytes. both_tell next.marks rest part bytes ∙ ap (λ (l : List ℕ). first.audit ++ l) (next.tells rest bytes);
    audited = puts_then a b c first.audit next.audit first.audited next.audited;
  }

  pub starts_further : (part : List ℕ) → HasGrown held mid → Starts mid now out f part b c → Starts held now before start (given ++ part) a c
  starts_further part grown next = record {
    marks = first.marks ++ next.marks;
    is = λ rest bytes.
        grown_held held mid now (told ((first.marks ++ next.marks) ++ rest) before start ((given ++ part) ++ bytes)) (told (next.marks ++ rest) out f (part ++ bytes)) grown
        (both next.marks rest part bytes) (next.is rest bytes);
    audit = first.audit ++ next.audit;
    tells = λ rest bytes.
        let more = next.tells rest bytes in
        (more.0, both_tell next.marks rest part bytes ∙ ap (λ (l : List ℕ). first.audit ++ l) more.1 ∙ sym (append_assoc first.audit next.audit more.0));
    audited = puts_then a b c first.audit next.audit first.audited next.audited;
  }

-- another part was taken
pub stands_further : (held mid now : Option (List ℕ)) (out out' : List ℕ) (start f g : DeckFeed) (given piece : List ℕ) (a b c : Standing)
    → Stands held mid out start f given a b → Serves mid now out f piece out' g b c
    → (is_reading g.state ≡ true → (is_reading f.state ≡ true) × (f.lines_taken + lines_ended piece ≤ g.lines_taken))
    → error_at g.state ≡ None → Stands held now out' start g (given ++ piece) a c
stands_further held mid now out out' start f g given piece a b c first served counted sound = record {
  served = serves_further held mid now [] out start f given a b c first.served out' g piece served;
  counted = λ reading.
      let here = counted reading in
      let before = first.counted here.0 in
      (before.0, omega (arith, here.1, before.1, ended_further given piece));
  sound = sound;
}

-- what was gathered was written
pub stands_written : (held mid now : Option (List ℕ)) (out out' : List ℕ) (start f : DeckFeed) (front : List ℕ) (a b : Standing) → holding now out' ≡ holding mid out
    → Stands held mid out start f front a b → Stands held now out' start f front a b
stands_written held mid now out out' start f front a b put stands = record {
  served = record {
    marks = stands.served.marks;
    is = λ rest bytes. kept_told mid now out out' put rest f bytes ∙ stands.served.is rest bytes;
    audit = stands.served.audit;
    tells = stands.served.tells;
    audited = stands.served.audited;
  };
  counted = stands.counted;
  sound = stands.sound;
}

-- so much of a piece was taken, and the rest is to come
pub record Far (held now : Option (List ℕ)) (out : List ℕ) (start f : DeckFeed) (piece rest : List ℕ) (a b : Standing) : Type 0 where
  pub front : List ℕ
  pub are : piece ≡ front ++ rest
  pub stands : Stands held now out start f front a b

pub far_at_start : (held : Option (List ℕ)) (out : List ℕ) (f : DeckFeed) (piece : List ℕ) (a : Standing) → out ≡ [] → error_at f.state ≡ None → Far held held out f f piece piece a a
far_at_start held out f piece a empty sound = record { front = []; are = refl; stands = stands_at_start held out f a empty sound }

module _ (held mid : Option (List ℕ)) (out : List ℕ) (start f : DeckFeed) (piece rest : List ℕ) (a b : Standing) (far : Far held mid out start f piece rest a b) where
  -- the rest begins so
  pub starts_far : (now : Option (List ℕ)) (c : Standing) → HasGrown held mid → Starts mid now out f rest b c → Starts held now [] start piece a c
  starts_far now c grown next =
      subst (λ (v : List ℕ). Starts held now [] start v a c) (sym far.are) (starts_further held mid now [] out start f far.front a b c far.stands.served rest grown next)

  -- or is refused
  pub refuses_far : (now : Option (List ℕ)) (n : ℕ) (code : DeckError) (c : Standing) → Refuses mid now out f rest n code b c → Refuses held now [] start piece n code a c
  refuses_far now n code c next =
      subst (λ (v : List ℕ). Refuses held now [] start v n code a c) (sym far.are) (refuses_further held mid now [] out start f far.front a b c far.stands.served rest n code next)

  pub further : (now : Option (List ℕ)) (out' : List ℕ) (g : DeckFeed) (used : ℕ) (c : Standing) → Serves mid now out f (take used rest) out' g b c
      → (is_reading g.state ≡ true → (is_reading f.state ≡ true) × (f.lines_taken + lines_ended (take used rest) ≤ g.lines_taken))
      → error_at g.state ≡ None → Far held now out' start g piece (drop used rest) a c
  further now out' g used c served counted sound = record {
    front = far.front ++ take used rest;
    are = far.are ∙ ap (λ v. far.front ++ v) (sym (take-append-drop used rest)) ∙ sym (append_assoc far.front (take used rest) (drop used rest));
    stands = stands_further held mid now out out' start f g far.front (take used rest) a b c far.stands served counted sound;
  }

  -- the whole piece was taken, and all that was gathered is written
  pub all_taken : (now : Option (List ℕ)) (out' : List ℕ) → rest ≡ [] → holding now out' ≡ holding mid out → out' ≡ [] → Stands held now [] start f piece a b
  all_taken now out' none put empty =
      let same : piece ≡ far.front = far.are ∙ ap (λ v. far.front ++ v) none ∙ append-nil far.front in
      subst (λ (v : List ℕ). Stands held now [] start f v a b) (sym same)
      (subst (λ (o : List ℕ). Stands held now o start f far.front a b) empty (stands_written held mid now out out' start f far.front a b put far.stands))

  -- memory ran out at this line
  pub breaks_off : (now : Option (List ℕ)) (first line : ℕ) (c : Standing) (more : List ℕ) → is_reading f.state ≡ true → now ≡ holding mid out
      → (is_reading f.state ≡ true → line + lines_ended rest ≡ first + lines_ended piece) → Puts b c more → BrokeOffAt held now start piece first line a c
  breaks_off now first line c more reading all due ahead = record {
    broke = record {
      front = far.front;
      back = rest;
      are = far.are;
      feed = f;
      mid = b;
      stands = stands_written held mid now out [] start f far.front a b (holding-nothing now ∙ all) far.stands;
      more = more;
      ahead = ahead;
      reading = reading;
    };
    line_is = let here = due reading in let parts = ap lines_ended far.are in omega (arith, here, parts, ended_further far.front rest);
  }
