-- A run, read by read.
use Rattle.std.proofs.Common.{◌≡◌, ℕ, true, false, List, [], ◌++◌, length, Option, Some, None, IfSome, IfOk, OnOk, OnErr, Result, Ok, Err, refl, sym, ap, ◌∙◌, subst, append_assoc, append-nil, if◌then◌else◌, ◌+◌, arith, ◌≤◌, length-append}
use Rattle.std.proofs.lemmas.Bool.Decides.{nat_tests}
use Rattle.mon_catalogue.specs.Sets.{Sets}
use Rattle.scheduler.specs.Marks.{Marks}
use Rattle.mon_device.specs.{declared.transfer.TheConstants.{READ_SIZE}, Devices.{holding, Gives, IsAtEnd, HasRead}, Putting.{Standing, Puts}}
use Rattle.mon_device.proofs.{Putting.{puts_nothing, puts_same, puts_then}, Holding.{holding-nothing}}
use Rattle.deck_driver.specs.{Audits.{audit_for}, declared.feed.DeckFeed.{DeckFeed}, declared.fault.RunError.{RunError}, declared.options.Counts.{Counts}}
use Rattle.deck_driver.specs.{declared.fault.RunError.TheVariants.{ReadFault, Memory}, declared.options.Options.{Options}, Printouts.{output_of, ReadsBack}}
use Rattle.deck_driver.specs.{RunStates.{RunState, sets_after, all_counted, nothing_counted}, Abstraction.{told, audit_told}}
use Rattle.deck_driver.specs.Feeds.{outcome_of, refused_at, is_reading, IsReadBack, concluded, sets_left, Outcome, Conclusion, Good, Bad, Begins}
use Rattle.deck_driver.proofs.Parts.{ended_further}
use Rattle.deck_lines.specs.declared.deck_error.DeckError.{DeckError}
use Rattle.deck_syntax.specs.Decks.{Ending, Stopped, Refused}
use Rattle.deck_run.specs.Runs.{deck_ending, run_state_of, counts_of, HoldsBeginning, HasWritten, HasRun, HasBegun}
use Rattle.deck_run.specs.inner.Writing.{Held, holds, Begun, Runs, Refuses, Starts, Stands, IsDue, BrokeOffAt, BrokeAt}
use Rattle.deck_run.proofs.Holdings.{flushed, nothing_held, held_begins, not_grown, has_grown, grown_further, grown_held, no_error, stands_at_start, stands_further, refuses_further, starts_further}

pub gives_nothing : (told : Option (List ℕ)) → Gives told [] told
gives_nothing None = tt
gives_nothing (Some all) = refl

pub gives_more : (told left after : Option (List ℕ)) (given piece : List ℕ) → Gives told given left → Gives left piece after → Gives told (given ++ piece) after
gives_more None left after given piece a b = tt
gives_more (Some all) None after given piece a b = absurd a
gives_more (Some all) (Some left) None given piece a b = absurd b
gives_more (Some all) (Some left) (Some after) given piece a b = a ∙ ap (λ v. given ++ v) b ∙ sym (append_assoc given piece after)

-- nothing was read yet
pub begun_at_start : (given_by held : Option (List ℕ)) (f : DeckFeed) (a : Standing) → Begun given_by given_by held held f [] a a
begun_at_start given_by held f a = record {
  gives = gives_nothing given_by;
  starts = record {
    marks = [];
    is = λ rest bytes. nothing_held held (told rest [] f bytes).written;
    audit = [];
    tells = λ rest bytes. (audit_told rest f bytes, refl);
    audited = puts_nothing a;
  };
}

pub begins : (given_by held : Option (List ℕ)) (f : DeckFeed) (a : Standing) → is_reading f.state ≡ true → Runs given_by given_by held held f f [] a a
begins given_by held f a reading =
    record { so_far = begun_at_start given_by held f a; grown = not_grown held; stands = stands_at_start held [] f a refl (no_error f.state reading) }

-- nothing was put
pub silent_put : (a b : Standing) → b ≡ a → Puts a b []
silent_put a b same = subst (λ (y : Standing). Puts a y []) (sym same) (puts_nothing a)

-- a read fault of another call
pub fault_so : {T U : Type 0} (error : RunError) → ◌≡◌ {A = Result T RunError} (Err error) (Err ReadFault) → ◌≡◌ {A = Result U RunError} (Err error) (Err ReadFault)
fault_so error same = let is : error ≡ ReadFault = cc in ap Err is

-- nothing was read, and the run broke off at the first line
pub broke_at_start : (given_by held : Option (List ℕ)) (f : DeckFeed) (line : ℕ) (a : Standing) → line ≡ 1 → is_reading f.state ≡ true → (all : List ℕ) × BrokeAt given_by given_by held held f all 1 line a a
broke_at_start given_by held f line a is reading = (
  [],
  record {
    run = record {
      gives = gives_nothing given_by;
      broke = record {
        front = [];
        back = [];
        are = refl;
        feed = f;
        mid = a;
        stands = stands_at_start held [] f a refl (no_error f.state reading);
        more = [];
        ahead = puts_nothing a;
        reading = reading;
      };
      last = omega arith;
    };
    line_is = is;
  },
)

-- want of memory in another call
pub memory_so : {T U : Type 0} (error : RunError) → ◌≡◌ {A = Result T RunError} (Err error) (Err Memory) → ◌≡◌ {A = Result U RunError} (Err error) (Err Memory)
memory_so error same = let is : error ≡ Memory = cc in ap Err is

-- reads are counted
pub none_read : (reads : ℕ) → HasRead 0 reads reads
none_read reads = grind (arith, nat_tests)

-- what a device tells of itself stays
pub at_read : (given_by left held now now' : Option (List ℕ)) (start f : DeckFeed) (given : List ℕ) (a b : Standing) → now' ≡ now → Runs given_by left held now start f given a b
    → Runs given_by left held now' start f given a b
at_read given_by left held now now' start f given a b same runs = subst (λ (n : Option (List ℕ)). Runs given_by left held n start f given a b) (sym same) runs

-- the reader gave nothing more
pub none_given : (given_by left after held now : Option (List ℕ)) (start f : DeckFeed) (given piece : List ℕ) (a b : Standing) → piece ≡ [] → Gives left piece after
    → Runs given_by left held now start f given a b → Runs given_by after held now start f given a b
none_given given_by left after held now start f given piece a b none gives runs = record {
  so_far = record {
    gives = subst (λ v. Gives given_by v after) (ap (λ p. given ++ p) none ∙ append-nil given) (gives_more given_by left after given piece runs.so_far.gives gives);
    starts = runs.so_far.starts;
  };
  grown = runs.grown;
  stands = runs.stands;
}

pub given_same : (given_by left after : Option (List ℕ)) (given : List ℕ) → after ≡ left → Gives given_by given left → Gives given_by given after
given_same given_by left after given same gives = subst (λ (l : Option (List ℕ)). Gives given_by given l) (sym same) gives

module _ (given_by left held now : Option (List ℕ)) (start f : DeckFeed) (given : List ℕ) (a b : Standing) (runs : Runs given_by left held now start f given a b) where
  -- another piece was read, and a beginning of what comes of it was written
  pub begun_further : (piece : List ℕ) (after now' : Option (List ℕ)) (c : Standing) → Gives left piece after → Starts now now' [] f piece b c → Begun given_by after held now' start (given ++ piece) a c
  begun_further piece after now' c gives starts = record {
    gives = gives_more given_by left after given piece runs.so_far.gives gives;
    starts = starts_further held now now' [] [] start f given a b c runs.stands.served piece runs.grown starts;
  }

  pub goes_on : (piece : List ℕ) (after now' : Option (List ℕ)) (f' : DeckFeed) (c : Standing) → Gives left piece after → Stands now now' [] f f' piece b c → Starts now now' [] f piece b c
      → Runs given_by after held now' start f' (given ++ piece) a c
  goes_on piece after now' f' c gives step starts = record {
    so_far = begun_further piece after now' c gives starts;
    grown = grown_further held now now' runs.grown (has_grown now now' (told (starts.marks ++ []) [] f (piece ++ [])).written (starts.is [] []));
    stands = stands_further held now now' [] [] start f f' given piece a b c runs.stands step.served step.counted step.sound;
  }

  -- another piece was read, and behind it a line is due
  pub due_further : (piece : List ℕ) (f' : DeckFeed) (first line line' : ℕ) → IsDue first line f given → IsDue line line' f' piece
      → (is_reading f'.state ≡ true → is_reading f.state ≡ true) → IsDue first line' f' (given ++ piece)
  due_further piece f' first line line' before here read reading =
      let was = before (read reading) in
      let is = here reading in
      omega (arith, was, is, ended_further given piece)

  -- the run broke off within another piece
  pub broke_within : (piece : List ℕ) (after now' : Option (List ℕ)) (first line line' : ℕ) (c : Standing) → length piece ≤ READ_SIZE → Gives left piece after → IsDue first line f given
      → BrokeOffAt now now' f piece line line' b c → (all : List ℕ) × BrokeAt given_by after held now' start all first line' a c
  broke_within piece after now' first line line' c size gives due at = (
    given ++ piece,
    record {
      run = record {
        gives = gives_more given_by left after given piece runs.so_far.gives gives;
        broke = record {
          front = given ++ at.broke.front;
          back = at.broke.back;
          are = ap (λ v. given ++ v) at.broke.are ∙ sym (append_assoc given at.broke.front at.broke.back);
          feed = at.broke.feed;
          mid = at.broke.mid;
          stands = stands_further held now now' [] [] start f at.broke.feed given at.broke.front a b at.broke.mid runs.stands at.broke.stands.served at.broke.stands.counted at.broke.stands.sound;
          more = at.broke.more;
          ahead = at.broke.ahead;
          reading = at.broke.reading;
        };
        last = let parts : length piece ≡ length at.broke.front + length at.broke.back = ap length at.broke.are ∙ length-append at.broke.front at.broke.back in omega (arith, parts, size);
      };
      line_is = let was = due (at.broke.stands.counted at.broke.reading).0 in omega (arith, was, at.line_is, ended_further given at.broke.front);
    },
  )

  -- or behind all that was given
  pub broke_behind : (now' : Option (List ℕ)) (first line : ℕ) (c : Standing) (more : List ℕ) → now' ≡ now → is_reading f.state ≡ true → IsDue first line f given → Puts b c more
      → (all : List ℕ) × BrokeAt given_by left held now' start all first line a c
  broke_behind now' first line c more same reading due ahead = (
    given,
    record {
      run = record {
        gives = runs.so_far.gives;
        broke = record {
          front = given;
          back = [];
          are = sym (append-nil given);
          feed = f;
          mid = b;
          stands = subst (λ (n : Option (List ℕ)). Stands held n [] start f given a b) (sym same) runs.stands;
          more = more;
          ahead = ahead;
          reading = reading;
        };
        last = omega arith;
      };
      line_is = due reading;
    },
  )

  -- the reader is at its end
  pub whole : (c : Standing) → IsAtEnd left → (o : Held) (marks : Marks) → o ≡ holds now (told marks [] f []) → Puts b c (audit_told marks f [])
      → IfSome given_by (λ bytes. (all : Marks) × (o ≡ holds held (told all [] start bytes)) × Puts a c (audit_told all start bytes))
  whole c end o marks is put = by given_by left runs.so_far.gives end
    where
      all : Marks
      all = runs.stands.served.marks ++ marks

      by : (t l : Option (List ℕ)) → Gives t given l → IsAtEnd l → IfSome t (λ bytes. (all : Marks) × (o ≡ holds held (told all [] start bytes)) × Puts a c (audit_told all start bytes))
      by None l g e = tt
      by (Some bytes) None g e = absurd g
      by (Some bytes) (Some rest) g e =
          let same : given ++ [] ≡ bytes = ap (λ v. given ++ v) (sym e) ∙ sym g in (
            all,
            is ∙ runs.stands.served.is marks [] ∙ ap (λ v. holds held (told all [] start v)) same,
            puts_same a c (runs.stands.served.audit ++ audit_told marks f []) (audit_told all start bytes)
                (sym (runs.stands.served.tells marks []) ∙ ap (λ v. audit_told all start v) same)
                (puts_then a b c runs.stands.served.audit (audit_told marks f []) runs.stands.served.audited put),
          )

  -- the deck is refused in the middle, whatever follows
  pub midway : (piece : List ℕ) (after now' : Option (List ℕ)) (n : ℕ) (code : DeckError) (c : Standing) → Gives left piece after → Refuses now now' [] f piece n code b c
      → IfSome given_by (λ bytes. (marks : Marks) × (holds now' (refused_at n code) ≡ holds held (told marks [] start bytes)) × Puts a c (audit_told marks start bytes))
  midway piece after now' n code c gives refuses = by given_by after (gives_more given_by left after given piece runs.so_far.gives gives)
    where
      all : Refuses held now' [] start (given ++ piece) n code a c
      all = refuses_further held now now' [] [] start f given a b c runs.stands.served piece n code refuses

      by : (t l : Option (List ℕ)) → Gives t (given ++ piece) l
          → IfSome t (λ bytes. (marks : Marks) × (holds now' (refused_at n code) ≡ holds held (told marks [] start bytes)) × Puts a c (audit_told marks start bytes))
      by None l g = tt
      by (Some bytes) None g = absurd g
      by (Some bytes) (Some more) g = (
        all.marks ++ [],
        all.is [] more ∙ ap (λ v. holds held (told (all.marks ++ []) [] start v)) (sym g),
        puts_same a c all.audit (audit_told (all.marks ++ []) start bytes) (sym (all.tells [] more) ∙ ap (λ v. audit_told (all.marks ++ []) start v) (sym g)) all.audited,
      )

-- ---- the reader is at its end

-- all that was put out is written
all_written : (held now : Option (List ℕ)) (out : List ℕ) (c : Conclusion) → now ≡ holding held out
    → ◌≡◌ {A = Held} (holds now (record { written = []; conclusion = c })) (holds held (record { written = out; conclusion = c }))
all_written held now out c all = ap (λ h. record { bytes = h; conclusion = c }) (holding-nothing now ∙ all)

module _ (held now : Option (List ℕ)) (before after : List ℕ) (f : DeckFeed) (empty : before ≡ []) where
  ends_with : (c : Conclusion) (marks : Marks) → now ≡ holding held after → ((rest : Marks) → told (marks ++ rest) before f [] ≡ record { written = after; conclusion = c })
      → holds now (record { written = []; conclusion = c }) ≡ holds held (told (marks ++ []) [] f [])
  ends_with c marks all is = all_written held now after c all ∙ ap (holds held) (sym (is []) ∙ ap (λ (out : List ℕ). told (marks ++ []) out f []) empty)

  pub finish_ended : (a b c : Standing) → now ≡ holding held after → Puts b c [] → (result : Result Counts RunError)
      → IfOk result (λ counts. (marks : Marks) × (sets : Sets) × ((rest : Marks) → told (marks ++ rest) before f [] ≡ record { written = after; conclusion = Good counts sets })
      × (audited : List ℕ) × ((rest : Marks) → audit_told (marks ++ rest) f [] ≡ audited) × Puts a b audited
      × (IsReadBack f.options.check f.state → f.options.check ≡ false → ReadsBack sets))
      → IfOk result (λ counts. (marks : Marks) × (sets : Sets) × (holds now (record { written = []; conclusion = Good counts sets }) ≡ holds held (told marks [] f []))
      × Puts a c (audit_told marks f []) × (IsReadBack f.options.check f.state → f.options.check ≡ false → ReadsBack sets))
  finish_ended a b c all last (Err error) ended = tt
  finish_ended a b c all last (Ok counts) (marks, sets, is, audited, tells, put, reads) =
      (marks ++ [], sets, ends_with (Good counts sets) marks all is, puts_same a c audited (audit_told (marks ++ []) f []) (sym (tells [])) (flushed a b c audited put last), reads)

  pub finish_refused : (a b c : Standing) → now ≡ holding held after → Puts b c [] → (n : ℕ) (code : DeckError)
      → (marks : Marks) × ((rest : Marks) → told (marks ++ rest) before f [] ≡ record { written = after; conclusion = Bad n code })
      × (audited : List ℕ) × ((rest : Marks) → audit_told (marks ++ rest) f [] ≡ audited) × Puts a b audited
      → (marks : Marks) × (holds now (refused_at n code) ≡ holds held (told marks [] f [])) × Puts a c (audit_told marks f [])
  finish_refused a b c all last n code (marks, is, audited, tells, put) =
      (marks ++ [], ends_with (Bad n code) marks all is, puts_same a c audited (audit_told (marks ++ []) f []) (sym (tells [])) (flushed a b c audited put last))

  pub finish_begun : (a b c : Standing) → HoldsBeginning held now after → Puts b c [] → (marks : Marks) × ((rest : Marks) → Begins after (told (marks ++ rest) before f []).written)
      × (audited : List ℕ) × ((rest : Marks) → Begins audited (audit_told (marks ++ rest) f [])) × Puts a b audited
      → (marks : Marks) × ((rest : Marks) → HoldsBeginning held now (told (marks ++ rest) [] f []).written)
      × (audited : List ℕ) × ((rest : Marks) → Begins audited (audit_told (marks ++ rest) f [])) × Puts a c audited
  finish_begun a b c written last h = (
    h.0,
    λ rest. held_begins held now after (told (h.0 ++ rest) [] f []).written written (subst (λ (out : List ℕ). Begins after (told (h.0 ++ rest) out f []).written) empty (h.1 rest)),
    h.2,
    h.3,
    flushed a b c h.2 h.4 last,
  )

-- how a deck came out
abbrev counts_in : Conclusion → Counts
counts_in (Good counts sets) = counts
counts_in (Bad n code) = nothing_counted

abbrev sets_in : Conclusion → Sets
sets_in (Good counts sets) = sets
sets_in (Bad n code) = []

abbrev ending_in : Conclusion → Ending
ending_in (Good counts sets) = Stopped
ending_in (Bad n code) = Refused n code

same_ending : (ending : Ending) (counts : Counts) (sets : Sets) → ending_in (concluded counts sets ending) ≡ ending
same_ending Stopped counts sets = refl
same_ending (Refused n code) counts sets = refl

pub record IsGood (options : Options) (held now : Option (List ℕ)) (a b : Standing) (counts : Counts) (bytes : List ℕ) : Type 0 where
  pub stopped : deck_ending bytes ≡ Stopped
  pub counts_are : counts ≡ counts_of bytes
  pub output : HasRun options held now bytes a b

-- what a run comes to that begins so
abbrev pub Opens : Options → DeckFeed → Type 0
Opens options start = (m : Marks) (bytes : List ℕ) → told m [] start bytes ≡ outcome_of options.check 0 m (run_state_of options bytes)

-- and it tells an audit so
abbrev pub Tells : Options → DeckFeed → Type 0
Tells options start = (m : Marks) (bytes : List ℕ) → audit_told m start bytes ≡ audit_for options m bytes

module _ (options : Options) (held now : Option (List ℕ)) (a b : Standing) (m : Marks) (bytes : List ℕ) where
  abbrev run_state : RunState
  run_state = run_state_of options bytes

  ended_so : (c : Conclusion) → c ≡ concluded (all_counted run_state.cards.asked) (sets_left options.check 0 m run_state) run_state.cards.ending → ending_in c ≡ run_state.cards.ending
  ended_so c e = ap ending_in e ∙ same_ending run_state.cards.ending (all_counted run_state.cards.asked) (sets_left options.check 0 m run_state)

  written_so : (c : Conclusion) → ◌≡◌ {A = Held} (record { bytes = holding now []; conclusion = c }) (holds held (outcome_of options.check 0 m run_state)) → now ≡ holding held (output_of options m bytes)
  written_so c e = sym (holding-nothing now) ∙ ap (λ (h : Held). h.bytes) e

  good : (counts : Counts) (sets : Sets) → ◌≡◌ {A = Held} (record { bytes = holding now []; conclusion = Good counts sets }) (holds held (outcome_of options.check 0 m run_state))
      → Puts a b (audit_for options m bytes) → (options.check ≡ false → ReadsBack sets) → IsGood options held now a b counts bytes
  good counts sets e put back =
      let c = ap (λ (h : Held). h.conclusion) e in
      let stopped : Stopped ≡ run_state.cards.ending = ended_so _ c in
      let left = sets_left options.check 0 m run_state in
      let same : Good counts sets ≡ Good (all_counted run_state.cards.asked) left = c ∙ ap (λ (en : Ending). concluded (all_counted run_state.cards.asked) left en) (sym stopped) in
      record {
        stopped = sym stopped;
        counts_are = ap counts_in same;
        output = (
          m,
          written_so _ e,
          put,
          λ no. subst ReadsBack (ap sets_in same ∙ ap (λ b. if b then run_state.system.scheduler.sets else sets_after 0 m run_state) no) (back no),
        );
      }

  pub bad : (n : ℕ) (code : DeckError) → ◌≡◌ {A = Held} (record { bytes = holding now []; conclusion = Bad n code }) (holds held (outcome_of options.check 0 m run_state))
      → Puts a b (audit_for options m bytes) → (deck_ending bytes ≡ Refused n code) × HasWritten options held now bytes a b
  bad n code e put = (sym (ended_so _ (ap (λ (h : Held). h.conclusion) e)), (m, written_so _ e, put))

pub if_some : (told : Option (List ℕ)) (P Q : List ℕ → Type 0) → ((bytes : List ℕ) → P bytes → Q bytes) → IfSome told P → IfSome told Q
if_some None P Q f p = tt
if_some (Some bytes) P Q f p = f bytes p

-- how a run ended, with some marks
abbrev pub EndsSo : Options → Option (List ℕ) → Standing → Standing → Held → List ℕ → Type 0
EndsSo options held a b o bytes = (m : Marks) × (o ≡ holds held (outcome_of options.check 0 m (run_state_of options bytes))) × Puts a b (audit_for options m bytes)

-- a run to the reader's end
module _ (options : Options) (given_by left held now now' : Option (List ℕ)) (start f : DeckFeed) (given : List ℕ) (a b c : Standing) (runs : Runs given_by left held now start f given a b)
    (end : IsAtEnd left) (begin : Opens options start) (tells : Tells options start) where
  from_start : (o : Held) (marks : Marks) → o ≡ holds now (told marks [] f []) → Puts b c (audit_told marks f []) → IfSome given_by (EndsSo options held a c o)
  from_start o marks is put =
      if_some given_by _ _ (λ bytes e. (e.0, e.1 ∙ ap (holds held) (begin e.0 bytes), puts_same a c (audit_told e.0 start bytes) (audit_for options e.0 bytes) (tells e.0 bytes) e.2))
      (whole given_by left held now start f given a b runs c end o marks is put)

  pub run_good : IsReadBack f.options.check f.state → f.options.check ≡ options.check → (result : Result Counts RunError)
      → IfOk result (λ counts. (marks : Marks) × (sets : Sets) × (holds now' (record { written = []; conclusion = Good counts sets }) ≡ holds now (told marks [] f []))
      × Puts b c (audit_told marks f []) × (IsReadBack f.options.check f.state → f.options.check ≡ false → ReadsBack sets))
      → IfOk result (λ counts. IfSome given_by (IsGood options held now' a c counts))
  run_good back same (Err error) ended = tt
  run_good back same (Ok counts) (marks, sets, is, put, reads) =
      if_some given_by _ _ (λ bytes (e : EndsSo options held a c (holds now' (record { written = []; conclusion = Good counts sets })) bytes).
      good options held now' a c e.0 bytes counts sets e.1 e.2 (λ no. reads back (same ∙ no))) (from_start _ marks is put)

  pub run_bad : (n : ℕ) (code : DeckError) (marks : Marks) → holds now' (refused_at n code) ≡ holds now (told marks [] f []) → Puts b c (audit_told marks f [])
      → IfSome given_by (λ bytes. (deck_ending bytes ≡ Refused n code) × HasWritten options held now' bytes a c)
  run_bad n code marks is put =
      if_some given_by _ _ (λ bytes (e : EndsSo options held a c (holds now' (refused_at n code)) bytes). bad options held now' a c e.0 bytes n code e.1 e.2) (from_start _ marks is put)

pub met_bad : (options : Options) (given_by held now' : Option (List ℕ)) (start : DeckFeed) (a b : Standing) → Opens options start → Tells options start
    → (n : ℕ) (code : DeckError)
    → IfSome given_by (λ bytes. (marks : Marks) × (holds now' (refused_at n code) ≡ holds held (told marks [] start bytes)) × Puts a b (audit_told marks start bytes))
    → IfSome given_by (λ bytes. (deck_ending bytes ≡ Refused n code) × HasWritten options held now' bytes a b)
met_bad options given_by held now' start a b begin tells n code met =
    if_some given_by _ _ (λ bytes (e : (marks : Marks) × (holds now' (refused_at n code) ≡ holds held (told marks [] start bytes)) × Puts a b (audit_told marks start bytes)).
    bad options held now' a b e.0 bytes n code (e.1 ∙ ap (holds held) (begin e.0 bytes)) (puts_same a b (audit_told e.0 start bytes) (audit_for options e.0 bytes) (tells e.0 bytes) e.2)) met

-- whatever is answered, what was written is a beginning of the output
module _ (options : Options) (given_by left held now : Option (List ℕ)) (start : DeckFeed) (a b : Standing) (begin : Opens options start) (tells : Tells options start) where
  pub broken : (given : List ℕ) → Begun given_by left held now start given a b → HasBegun options given_by left held now a b
  broken given begun = (
    given,
    begun.starts.marks,
    begun.starts.audit,
    begun.gives,
    λ rest more none.
        let told_more = begun.starts.tells rest more in (
          subst (λ (o : Outcome). HoldsBeginning held now o.written) (begin (begun.starts.marks ++ rest) (given ++ more)) (begun.starts.is rest more),
          (told_more.0, sym (tells (begun.starts.marks ++ rest) (given ++ more)) ∙ told_more.1),
        ),
    begun.starts.audited,
  )

  pub finished : (f : DeckFeed) (given : List ℕ) (now' : Option (List ℕ)) (c : Standing) → Runs given_by left held now start f given a b → IsAtEnd left
      → (marks : Marks) × ((rest : Marks) → HoldsBeginning now now' (told (marks ++ rest) [] f []).written)
      × (audited : List ℕ) × ((rest : Marks) → Begins audited (audit_told (marks ++ rest) f [])) × Puts b c audited
      → HasBegun options given_by left held now' a c
  finished f given now' c runs end (marks, written, audited, begun, put) = (
    given,
    runs.stands.served.marks ++ marks,
    runs.stands.served.audit ++ audited,
    runs.so_far.gives,
    λ rest more none.
        let all = (runs.stands.served.marks ++ marks) ++ rest in
        let same : holds now (told (marks ++ rest) [] f []) ≡ holds held (told all [] start (given ++ [])) =
        runs.stands.served.is (marks ++ rest) [] ∙ ap (λ (m : Marks). holds held (told m [] start (given ++ []))) (sym (append_assoc runs.stands.served.marks marks rest)) in
        let last : HoldsBeginning held now' (told all [] start (given ++ [])).written =
        grown_held held now now' (told all [] start (given ++ [])) (told (marks ++ rest) [] f []) runs.grown same (written rest) in
        let more_told = begun rest in (
          subst (λ v. HoldsBeginning held now' (output_of options all (given ++ v))) (sym (none end))
              (subst (λ (o : Outcome). HoldsBeginning held now' o.written) (begin all (given ++ [])) last),
          subst (λ v. Begins (runs.stands.served.audit ++ audited) (audit_for options all (given ++ v))) (sym (none end)) (
            more_told.0,
            sym (tells all (given ++ []))
                ∙ ap (λ (m : Marks). audit_told m start (given ++ [])) (append_assoc runs.stands.served.marks marks rest)
                ∙ runs.stands.served.tells (marks ++ rest) []
                ∙ ap (λ (l : List ℕ). runs.stands.served.audit ++ l) more_told.1
                ∙ sym (append_assoc runs.stands.served.audit audited more_told.0),
          ),
        ),
    puts_then a b c runs.stands.served.audit audited runs.stands.served.audited put,
  )

pub on_err : {T E P : Type 0} (result : Result T E) → P → OnErr result P
on_err (Ok x) p = tt
on_err (Err error) p = p

pub on_good : (told : Option (List ℕ)) (P : Counts → List ℕ → Type 0) (Q : List ℕ → Type 0) (result : Result Counts RunError) → ((counts : Counts) (bytes : List ℕ) → P counts bytes → Q bytes)
    → IfOk result (λ counts. IfSome told (P counts)) → OnOk result (IfSome told Q)
on_good told P Q (Ok counts) f p = if_some told (P counts) Q (f counts) p
on_good told P Q (Err error) f p = tt

pub counts_good : (given_by : Option (List ℕ)) (options : Options) (held now : Option (List ℕ)) (a b : Standing) (result : Result Counts RunError)
    → IfOk result (λ counts. IfSome given_by (IsGood options held now a b counts)) → IfOk result (λ counts. IfSome given_by (λ bytes. counts ≡ counts_of bytes))
counts_good given_by options held now a b (Ok counts) p = if_some given_by _ _ (λ bytes (good : IsGood options held now a b counts bytes). good.counts_are) p
counts_good given_by options held now a b (Err error) p = tt
