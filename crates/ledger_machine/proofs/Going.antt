-- A run goes on: jobs that ended, one after the other, and a text line by line.
use Rattle.std.proofs.Common.{◌≡◌, ◌≢◌, ℕ, suc, ◌+◌, ◌<◌, ◌≤◌, List, [], ◌∷◌, ◌++◌, length, drop, get_or, flat_map, Option, Some, None, Result, Ok, Err, OnOk, refl, sym, ap, ◌∙◌, subst, arith, append_assoc, append-nil}
use Rattle.std.{proofs.lemmas.List.{drop_more, drop_all}, specs.Option.{option_map_or}, specs.Str.Lines.{lines}}
use Rattle.mon_device.specs.Putting.{Standing}
use Rattle.sno_run.specs.declared.ending.Ending.TheVariants.{Memory}
use Rattle.job_end.specs.declared.job_end.JobEnd.{JobEnd}
use Rattle.mon_monitor.specs.{SystemStates.{SystemState}, Events.{Event, Serve, Load, Give, Drain}, Printouts.{printouts_text}, Played.{happened}}
use Rattle.mon_monitor.specs.Happening.{HappensUnmarked}
use Rattle.deck_lines.specs.declared.{command.Command.{Command}, turn.Turn.{Turn}}
use Rattle.deck_syntax.specs.{declared.job.OpenJob.{OpenJob}, Decks.{Asked, Commands, Enters, Gives, Drains}, Jobs.{job_deck_of}}
use Rattle.deck_syntax.specs.Sections.{Open, Closed, InList, InJob}
use Rattle.deck_syntax.specs.{declared.stream_reader.Event.{Event as Brought}, Events.{event_in, open_after}}
use Rattle.deck_syntax.specs.declared.stream_reader.Event.TheVariants as brought
use Rattle.deck_run.specs.Laws.{jobs_in}
use Rattle.preflight.specs.{declared.why.Why.{Why}, Examined.{Verdict, Admits, Refuses}, inner.Reading.{and_then, all_then, asks_of, why_in, examined}}
use Rattle.ledger_machine.specs.Running.{HappensTo, AreWhole, Place, place, EndsAt, Reaches, Brings, asked_ahead}
use Rattle.ledger_machine.proofs.Happening.{took_none, plays_more, plays_nothing}

-- ---- what succeeds

pub on_both : {E P Q R : Type 0} (r : Result (Unit {0}) E) → (P → Q → R) → OnOk r P → OnOk r Q → OnOk r R
on_both (Ok u) f p q = f p q
on_both (Err e) f p q = tt

-- ---- jobs that ended

pub put_more : {A : Type 0} (f : A → List ℕ) (xs : List A) (i : ℕ) (x : A) (before now whole : List ℕ) → i < length xs → x ≡ get_or xs i x
    → before ++ flat_map f (drop i xs) ≡ whole → now ≡ before ++ f x → now ++ flat_map f (drop (i + 1) xs) ≡ whole
put_more {A = A} f xs i x before now whole less is so_far put =
    let rest = flat_map f (drop (i + 1) xs) in
    ap (λ (t : List ℕ). t ++ rest) put ∙ append_assoc before (f x) rest
    ∙ ap (λ (y : A). before ++ (f y ++ rest)) is
    ∙ ap (λ (ys : List A). before ++ flat_map f ys) (sym (drop_more xs i x less)) ∙ so_far

pub put_all : {A : Type 0} (f : A → List ℕ) (xs : List A) (i : ℕ) (now whole : List ℕ) → length xs ≤ i → now ++ flat_map f (drop i xs) ≡ whole → now ≡ whole
put_all {A = A} f xs i now whole over so_far = sym (append-nil now) ∙ ap (λ (ys : List A). now ++ flat_map f ys) (sym (drop_all i xs over)) ∙ so_far

pub whole_more : (xs : List JobEnd) (i : ℕ) (x : JobEnd) → i < length xs → x ≡ get_or xs i x → x.ending ≢ Memory
    → (AreWhole (drop i xs) → AreWhole xs) → AreWhole (drop (i + 1) xs) → AreWhole xs
whole_more xs i x less is one so_far rest =
    so_far (subst AreWhole (sym (drop_more xs i x less)) (subst (λ (y : JobEnd). y.ending ≢ Memory) is one, rest))

pub whole_all : (xs : List JobEnd) (i : ℕ) → length xs ≤ i → (AreWhole (drop i xs) → AreWhole xs) → AreWhole xs
whole_all xs i over so_far = so_far (subst AreWhole (sym (drop_all i xs over)) tt)

-- ---- events

-- what was printed to a text of its own
pub served : (e : Event) (w w' : SystemState) (before none text after : List ℕ) (a b : Standing) → none ≡ [] → HappensUnmarked e w none w' text a b
    → after ≡ before ++ text → HappensTo e w before w' after a b
served e w w' before none text after a b empty h put =
    let t = took_none e w w' none text a b h in
    record {
      printed = put ∙ ap (λ (l : List ℕ). before ++ l) (t.printed ∙ ap (λ (l : List ℕ). l ++ printouts_text (happened e [] w).printouts) empty);
      left = t.left;
      audited = t.audited;
    }

-- nothing happened
pub stays : (p : Place) → Reaches p p
stays p = record { ends = λ w after c is. is; counted = refl }

pub reaches_then : (p q r : Place) → Reaches p q → Reaches q r → Reaches p r
reaches_then p q r one other = record { ends = λ w after c is. one.ends w after c (other.ends w after c is); counted = one.counted ∙ other.counted }

module _ (jobs : ℕ) (later : List Asked) (w w' : SystemState) (before after : List ℕ) (a b : Standing) where
  pub command_served : (command : Command) → HappensTo (Serve command) w before w' after a b
      → Reaches (place jobs (Commands command ∷ later) w before a) (place jobs later w' after b)
  command_served command h = record {
    ends = λ last end c is. plays_more (Serve command) _ w w' last before after end a b c h is;
    counted = refl;
  }

  pub turns_given : (turn : Turn) → HappensTo (Give turn.slot turn.count) w before w' after a b
      → Reaches (place jobs (Gives turn ∷ later) w before a) (place jobs later w' after b)
  turns_given turn h = record {
    ends = λ last end c is. plays_more (Give turn.slot turn.count) _ w w' last before after end a b c h is;
    counted = refl;
  }

  pub all_drained : HappensTo Drain w before w' after a b → Reaches (place jobs (Drains ∷ later) w before a) (place jobs later w' after b)
  all_drained h = record { ends = λ last end c is. plays_more Drain _ w w' last before after end a b c h is; counted = refl }

  pub job_entered : (job : OpenJob) (number : ℕ) → number ≡ suc jobs → HappensTo (Load (job_deck_of number job)) w before w' after a b
      → Reaches (place jobs (Enters job ∷ later) w before a) (place number later w' after b)
  job_entered job number same h =
      subst (λ (n : ℕ). Reaches (place jobs (Enters job ∷ later) w before a) (place n later w' after b)) (sym same) (record {
        ends = λ last end c is.
            plays_more (Load (job_deck_of (suc jobs) job)) _ w w' last before after end a b c
            (subst (λ (n : ℕ). HappensTo (Load (job_deck_of n job)) w before w' after a b) same h) is;
        counted = omega arith;
      })

-- what a line's event brings
module _ (event : Brought) (jobs : ℕ) (w w' : SystemState) (before after : List ℕ) (a b : Standing) where
  pub brings_nothing : asks_of event ≡ [] → Brings event jobs w before a jobs w before a
  brings_nothing none = λ later.
      subst (λ (asked : List Asked). Reaches (place jobs (asked ++ later) w before a) (place jobs later w before a)) (sym none) (stays (place jobs later w before a))

  pub brings_command : (command : Command) → event ≡ brought.Asks command → HappensTo (Serve command) w before w' after a b → Brings event jobs w before a jobs w' after b
  brings_command command is h =
      subst (λ (e : Brought). Brings e jobs w before a jobs w' after b) (sym is) (λ later. command_served jobs later w w' before after a b command h)

  pub brings_turns : (turn : Turn) → event ≡ brought.Turns turn → HappensTo (Give turn.slot turn.count) w before w' after a b → Brings event jobs w before a jobs w' after b
  brings_turns turn is h =
      subst (λ (e : Brought). Brings e jobs w before a jobs w' after b) (sym is) (λ later. turns_given jobs later w w' before after a b turn h)

  pub brings_drain : event ≡ brought.Drains → HappensTo Drain w before w' after a b → Brings event jobs w before a jobs w' after b
  brings_drain is h =
      subst (λ (e : Brought). Brings e jobs w before a jobs w' after b) (sym is) (λ later. all_drained jobs later w w' before after a b h)

  pub brings_job : (job : OpenJob) (number : ℕ) → event ≡ brought.Enters job → number ≡ suc jobs → HappensTo (Load (job_deck_of number job)) w before w' after a b
      → Brings event jobs w before a number w' after b
  brings_job job number is same h =
      subst (λ (e : Brought). Brings e jobs w before a number w' after b) (sym is) (λ later. job_entered jobs later w w' before after a b job number same h)

-- at the end
pub ended : (p : Place) (jobs : ℕ) (w w' : SystemState) (before after : List ℕ) (a b : Standing) → Reaches p (place jobs [] w before a)
    → HappensTo Drain w before w' after a b → EndsAt p w' after b
ended p jobs w w' before after a b so_far h = so_far.ends w' after b (plays_more Drain [] w w' w' before after after a b b h (plays_nothing w' after b))

pub counted_to : (p : Place) (jobs : ℕ) (w : SystemState) (before : List ℕ) (a : Standing) → Reaches p (place jobs [] w before a) → p.jobs + jobs_in p.asked ≡ jobs
counted_to p jobs w before a so_far = so_far.counted ∙ omega arith

-- ---- lines

-- a line was read, and what it brings happened
pub line_more : (p : Place) (jobs jobs' : ℕ) (w w' : SystemState) (before after : List ℕ) (a b : Standing) (pending next : Open) (rest line behind : List ℕ)
    → lines rest ≡ line ∷ lines behind → next ≡ open_after pending line
    → Reaches p (place jobs (asked_ahead pending (lines rest)) w before a)
    → Brings (event_in pending line) jobs w before a jobs' w' after b
    → Reaches p (place jobs' (asked_ahead next (lines behind)) w' after b)
line_more p jobs jobs' w w' before after a b pending next rest line behind parts opens so_far one =
    reaches_then p (place jobs (asks_of (event_in pending line) ++ asked_ahead (open_after pending line) (lines behind)) w before a)
    (place jobs' (asked_ahead next (lines behind)) w' after b)
    (subst (λ (ls : List (List ℕ)). Reaches p (place jobs (asked_ahead pending ls) w before a)) parts so_far)
    (subst (λ (o : Open). Reaches (place jobs (asks_of (event_in pending line) ++ asked_ahead (open_after pending line) (lines behind)) w before a)
    (place jobs' (asked_ahead o (lines behind)) w' after b)) (sym opens) (one (asked_ahead (open_after pending line) (lines behind))))

-- none is left
pub reached : (p : Place) (jobs : ℕ) (w : SystemState) (before : List ℕ) (a : Standing) (pending : Open) (rest : List ℕ) → rest ≡ []
    → Reaches p (place jobs (asked_ahead pending (lines rest)) w before a) → Reaches p (place jobs [] w before a)
reached p jobs w before a pending rest none so_far =
    subst (λ (text : List ℕ). Reaches p (place jobs (asked_ahead pending (lines text)) w before a)) none so_far

-- ---- what was examined

then_admits : (front later : List Asked) → all_then front (Admits later) ≡ Admits (front ++ later)
then_admits [] later = refl
then_admits (one ∷ front) later = ap (and_then one) (then_admits front later)

then_refuses : (front : List Asked) (n : ℕ) (why : Why) → all_then front (Refuses n why) ≡ Refuses n why
then_refuses [] n why = refl
then_refuses (one ∷ front) n why = ap (and_then one) (then_refuses front n why)

pub ahead : (own : List ℕ) (ls : List (List ℕ)) (n : ℕ) (pending : Open) (asked : List Asked) → examined own n pending ls ≡ Admits asked → asked ≡ asked_ahead pending ls
ahead own [] n Closed asked is = cc (is)
ahead own [] n (InList list) asked is = absurd cc
ahead own [] n (InJob job) asked is = absurd cc
ahead own (line ∷ ls) n pending asked is =
    by (ahead own ls (n + 1) (open_after pending line)) (why_in own pending line) (examined own (n + 1) (open_after pending line) ls) refl is
  where
    by : ((later : List Asked) → examined own (n + 1) (open_after pending line) ls ≡ Admits later → later ≡ asked_ahead (open_after pending line) ls)
        → (why : Option Why) (rest : Verdict) → examined own (n + 1) (open_after pending line) ls ≡ rest
        → option_map_or (Refuses n) why (all_then (asks_of (event_in pending line)) rest) ≡ Admits asked
        → asked ≡ asks_of (event_in pending line) ++ asked_ahead (open_after pending line) ls
    by h (Some w) rest e same = absurd cc
    by h None (Refuses k w) e same =
        absurd (let no : Refuses k w ≡ Admits asked = sym (then_refuses (asks_of (event_in pending line)) k w) ∙ same in cc (no))
    by h None (Admits later) e same =
        let both : Admits (asks_of (event_in pending line) ++ later) ≡ Admits asked = sym (then_admits (asks_of (event_in pending line)) later) ∙ same in
        let is_both : asks_of (event_in pending line) ++ later ≡ asked = cc (both) in
        sym is_both ∙ ap (λ (l : List Asked). asks_of (event_in pending line) ++ l) (h later e)
