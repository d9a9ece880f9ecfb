-- What a card asks for, before those that are still to come.
use Rattle.std.proofs.Common.{◌≡◌, ◌⊎◌, inl, inr, ℕ, suc, ◌+◌, Bool, true, false, List, [], ◌∷◌, ◌++◌, Result, Ok, Err, OnErr, OnOk, refl, sym, ap, ◌∙◌, arith, append_assoc, append-nil}
use Rattle.std.proofs.lemmas.Result.{on_ok_weaker, on_err_weaker}
use Rattle.mon_catalogue.specs.Sets.{Sets}
use Rattle.mon_device.{specs.Putting.{Standing, Puts}, proofs.Putting.{puts_nothing}}
use Rattle.scheduler.specs.Marks.{Marks}
use Rattle.deck_lines.specs.declared.command.Command.{Command}
use Rattle.deck_syntax.specs.{declared.job_deck.JobDeck.{JobDeck}, declared.job.OpenJob.{OpenJob}, Sections.{asked_then, stopped}, Jobs.{job_deck_of}}
use Rattle.deck_syntax.specs.Decks.{Asked, Commands, Enters, Gives, Drains, Cards, Ending, Stopped, Refused}
use Rattle.mon_monitor.specs.{SystemStates.{SystemState}, Events.{Event, Serve, Load, Give, Drain}, Played.{Played, played, happened}}
use Rattle.mon_monitor.{specs.Printouts.{Printout, printout_text, printouts_text}, proofs.Parts.{and_played}, specs.Happening.{Happens, Breaks, Closes}}
use Rattle.mon_monitor.{specs.History.{event_entries, history}, specs.Audit.{audit, event_lines, audit_of}, proofs.Auditing.{audit_append}}
use Rattle.deck_driver.specs.{declared.options.Counts.{Counts}, RunStates.{over, events_of, events_in, nothing_counted, both_counted, all_counted}}
use Rattle.deck_driver.specs.{Printouts.{closing}, Feeds.{outcome_of, behind, more, concluded, Conclusion, Good, Bad, Outcome, Begins}, Audits.{told_to}}
use Rattle.deck_driver.specs.inner.Lines.{GoesOn, counted_by, Served, ServeBreaks, Stopping, StopBreaks}
use Rattle.deck_driver.proofs.{Counted.{one_counted}, Verdicts.{at_end, verdict}}
use Rattle.deck_syntax.specs.{declared.stream_reader.Event.{Event as AnyEvent}, Events.{event_then}}
use Rattle.deck_syntax.specs.declared.stream_reader.Event.TheVariants as event

-- COUNTS

counts_are : (a b c d : ℕ) → a ≡ c → b ≡ d → ◌≡◌ {A = Counts} (record { jobs = a; commands = b }) (record { jobs = c; commands = d })
counts_are a b c d x y = ap (λ i. record { jobs = i; commands = b }) x ∙ ap (λ j. record { jobs = c; commands = j }) y

pub both_both : (a b c : Counts) → both_counted a (both_counted b c) ≡ both_counted (both_counted a b) c
both_both a b c = counts_are _ _ _ _ (omega arith) (omega arith)

pub and_nothing : (a : Counts) → both_counted a nothing_counted ≡ a
and_nothing a = counts_are (a.jobs + 0) (a.commands + 0) a.jobs a.commands (omega arith) (omega arith)

pub nothing_and : (a : Counts) → both_counted nothing_counted a ≡ a
nothing_and a = counts_are (0 + a.jobs) (0 + a.commands) a.jobs a.commands (omega arith) (omega arith)

-- an outcome behind two texts
more_more : (j k : Counts) (c : Conclusion) → more j (more k c) ≡ more (both_counted j k) c
more_more j k (Good counts sets) = ap (λ (i : Counts). Good i sets) (both_both j k counts)
more_more j k (Bad n code) = refl

pub behind_behind : (t s : List ℕ) (j k : Counts) (o : Outcome) → behind t j (behind s k o) ≡ behind (t ++ s) (both_counted j k) o
behind_behind t s j k o =
    ap (λ w. record { written = w; conclusion = more j (more k o.conclusion) }) (sym (append_assoc t s o.written))
    ∙ ap (λ (c : Conclusion). record { written = (t ++ s) ++ o.written; conclusion = c }) (more_more j k o.conclusion)

one_more : (one : Asked) (asked : List Asked) → all_counted (one ∷ asked) ≡ both_counted (one_counted one) (all_counted asked)
one_more (Commands command) asked = let all = all_counted asked in counts_are all.jobs (1 + all.commands) (0 + all.jobs) (1 + all.commands) (omega arith) refl
one_more (Enters job) asked = let all = all_counted asked in counts_are (1 + all.jobs) all.commands (1 + all.jobs) (0 + all.commands) refl (omega arith)
one_more _ asked = sym (nothing_and (all_counted asked))

counted_first : (ending : Ending) (one : Asked) (asked : List Asked) (sets : Sets)
    → concluded (all_counted (one ∷ asked)) sets ending ≡ more (one_counted one) (concluded (all_counted asked) sets ending)
counted_first Stopped one asked sets = ap (λ (c : Counts). Good c sets) (one_more one asked)
counted_first (Refused n code) one asked sets = refl

-- EVENTS

printouts_further : (ps qs : List Printout) → printouts_text (ps ++ qs) ≡ printouts_text ps ++ printouts_text qs
printouts_further [] qs = refl
printouts_further (p ∷ ps) qs = ap (λ t. printout_text p ++ t) (printouts_further ps qs) ∙ sym (append_assoc (printout_text p) (printouts_text ps) (printouts_text qs))

-- what a card asks for, where the next job has number k
abbrev pub event_of : ℕ → Asked → Event
event_of k (Commands command) = Serve command
event_of k (Enters job) = Load (job_deck_of k job)
event_of k (Gives turn) = Give turn.slot turn.count
event_of k Drains = Drain

events_first : (k : ℕ) (one : Asked) (asked : List Asked) → events_of (suc k) (one ∷ asked) ≡ event_of (suc k) one ∷ events_of (suc (k + (one_counted one).jobs)) asked
events_first k (Commands command) asked = let e : k ≡ k + 0 = omega arith in ap (λ i. Serve command ∷ events_of (suc i) asked) e
events_first k (Enters job) asked = let e : suc (suc k) ≡ suc (k + 1) = omega arith in ap (λ i. Load (job_deck_of (suc k) job) ∷ events_of i asked) e
events_first k (Gives turn) asked = let e : k ≡ k + 0 = omega arith in ap (λ i. Give turn.slot turn.count ∷ events_of (suc i) asked) e
events_first k Drains asked = let e : k ≡ k + 0 = omega arith in ap (λ i. Drain ∷ events_of (suc i) asked) e

-- what is told of events
abbrev told_of : Ending → Counts → Played → Outcome
told_of ending counts p = record { written = printouts_text p.printouts ++ closing p.after.scheduler.sets ending; conclusion = concluded counts p.after.scheduler.sets ending }

-- the first event, and then the others
module _ (jobs : ℕ) (one : Asked) (m rest : Marks) (w w' : SystemState) (text : List ℕ) (others : Cards)
    (printed : printouts_text (happened (event_of (suc jobs) one) m w).printouts ≡ text)
    (left : (happened (event_of (suc jobs) one) m w).after ≡ w')
    (marks : (happened (event_of (suc jobs) one) m w).marks ≡ rest) where
  abbrev next : ℕ
  next = jobs + (one_counted one).jobs

  abbrev then : Played
  then = played (events_in next (over w' others)) rest w'

  first_played : played (events_in jobs (over w (asked_then one others))) m w ≡ and_played (happened (event_of (suc jobs) one) m w).printouts then
  first_played =
      let all = happened (event_of (suc jobs) one) m w in
      ap (λ (E : List Event). played (E ++ at_end others.ending) m w) (events_first jobs one others.asked)
      ∙ ap (λ (v : SystemState). and_played all.printouts (played (events_in next (over v others)) all.marks v)) left
      ∙ ap (λ k. and_played all.printouts (played (events_in next (over w' others)) k w')) marks

  pub first_served : outcome_of false jobs m (over w (asked_then one others)) ≡ behind text (one_counted one) (outcome_of false next rest (over w' others))
  first_served =
      let all = happened (event_of (suc jobs) one) m w in
      let sets = then.after.scheduler.sets in
      ap (told_of others.ending (all_counted (one ∷ others.asked))) first_played
      ∙ ap (λ t. record { written = t ++ closing sets others.ending; conclusion = concluded (all_counted (one ∷ others.asked)) sets others.ending })
      (printouts_further all.printouts then.printouts ∙ ap (λ t. t ++ printouts_text then.printouts) printed)
      ∙ ap (λ t. record { written = t; conclusion = concluded (all_counted (one ∷ others.asked)) sets others.ending })
      (append_assoc text (printouts_text then.printouts) (closing sets others.ending))
      ∙ ap (λ (c : Conclusion). record { written = text ++ (printouts_text then.printouts ++ closing sets others.ending); conclusion = c })
      (counted_first others.ending one others.asked sets)

-- the lines of the first event, and then those of the others
first_told : (jobs : ℕ) (one : Asked) (m : Marks) (w : SystemState) (others : Cards)
    → told_to false jobs m (over w (asked_then one others)) ≡ event_lines (event_of (suc jobs) one) m w
    ++ told_to false (jobs + (one_counted one).jobs) (happened (event_of (suc jobs) one) m w).marks (over (happened (event_of (suc jobs) one) m w).after others)
first_told jobs one m w others =
    let event = event_of (suc jobs) one in
    ap (λ (E : List Event). audit_of (E ++ at_end others.ending) m w) (events_first jobs one others.asked)
    ∙ audit_append (event_entries event m w)
    (history (events_in (jobs + (one_counted one).jobs) (over (happened event m w).after others)) (happened event m w).marks (happened event m w).after)

first_counted : (jobs next : ℕ) (m rest : Marks) (one : Asked) (w : SystemState) (others : Cards)
    → outcome_of true jobs m (over w (asked_then one others)) ≡ behind [] (one_counted one) (outcome_of true next rest (over w others))
first_counted jobs next m rest one w others =
    ap (λ (c : Conclusion). record { written = verdict others.ending; conclusion = c }) (counted_first others.ending one others.asked w.scheduler.sets)

module _ (e : AnyEvent) (one : Asked) (same : (others : Cards) → asked_then one others ≡ event_then e others) (w : SystemState) (before : List ℕ) (counts counts' : Counts) (a b : Standing) (counted : counts' ≡ both_counted counts (one_counted one)) where
  -- it happened, and what it printed was put behind what there was
  pub one_served : (w' : SystemState) (text after : List ℕ) (marks : Marks) → after ≡ before ++ text
      → ((rest : Marks) → printouts_text (happened (event_of (suc counts.jobs) one) (marks ++ rest) w).printouts ≡ text)
      → ((rest : Marks) → (happened (event_of (suc counts.jobs) one) (marks ++ rest) w).after ≡ w')
      → ((rest : Marks) → (happened (event_of (suc counts.jobs) one) (marks ++ rest) w).marks ≡ rest)
      → (lines : List ℕ) → ((rest : Marks) → event_lines (event_of (suc counts.jobs) one) (marks ++ rest) w ≡ lines) → Puts a b lines
      → Served false e w before counts w' after counts' a b
  one_served w' text after marks put printed left kept lines tells audited = record {
    marks = marks;
    is = λ rest others.
        let then = outcome_of false (counts.jobs + (one_counted one).jobs) rest (over w' others) in
        ap (λ (c : Counts). behind after c (outcome_of false c.jobs rest (over w' others))) counted
        ∙ ap (λ t. behind t (both_counted counts (one_counted one)) then) put
        ∙ sym (behind_behind before text counts (one_counted one) then)
        ∙ ap (behind before counts) (sym (first_served counts.jobs one (marks ++ rest) rest w w' text others (printed rest) (left rest) (kept rest)))
        ∙ ap (λ (c : Cards). behind before counts (outcome_of false counts.jobs (marks ++ rest) (over w c))) (same others);
    lines = lines;
    tells = λ rest others.
        let event = event_of (suc counts.jobs) one in
        let next = counts.jobs + (one_counted one).jobs in
        let p = happened event (marks ++ rest) w in
        ap (λ (c : Cards). told_to false counts.jobs (marks ++ rest) (over w c)) (sym (same others))
        ∙ first_told counts.jobs one (marks ++ rest) w others
        ∙ ap (λ (l : List ℕ). l ++ told_to false next p.marks (over p.after others)) (tells rest)
        ∙ ap (λ (v : SystemState). lines ++ told_to false next p.marks (over v others)) (left rest)
        ∙ ap (λ (m : Marks). lines ++ told_to false next m (over w' others)) (kept rest)
        ∙ ap (λ (c : Counts). lines ++ told_to false c.jobs rest (over w' others)) (sym counted);
    audited = audited;
  }

-- it was only counted
one_counted_only : (e : AnyEvent) (one : Asked) → ((others : Cards) → asked_then one others ≡ event_then e others) → (w : SystemState) (before : List ℕ) (counts counts' : Counts) (a : Standing)
    → counts' ≡ both_counted counts (one_counted one) → Served true e w before counts w before counts' a a
one_counted_only e one same w before counts counts' a counted = record {
  marks = [];
  is = λ rest others.
      let then = outcome_of true (counts.jobs + (one_counted one).jobs) rest (over w others) in
      ap (λ (c : Counts). behind before c (outcome_of true c.jobs rest (over w others))) counted
      ∙ ap (λ t. behind t (both_counted counts (one_counted one)) then) (sym (append-nil before))
      ∙ sym (behind_behind before [] counts (one_counted one) then)
      ∙ ap (behind before counts) (sym (first_counted counts.jobs (counts.jobs + (one_counted one).jobs) rest rest one w others))
      ∙ ap (λ (c : Cards). behind before counts (outcome_of true counts.jobs rest (over w c))) (same others);
  lines = [];
  tells = λ rest others. refl;
  audited = puts_nothing a;
}

-- nothing is asked for
none_asked : (check : Bool) (e : AnyEvent) → ((others : Cards) → others ≡ event_then e others) → (w : SystemState) (before : List ℕ) (counts counts' : Counts) (a : Standing)
    → counts' ≡ counts → Served check e w before counts w before counts' a a
none_asked check e same w before counts counts' a counted = record {
  marks = [];
  is = λ rest others.
      ap (λ (c : Counts). behind before c (outcome_of check c.jobs rest (over w others))) counted
      ∙ ap (λ (c : Cards). behind before counts (outcome_of check counts.jobs rest (over w c))) (same others);
  lines = [];
  tells = λ rest others.
      ap (λ (c : Cards). told_to check counts.jobs rest (over w c)) (sym (same others))
      ∙ ap (λ (c : Counts). told_to check c.jobs rest (over w others)) (sym counted);
  audited = puts_nothing a;
}

-- what does not end the deck is only counted where the deck is only to be checked
pub counted_when : (check : Bool) → check ≡ true → (e : AnyEvent) → GoesOn e → (w : SystemState) (before : List ℕ) (counts counts' : Counts) (a : Standing) → counts' ≡ both_counted counts (counted_by e)
    → Served check e w before counts w before counts' a a
counted_when false is e on w before counts counts' a counted = cc
counted_when true is event.Nothing on w before counts counts' a counted = none_asked true event.Nothing (λ others. refl) w before counts counts' a (counted ∙ and_nothing counts)
counted_when true is (event.Opens account) on w before counts counts' a counted = none_asked true (event.Opens account) (λ others. refl) w before counts counts' a (counted ∙ and_nothing counts)
counted_when true is (event.Asks command) on w before counts counts' a counted = one_counted_only (event.Asks command) (Commands command) (λ others. refl) w before counts counts' a counted
counted_when true is (event.Enters job) on w before counts counts' a counted = one_counted_only (event.Enters job) (Enters job) (λ others. refl) w before counts counts' a counted
counted_when true is (event.Turns turn) on w before counts counts' a counted = one_counted_only (event.Turns turn) (Gives turn) (λ others. refl) w before counts counts' a counted
counted_when true is event.Drains on w before counts counts' a counted = one_counted_only event.Drains Drains (λ others. refl) w before counts counts' a counted
counted_when true is event.Stops on w before counts counts' a counted = absurd on

-- a blank line, or one more line of what is open
abbrev is_quiet : AnyEvent → Bool
is_quiet event.Nothing = true
is_quiet (event.Opens account) = true
is_quiet event.Stops = true
is_quiet _ = false

quiet : (e : AnyEvent) → (e ≡ event.Nothing) ⊎ (((account : List ℕ) × (e ≡ event.Opens account)) ⊎ (e ≡ event.Stops)) → is_quiet e ≡ true
quiet e (inl h) = ap is_quiet h
quiet e (inr (inl h)) = ap is_quiet h.1
quiet e (inr (inr h)) = ap is_quiet h

quiet_passes : (check : Bool) (e : AnyEvent) → is_quiet e ≡ true → GoesOn e → (w : SystemState) (before : List ℕ) (counts counts' : Counts) (a : Standing)
    → counts' ≡ both_counted counts (counted_by e) → Served check e w before counts w before counts' a a
quiet_passes check event.Nothing is on w before counts counts' a counted = none_asked check event.Nothing (λ others. refl) w before counts counts' a (counted ∙ and_nothing counts)
quiet_passes check (event.Opens account) is on w before counts counts' a counted = none_asked check (event.Opens account) (λ others. refl) w before counts counts' a (counted ∙ and_nothing counts)
quiet_passes check event.Stops is on w before counts counts' a counted = absurd on
quiet_passes check (event.Asks command) is on w before counts counts' a counted = cc
quiet_passes check (event.Enters job) is on w before counts counts' a counted = cc
quiet_passes check (event.Turns turn) is on w before counts counts' a counted = cc
quiet_passes check event.Drains is on w before counts counts' a counted = cc

pub passes : (check : Bool) (e : AnyEvent) → (e ≡ event.Nothing) ⊎ (((account : List ℕ) × (e ≡ event.Opens account)) ⊎ (e ≡ event.Stops)) → GoesOn e
    → (w : SystemState) (before : List ℕ) (counts counts' : Counts) (a : Standing) → counts' ≡ both_counted counts (counted_by e) → Served check e w before counts w before counts' a a
passes check e is on w before counts counts' a counted = quiet_passes check e (quiet e is) on w before counts counts' a counted

-- it happened
happens_served : (check : Bool) → check ≡ false → (e : AnyEvent) (one : Asked) (event : Event) → ((others : Cards) → asked_then one others ≡ event_then e others)
    → (w w' : SystemState) (before after : List ℕ) (counts counts' : Counts) (a b : Standing)
    → event ≡ event_of (suc counts.jobs) one → counts' ≡ both_counted counts (one_counted one)
    → Happens event w before w' after a b → Served check e w before counts w' after counts' a b
happens_served true unchecked e one event same w w' before after counts counts' a b is counted happens = cc
happens_served false unchecked e one event same w w' before after counts counts' a b is counted happens =
    one_served e one same w before counts counts' a b counted w' (printouts_text happens.printouts) after happens.marks happens.printed
    (λ rest. ap (λ (v : Event). printouts_text (happened v (happens.marks ++ rest) w).printouts) (sym is) ∙ ap (λ (p : Played). printouts_text p.printouts) (happens.is rest))
    (λ rest. ap (λ (v : Event). (happened v (happens.marks ++ rest) w).after) (sym is) ∙ ap (λ (p : Played). p.after) (happens.is rest))
    (λ rest. ap (λ (v : Event). (happened v (happens.marks ++ rest) w).marks) (sym is) ∙ ap (λ (p : Played). p.marks) (happens.is rest))
    happens.lines (λ rest. ap (λ (v : Event). event_lines v (happens.marks ++ rest) w) (sym is) ∙ happens.tells rest) happens.audited

-- memory ran out
breaks_served : (check : Bool) → check ≡ false → (e : AnyEvent) (one : Asked) (event : Event) → ((others : Cards) → asked_then one others ≡ event_then e others)
    → (w : SystemState) (jobs : ℕ) (a b : Standing) → event ≡ event_of (suc jobs) one → Breaks (event_lines event) w a b → ServeBreaks check e w jobs a b
breaks_served true unchecked e one event same w jobs a b is broken = cc
breaks_served false unchecked e one event same w jobs a b is broken = record {
  marks = broken.marks;
  lines = broken.lines;
  tells = λ rest others.
      let m = broken.marks ++ rest in
      let more = broken.begins rest in
      let p = happened (event_of (suc jobs) one) m w in
      let later = told_to false (jobs + (one_counted one).jobs) p.marks (over p.after others) in (
        more.0 ++ later,
        ap (λ (c : Cards). told_to false jobs m (over w c)) (sym (same others))
            ∙ first_told jobs one m w others
            ∙ ap (λ (l : List ℕ). l ++ later) (ap (λ (v : Event). event_lines v m w) (sym is) ∙ more.1)
            ∙ append_assoc broken.lines more.0 later,
      );
  audited = broken.audited;
}

-- so it is where a call is the last: for an event e, which is e', asks for one, and for the monitor is this event
module _ {T E : Type 0} (r : Result T E) (check : Bool) (unchecked : check ≡ false) (e e' : AnyEvent) (here : e ≡ e') (one : Asked) (same : (others : Cards) → asked_then one others ≡ event_then e' others)
    (event : Event) (w : SystemState) (counts : Counts) (a b : Standing) (is : event ≡ event_of (suc counts.jobs) one) where
  pub on_served : (w' : SystemState) (before after : List ℕ) (counts' : Counts) → counts' ≡ both_counted counts (counted_by e) → counted_by e' ≡ one_counted one
      → OnOk r (Happens event w before w' after a b) → OnOk r (Served check e w before counts w' after counts' a b)
  on_served w' before after counts' counted alike =
      on_ok_weaker r (happens_served check unchecked e one event (λ others. same others ∙ sym (ap (λ (v : AnyEvent). event_then v others) here)) w w' before after counts counts' a b is
      (counted ∙ ap (λ (v : AnyEvent). both_counted counts (counted_by v)) here ∙ ap (both_counted counts) alike))

  pub on_broken : OnErr r (Breaks (event_lines event) w a b) → OnErr r (ServeBreaks check e w counts.jobs a b)
  on_broken = on_err_weaker r (breaks_served check unchecked e one event (λ others. same others ∙ sym (ap (λ (v : AnyEvent). event_then v others) here)) w counts.jobs a b is)

-- counted by hand

pub command_counted : (counts : Counts) (command : Command) → ◌≡◌ {A = Counts} (record { jobs = counts.jobs; commands = counts.commands + 1 }) (both_counted counts (one_counted (Commands command)))
command_counted counts command = counts_are counts.jobs (counts.commands + 1) (counts.jobs + 0) (counts.commands + 1) (omega arith) refl

pub job_numbered : (counts counts' : Counts) (job : OpenJob) (deck : JobDeck) → counts' ≡ both_counted counts (one_counted (Enters job)) → deck ≡ job_deck_of counts'.jobs job → Load deck ≡ event_of (suc counts.jobs) (Enters job)
job_numbered counts counts' job deck counted is =
    let e : counts.jobs + 1 ≡ suc counts.jobs = omega arith in
    ap (λ (d : JobDeck). Load d) (is ∙ ap (λ (c : Counts). job_deck_of c.jobs job) counted ∙ ap (λ n. job_deck_of n job) e)

-- `$STOP`

stop_told : (jobs : ℕ) (m : Marks) (w : SystemState) → told_to false jobs m (over w stopped) ≡ event_lines Drain m w
stop_told jobs m w = ap audit (append-nil (event_entries Drain m w))

pub checked_when : (check : Bool) → check ≡ true → (jobs : ℕ) (w : SystemState) (before after : List ℕ) (left : Sets) (a : Standing) → left ≡ w.scheduler.sets → after ≡ before ++ verdict Stopped
    → Stopping check jobs w before left after a a
checked_when true e jobs w before after left a same put = record { marks = []; written = λ rest. put; sets = λ rest. same; lines = []; tells = λ rest. refl; audited = puts_nothing a }
checked_when false e jobs w before after left a same put = cc

pub stopped_when : (check : Bool) → check ≡ false → (jobs : ℕ) (w : SystemState) (left : Sets) (before after : List ℕ) (a b : Standing)
    → Stopping false jobs w before left after a b → Stopping check jobs w before left after a b
stopped_when false e jobs w left before after a b stopping = stopping
stopped_when true e jobs w left before after a b stopping = cc

-- the slots were emptied, and then the catalogue was given back
pub closed : (jobs : ℕ) (w : SystemState) (left : Sets) (before after : List ℕ) (a b : Standing) → Closes w before left after a b → Stopping false jobs w before left after a b
closed jobs w left before after a b closes =
    let happens = closes.drained in
    let end = closing left Stopped in
    record {
      marks = happens.marks;
      written = λ rest.
          closes.printed
          ∙ ap (λ t. t ++ end) happens.printed
          ∙ append_assoc before (printouts_text happens.printouts) end
          ∙ ap (λ ps. before ++ (printouts_text ps ++ end)) (sym (append-nil happens.printouts))
          ∙ ap (λ (sets : Sets). before ++ (printouts_text (happens.printouts ++ []) ++ closing sets Stopped)) closes.same
          ∙ ap (λ (p : Played). before ++ (printouts_text (p.printouts ++ []) ++ closing p.after.scheduler.sets Stopped)) (sym (happens.is rest));
      sets = λ rest. closes.same ∙ ap (λ (p : Played). p.after.scheduler.sets) (sym (happens.is rest));
      lines = happens.lines;
      tells = λ rest. stop_told jobs (happens.marks ++ rest) w ∙ happens.tells rest;
      audited = happens.audited;
    }

-- memory ran out meanwhile
pub close_breaks : (jobs : ℕ) (w : SystemState) (a b : Standing) → Breaks (event_lines Drain) w a b → StopBreaks false jobs w a b
close_breaks jobs w a b broken = record {
  marks = broken.marks;
  lines = broken.lines;
  tells = λ rest. let more = broken.begins rest in (more.0, stop_told jobs (broken.marks ++ rest) w ∙ more.1);
  audited = broken.audited;
}

pub stop_breaks_when : (check : Bool) → check ≡ false → (jobs : ℕ) (w : SystemState) (a b : Standing) → StopBreaks false jobs w a b → StopBreaks check jobs w a b
stop_breaks_when false e jobs w a b broken = broken
stop_breaks_when true e jobs w a b broken = cc

-- nothing was told
pub stop_tells_none : (check : Bool) (jobs : ℕ) (w : SystemState) (a : Standing) → StopBreaks check jobs w a a
stop_tells_none check jobs w a = record { marks = []; lines = []; tells = λ rest. (told_to check jobs rest (over w stopped), refl); audited = puts_nothing a }

-- where memory ran out
pub on_err : {T E P : Type 0} (r : Result T E) → P → OnErr r P
on_err (Ok x) h = tt
on_err (Err e) h = h
