-- What the calls do is what the definitions say.
use Rattle.std.proofs.Common.{◌≡◌, ℕ, List, [], ◌∷◌, ◌++◌, length, Option, Some, None, true, Result, Ok, Err, refl, ap, sym, ◌∙◌, subst, append_assoc, append-nil, OnOk, OnErr, OnSome, replicate}
use Rattle.mon_monitor.proofs.Common.{flat_map, flat_map-append, Stop, IfRefused, Account, find_account, Sets, Command, account_of, answered, commanded, Said, said_of, served_if_known, ordered_lines, lines_after, ordered_is, JobDeck, JobEnd, LoadError, printout, refusal_text, loaded_line, refused_line, lines_until, lines_of_rounds, SchedulerState, Standing, Puts, puts_nothing, puts_then, puts_failed, Marks, Past, marked, drain, room, never, rounds, turns_left, is_done, has_free_slot, MarkedIs, DrainIs, RoomIs, SystemState, with_scheduler, with_sets, Serve, Load, Give, Drain, Printout, OfCommand, OfRefused, printouts_text, printout_text, Played, loading, of_turns, of_loading, then_played, happened, given_back, audit, event_lines, loading_lines, load_entry, Does, Happens, HappensUnmarked, Breaks, Closes, system}
use Rattle.mon_text.specs.declared.stop.Stop.TheVariants.{Refused}
use Rattle.deck_lines.specs.declared.command.Command.TheVariants.{List as Listing}
use Rattle.scheduler.specs.Turning.{Passed}
use Rattle.mon_monitor.proofs.{Parts.{of_load, and_played}, Auditing.{until_told, load_told}, Shorthand.{of_ends}}

pub printouts_append : (xs ys : List Printout) → printouts_text (xs ++ ys) ≡ printouts_text xs ++ printouts_text ys
printouts_append xs ys = flat_map-append printout_text xs ys

-- what jobs that ended print
pub ends_text : (ends : List JobEnd) → printouts_text (of_ends ends) ≡ flat_map printout ends
ends_text [] = refl
ends_text (e ∷ ends) = ap (λ (t : List ℕ). printout e ++ t) (ends_text ends)

-- two functions that tell the same
abbrev Tells : Type 0
Tells = Marks → SystemState → List ℕ

pub does_as : (act : Marks → SystemState → Played) (tell told : Tells) (w w' : SystemState) (before after : List ℕ) (a b : Standing)
    → ((m : Marks) → told m w ≡ tell m w) → Does act tell w before w' after a b → Does act told w before w' after a b
does_as act tell told w w' before after a b same d = record {
  marks = d.marks;
  printouts = d.printouts;
  is = d.is;
  printed = d.printed;
  lines = d.lines;
  tells = λ rest. same (d.marks ++ rest) ∙ d.tells rest;
  audited = d.audited;
}

-- one thing, and then another
abbrev pub then_told : (Marks → SystemState → Played) → Tells → Tells → Tells
then_told act tell next m w = tell m w ++ next (act m w).marks (act m w).after

pub does_then : (act next : Marks → SystemState → Played) (tell tell_next : Tells) (w now w' : SystemState) (before between after : List ℕ) (a b c : Standing)
    → Does act tell w before now between a b → Does next tell_next now between w' after b c
    → Does (λ m v. then_played (act m v) next) (then_told act tell tell_next) w before w' after a c
does_then act next tell tell_next w now w' before between after a b c p q = record {
  marks = p.marks ++ q.marks;
  printouts = p.printouts ++ q.printouts;
  is = λ rest.
      ap (λ (m : Marks). then_played (act m w) next) (append_assoc p.marks q.marks rest)
      ∙ ap (λ (x : Played). then_played x next) (p.is (q.marks ++ rest))
      ∙ ap (and_played p.printouts) (q.is rest);
  printed =
      q.printed ∙ ap (λ (t : List ℕ). t ++ printouts_text q.printouts) p.printed
      ∙ append_assoc before (printouts_text p.printouts) (printouts_text q.printouts)
      ∙ ap (λ (t : List ℕ). before ++ t) (sym (printouts_append p.printouts q.printouts));
  lines = p.lines ++ q.lines;
  tells = λ rest.
      ap (λ (m : Marks). then_told act tell tell_next m w) (append_assoc p.marks q.marks rest)
      ∙ ap (λ (l : List ℕ). l ++ tell_next (act (p.marks ++ (q.marks ++ rest)) w).marks (act (p.marks ++ (q.marks ++ rest)) w).after) (p.tells (q.marks ++ rest))
      ∙ ap (λ (x : Played). p.lines ++ tell_next x.marks x.after) (p.is (q.marks ++ rest))
      ∙ ap (λ (l : List ℕ). p.lines ++ l) (q.tells rest);
  audited = puts_then a b c p.lines q.lines p.audited q.audited;
}

-- WHERE MEMORY RUNS OUT

pub none_told : (tell : Tells) (w : SystemState) (a b : Standing) → b ≡ a → Breaks tell w a b
none_told tell w a b same = record { marks = []; lines = []; begins = λ rest. (tell rest w, refl); audited = subst (λ (y : Standing). Puts a y []) (sym same) (puts_nothing a) }

pub all_told : (act : Marks → SystemState → Played) (tell : Tells) (w w' : SystemState) (before after : List ℕ) (a b : Standing) → Does act tell w before w' after a b → Breaks tell w a b
all_told act tell w w' before after a b d = record { marks = d.marks; lines = d.lines; begins = λ rest. ([], d.tells rest ∙ sym (append-nil d.lines)); audited = d.audited }

pub breaks_as : (tell told : Tells) (w : SystemState) (a b : Standing) → ((m : Marks) → told m w ≡ tell m w) → Breaks tell w a b → Breaks told w a b
breaks_as tell told w a b same x = record {
  marks = x.marks;
  lines = x.lines;
  begins = λ rest. let more = x.begins rest in (more.0, same (x.marks ++ rest) ∙ more.1);
  audited = x.audited;
}

-- one thing was done, and then another broke off
pub breaks_then : (act : Marks → SystemState → Played) (tell tell_next : Tells) (w now : SystemState) (before between : List ℕ) (a b c : Standing)
    → Does act tell w before now between a b → Breaks tell_next now b c → Breaks (then_told act tell tell_next) w a c
breaks_then act tell tell_next w now before between a b c p q = record {
  marks = p.marks ++ q.marks;
  lines = p.lines ++ q.lines;
  begins = λ rest.
      let more = q.begins rest in (
        more.0,
        ap (λ (m : Marks). then_told act tell tell_next m w) (append_assoc p.marks q.marks rest)
            ∙ ap (λ (l : List ℕ). l ++ tell_next (act (p.marks ++ (q.marks ++ rest)) w).marks (act (p.marks ++ (q.marks ++ rest)) w).after) (p.tells (q.marks ++ rest))
            ∙ ap (λ (x : Played). p.lines ++ tell_next x.marks x.after) (p.is (q.marks ++ rest))
            ∙ ap (λ (l : List ℕ). p.lines ++ l) more.1
            ∙ sym (append_assoc p.lines q.lines more.0),
      );
  audited = puts_then a b c p.lines q.lines p.audited q.audited;
}

-- turns
module _ (run : Marks → SchedulerState → Past) (tell : Marks → SchedulerState → List ℕ) (w w' : SystemState) (ends : List JobEnd) (a b : Standing) (accounts : w'.accounts ≡ w.accounts) where
  abbrev played_as : List Printout → SystemState → Marks → Played
  played_as printouts v m = record { printouts = printouts; after = v; marks = m }

  turns_is : (marks rest : Marks) → Passed ends w'.scheduler rest (run (marks ++ rest) w.scheduler) → of_turns w (run (marks ++ rest) w.scheduler) ≡ played_as (of_ends ends) w' rest
  turns_is marks rest p =
      ap (λ (l : List JobEnd). played_as (of_ends l) (with_scheduler w (run (marks ++ rest) w.scheduler).after) (run (marks ++ rest) w.scheduler).marks) p.ended
      ∙ ap (λ (f : SchedulerState). played_as (of_ends ends) (with_scheduler w f) (run (marks ++ rest) w.scheduler).marks) p.after
      ∙ ap (λ (m : Marks). played_as (of_ends ends) (with_scheduler w w'.scheduler) m) p.marks
      ∙ ap (λ (a : List Account). played_as (of_ends ends) (system a w'.scheduler) rest) (sym accounts)

  pub turns_happen : (before after : List ℕ) (marks : Marks) → ((rest : Marks) → Passed ends w'.scheduler rest (run (marks ++ rest) w.scheduler))
      → (lines : List ℕ) → ((rest : Marks) → tell (marks ++ rest) w.scheduler ≡ lines) → Puts a b lines
      → after ≡ before ++ flat_map printout ends → Does (λ m v. of_turns v (run m v.scheduler)) (λ m v. tell m v.scheduler) w before w' after a b
  turns_happen before after marks is lines tells audited printed = record {
    marks = marks;
    printouts = of_ends ends;
    is = λ rest. turns_is marks rest (is rest);
    printed = printed ∙ ap (λ (t : List ℕ). before ++ t) (sym (ends_text ends));
    lines = lines;
    tells = tells;
    audited = audited;
  }

-- a drain
pub drained : (w w' : SystemState) (before after : List ℕ) (ends : List JobEnd) (a b : Standing) → w'.accounts ≡ w.accounts → DrainIs w.scheduler ends w'.scheduler a b
    → after ≡ before ++ flat_map printout ends → Happens Drain w before w' after a b
drained w w' before after ends a b accounts is printed =
    let d = turns_happen drain (lines_of_rounds is_done) w w' ends a b accounts before after is.marks is.is is.lines is.tells is.audited printed in
    record {
      marks = d.marks;
      printouts = d.printouts;
      is = d.is;
      printed = d.printed;
      lines = d.lines;
      tells = λ rest. until_told is_done (rounds (turns_left w.scheduler.slots) (length w.scheduler.slots)) (d.marks ++ rest) w.scheduler ∙ d.tells rest;
      audited = d.audited;
    }

-- turns of one slot
pub given : (s n : ℕ) (w w' : SystemState) (before after : List ℕ) (ends : List JobEnd) (a b : Standing) → w'.accounts ≡ w.accounts → MarkedIs (replicate n s) w.scheduler ends w'.scheduler a b
    → after ≡ before ++ flat_map printout ends → Happens (Give s n) w before w' after a b
given s n w w' before after ends a b accounts is printed =
    let d = turns_happen (λ m f. marked (replicate n s) m f) (λ m f. lines_until never (replicate n s) m f) w w' ends a b accounts before after is.marks is.is is.lines is.tells is.audited printed in
    record {
      marks = d.marks;
      printouts = d.printouts;
      is = d.is;
      printed = d.printed;
      lines = d.lines;
      tells = λ rest. until_told never (replicate n s) (d.marks ++ rest) w.scheduler ∙ d.tells rest;
      audited = d.audited;
    }

pub given_end : (s n : ℕ) (w w' : SystemState) (before after : List ℕ) (end : JobEnd) (a b : Standing) → w'.accounts ≡ w.accounts → MarkedIs (replicate n s) w.scheduler (end ∷ []) w'.scheduler a b
    → after ≡ before ++ printout end → Happens (Give s n) w before w' after a b
given_end s n w w' before after end a b accounts is printed =
    given s n w w' before after (end ∷ []) a b accounts is (printed ∙ ap (λ (t : List ℕ). before ++ t) (sym (append-nil (printout end))))

-- all that is said of a command
abbrev pub lines_of : SystemState → Command → List ℕ
lines_of w command = ordered_lines (find_account w.accounts (account_of command)) w.scheduler.sets command (answered w.accounts w.scheduler.sets command).answer

-- a command
pub served : (command : Command) (w w' : SystemState) (before after text line : List ℕ) (a b : Standing) → w' ≡ with_sets w (commanded w.accounts w.scheduler.sets command).sets
    → text ≡ (commanded w.accounts w.scheduler.sets command).printout → after ≡ before ++ text → line ≡ lines_of w command
    → Puts a b line → HappensUnmarked (Serve command) w before w' after a b
served command w w' before after text line a b is printout put told audited =
    let printouts = OfCommand (commanded w.accounts w.scheduler.sets command).printout ∷ [] in (
      record {
        marks = [];
        printouts = printouts;
        is = λ rest. ap (λ (v : SystemState). let p : Played = record { printouts = printouts; after = v; marks = rest } in p) (sym is);
        printed = put ∙ ap (λ (t : List ℕ). before ++ t) (printout ∙ sym (append-nil (commanded w.accounts w.scheduler.sets command).printout));
        lines = line;
        tells = λ rest. append-nil (lines_of w command) ∙ sym told;
        audited = audited;
      },
      refl,
    )

-- one that lists records leaves the data sets as they are
listing_leaves : (accounts : List Account) (sets : Sets) (account name : List ℕ) → (commanded accounts sets (Listing account name)).sets ≡ sets
listing_leaves accounts sets account name = by (find_account accounts account)
  where
    by : (o : Option Account) → (served_if_known o (Listing account name) sets).sets ≡ sets
    by None = refl
    by (Some known) = refl

-- and nobody hears of it, where the audit's sink takes nothing
pub unheard : (account name : List ℕ) (w : SystemState) (before after : List ℕ) (a : Standing) → a.failed ≡ true
    → after ≡ before ++ (commanded w.accounts w.scheduler.sets (Listing account name)).printout → HappensUnmarked (Serve (Listing account name)) w before w after a a
unheard account name w before after a failed put =
    let command = Listing account name in
    served command w w before after (commanded w.accounts w.scheduler.sets command).printout (lines_of w command) a a
    (ap (λ (sets : Sets). with_sets w sets) (sym (listing_leaves w.accounts w.scheduler.sets account name))) refl put refl
    (puts_failed a a (lines_of w command) failed refl)

-- what was appended, where something was said
pub listed_so : {P : Type 0} (o : Option Said) (said : Said) → o ≡ Some said → OnSome o P → P
listed_so {P} o said is h = subst (λ (x : Option Said). OnSome x P) is h

-- nothing was appended before it was served
pub served_behind : {E : Type 0} (r : Result (Unit {0}) E) (command : Command) (w w' : SystemState) (before now after : List ℕ) (a b : Standing) → now ≡ before
    → OnOk r (HappensUnmarked (Serve command) w now w' after a b) → OnOk r (HappensUnmarked (Serve command) w before w' after a b)
served_behind r command w w' before now after a b same h = subst (λ (t : List ℕ). OnOk r (HappensUnmarked (Serve command) w t w' after a b)) same h

-- what was said of it is said of its answer
pub said_so : (command : Command) (w w' : SystemState) (said : Said) (accounts : List Account) (sets : Sets) → said ≡ said_of (answered w.accounts w.scheduler.sets command).answer
    → w' ≡ with_sets w (commanded w.accounts w.scheduler.sets command).sets → accounts ≡ w'.accounts → sets ≡ w'.scheduler.sets
    → lines_after (find_account accounts (account_of command)) sets command said ≡ lines_of w command
said_so command w w' said accounts sets is system known same =
    ap (λ (s : Said). lines_after (find_account accounts (account_of command)) sets command s) is
    ∙ ap (λ (l : List Account). lines_after (find_account l (account_of command)) sets command (said_of (answered w.accounts w.scheduler.sets command).answer))
    (known ∙ ap (λ (v : SystemState). v.accounts) system)
    ∙ ap (λ (v : Sets). lines_after (find_account w.accounts (account_of command)) v command (said_of (answered w.accounts w.scheduler.sets command).answer))
    (same ∙ ap (λ (v : SystemState). v.scheduler.sets) system)
    ∙ ordered_is w.accounts w.scheduler.sets command

-- a job that is loaded, or refused
loading_is : (deck : JobDeck) (w w' : SystemState) (r : Result ℕ LoadError) (printouts : List Printout) (rest : Marks) → loading deck w ≡ (r, w')
    → of_load deck r ≡ printouts → of_loading deck rest w ≡ record { printouts = printouts; after = w'; marks = rest }
loading_is deck w w' r printouts rest is p =
    ap (λ (l : Result ℕ LoadError × SystemState). let q : Played = record { printouts = of_load deck l.0; after = l.1; marks = rest } in q) is
    ∙ ap (λ (l : List Printout). let q : Played = record { printouts = l; after = w'; marks = rest } in q) p

loading_told : (deck : JobDeck) (w w' : SystemState) (r : Result ℕ LoadError) (rest : Marks) → loading deck w ≡ (r, w') → loading_lines deck rest w ≡ audit (load_entry deck r)
loading_told deck w w' r rest is = ap (λ (l : Result ℕ LoadError × SystemState). audit (load_entry deck l.0)) is

pub load_done : (deck : JobDeck) (w w' : SystemState) (n : ℕ) (before after : List ℕ) (a b : Standing) → loading deck w ≡ (Ok n, w') → after ≡ before
    → Puts a b (loaded_line deck.number deck.account) → Does (of_loading deck) (loading_lines deck) w before w' after a b
load_done deck w w' n before after a b is same audited = record {
  marks = [];
  printouts = [];
  is = λ rest. loading_is deck w w' (Ok n) [] rest is refl;
  printed = same ∙ sym (append-nil before);
  lines = loaded_line deck.number deck.account;
  tells = λ rest. loading_told deck w w' (Ok n) rest is ∙ append-nil (loaded_line deck.number deck.account);
  audited = audited;
}

pub load_refused : (deck : JobDeck) (w w' : SystemState) (refusal : LoadError) (before after : List ℕ) (a b : Standing) → loading deck w ≡ (Err refusal, w) → w' ≡ w
    → after ≡ before ++ refusal_text deck.number deck.account refusal → Puts a b (refused_line deck.number deck.account refusal)
    → Does (of_loading deck) (loading_lines deck) w before w' after a b
load_refused deck w w' refusal before after a b is same put audited =
    let printouts = OfRefused deck.number deck.account refusal ∷ [] in
    record {
      marks = [];
      printouts = printouts;
      is = λ rest. loading_is deck w w' (Err refusal) printouts rest (is ∙ ap (λ (v : SystemState). let l : Result ℕ LoadError × SystemState = (Err refusal, v) in l) (sym same)) refl;
      printed = put ∙ ap (λ (t : List ℕ). before ++ t) (sym (append-nil (refusal_text deck.number deck.account refusal)));
      lines = refused_line deck.number deck.account refusal;
      tells = λ rest. loading_told deck w w (Err refusal) rest is ∙ append-nil (refused_line deck.number deck.account refusal);
      audited = audited;
    }

-- its line was put, and memory ran out for what it prints
pub refused_told : (deck : JobDeck) (w : SystemState) (refusal : LoadError) (a b : Standing) → loading deck w ≡ (Err refusal, w) → Puts a b (refused_line deck.number deck.account refusal)
    → Breaks (loading_lines deck) w a b
refused_told deck w refusal a b is audited = record {
  marks = [];
  lines = refused_line deck.number deck.account refusal;
  begins = λ rest. ([], loading_told deck w w (Err refusal) rest is);
  audited = audited;
}

pub refused_is : (deck : JobDeck) (w : SystemState) (stop : Stop LoadError) (refusal : LoadError) → stop ≡ Refused refusal
    → IfRefused (λ r. loading deck w ≡ (Err r, w)) stop → loading deck w ≡ (Err refusal, w)
refused_is deck w stop refusal is h = subst (λ (s : Stop LoadError). IfRefused (λ r. loading deck w ≡ (Err r, w)) s) is h

-- a job that enters
abbrev making : Marks → SystemState → Played
making m v = of_turns v (room m v.scheduler)

abbrev making_told : Tells
making_told m v = lines_of_rounds has_free_slot m v.scheduler

made : (w now : SystemState) (before between : List ℕ) (ends : List JobEnd) (a b : Standing) → now.accounts ≡ w.accounts → RoomIs w.scheduler ends now.scheduler a b
    → between ≡ before ++ flat_map printout ends → Does making making_told w before now between a b
made w now before between ends a b accounts is printed =
    turns_happen room (lines_of_rounds has_free_slot) w now ends a b accounts before between is.marks is.is is.lines is.tells is.audited printed

pub entered : (deck : JobDeck) (w now w' : SystemState) (before between after : List ℕ) (ends : List JobEnd) (a b c : Standing)
    → now.accounts ≡ w.accounts → RoomIs w.scheduler ends now.scheduler a b → between ≡ before ++ flat_map printout ends
    → Does (of_loading deck) (loading_lines deck) now between w' after b c → Happens (Load deck) w before w' after a c
entered deck w now w' before between after ends a b c accounts is printed load =
    let d = does_then making (of_loading deck) making_told (loading_lines deck) w now w' before between after a b c (made w now before between ends a b accounts is printed) load in
    does_as (happened (Load deck)) (then_told making making_told (loading_lines deck)) (event_lines (Load deck)) w w' before after a c (λ m. load_told deck m w)
    (record { marks = d.marks; printouts = d.printouts; is = d.is; printed = d.printed; lines = d.lines; tells = d.tells; audited = d.audited })

-- what was put to a text of its own, and then behind the printouts of jobs
pub entered_behind : (deck : JobDeck) (w now w' : SystemState) (before none text after : List ℕ) (ends : List JobEnd) (a b c : Standing)
    → now.accounts ≡ w.accounts → RoomIs w.scheduler ends now.scheduler a b → none ≡ [] → Does (of_loading deck) (loading_lines deck) now none w' text b c
    → after ≡ before ++ (flat_map printout ends ++ text) → Happens (Load deck) w before w' after a c
entered_behind deck w now w' before none text after ends a b c accounts is empty load put =
    let between = before ++ flat_map printout ends in
    entered deck w now w' before between after ends a b c accounts is refl (record {
      marks = load.marks;
      printouts = load.printouts;
      is = load.is;
      printed =
          put ∙ sym (append_assoc before (flat_map printout ends) text)
          ∙ ap (λ (t : List ℕ). between ++ t) (load.printed ∙ ap (λ (t : List ℕ). t ++ printouts_text load.printouts) empty);
      lines = load.lines;
      tells = load.tells;
      audited = load.audited;
    })

-- room was made, and then memory ran out
pub entering_breaks : (deck : JobDeck) (w now : SystemState) (ends : List JobEnd) (a b c : Standing) → now.accounts ≡ w.accounts → RoomIs w.scheduler ends now.scheduler a b
    → Breaks (loading_lines deck) now b c → Breaks (event_lines (Load deck)) w a c
entering_breaks deck w now ends a b c accounts is broken =
    breaks_as (then_told making making_told (loading_lines deck)) (event_lines (Load deck)) w a c (λ m. load_told deck m w)
    (breaks_then making making_told (loading_lines deck) w now [] (flat_map printout ends) a b c (made w now [] (flat_map printout ends) ends a b accounts is refl) broken)

-- the job was loaded or refused, too
pub entered_breaks : (deck : JobDeck) (w now w' : SystemState) (none text : List ℕ) (ends : List JobEnd) (a b c : Standing) → now.accounts ≡ w.accounts → RoomIs w.scheduler ends now.scheduler a b
    → Does (of_loading deck) (loading_lines deck) now none w' text b c → Breaks (event_lines (Load deck)) w a c
entered_breaks deck w now w' none text ends a b c accounts is load =
    entering_breaks deck w now ends a b c accounts is (all_told (of_loading deck) (loading_lines deck) now w' none text b c load)

-- turns were given, and memory ran out for what they print
pub given_breaks : (s n : ℕ) (w w' : SystemState) (ends : List JobEnd) (a b : Standing) → w'.accounts ≡ w.accounts → MarkedIs (replicate n s) w.scheduler ends w'.scheduler a b
    → Breaks (event_lines (Give s n)) w a b
given_breaks s n w w' ends a b accounts is =
    all_told (happened (Give s n)) (event_lines (Give s n)) w w' [] (flat_map printout ends) a b (given s n w w' [] (flat_map printout ends) ends a b accounts is refl)

pub drained_breaks : (w w' : SystemState) (ends : List JobEnd) (a b : Standing) → w'.accounts ≡ w.accounts → DrainIs w.scheduler ends w'.scheduler a b → Breaks (event_lines Drain) w a b
drained_breaks w w' ends a b accounts is =
    all_told (happened Drain) (event_lines Drain) w w' [] (flat_map printout ends) a b (drained w w' [] (flat_map printout ends) ends a b accounts is refl)

-- the slots were emptied, and the data sets given back
pub closed : (w left : SystemState) (before after : List ℕ) (ends : List JobEnd) (sets printed : Sets) (a b : Standing) → left.accounts ≡ w.accounts → DrainIs w.scheduler ends left.scheduler a b
    → sets ≡ left.scheduler.sets → printed ≡ sets → after ≡ before ++ (flat_map printout ends ++ given_back printed) → Closes w before sets after a b
closed w left before after ends sets printed a b accounts is same copied put =
    let text = before ++ flat_map printout ends in
    record {
      left = left;
      text = text;
      drained = drained w left before text ends a b accounts is refl;
      same = same;
      printed =
          put ∙ ap (λ (s : Sets). before ++ (flat_map printout ends ++ given_back s)) copied
          ∙ sym (append_assoc before (flat_map printout ends) (given_back sets));
    }

-- WHERE IT SUCCEEDS

pub on_ok : {E P Q : Type 0} (r : Result (Unit {0}) E) → (P → Q) → OnOk r P → OnOk r Q
on_ok (Ok u) f h = f h
on_ok (Err e) f h = tt

-- AND WHERE IT DOESN'T

pub on_err : {T E P : Type 0} (r : Result T E) → P → OnErr r P
on_err (Ok x) h = tt
on_err (Err e) h = h
