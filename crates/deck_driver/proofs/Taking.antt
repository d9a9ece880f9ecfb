-- A line that was taken, from what it brings.
use Rattle.std.proofs.Common.{◌≡◌, ◌⊎◌, ℕ, ◌+◌, false, Option, Some, None, List, [], ◌∷◌, ◌++◌, Result, Ok, Err, refl, sym, ap, subst, ◌∙◌, append-nil, inl, inr}
use Rattle.std.specs.{Prelude.{OnErr}, declared.alloc.Global.{Global}, declared.rc.Rc.{Rc}}
use Rattle.mon_text.specs.declared.stop.Stop.TheVariants.{Refused}
use Rattle.mon_catalogue.specs.Sets.{Sets}
use Rattle.mon_device.{specs.Putting.{Standing}, proofs.Putting.{puts_nothing}}
use Rattle.mon_monitor.specs.{declared.monitor.Monitor.{Monitor}, SystemStates.{SystemState}, Abstraction.{system_of}}
use Rattle.deck_lines.specs.declared.deck_error.DeckError.{DeckError}
use Rattle.deck_syntax.specs.Sections.{Closed, stopped, stream_section}
use Rattle.deck_syntax.specs.declared.{front_reader.Front.{Front}, front_reader.FrontReader.{FrontReader}, stream_reader.Event.{Event}}
use Rattle.deck_syntax.specs.declared.stream_reader.StreamReader.{StreamReader, TheVariants.{Cards}}
use Rattle.deck_syntax.specs.{Reading.{deck_ahead, deck_behind}, Events.{cards_ahead, event_then}}
use Rattle.deck_syntax.specs.declared.stream_reader.Event.TheVariants as event
use Rattle.deck_driver.specs.{declared.options.Counts.{Counts}, declared.options.Options.{Options}, declared.section.Section.{Section}, Printouts.{answer_to}}
use Rattle.deck_driver.specs.{declared.section.DeckState.{DeckState}, RunStates.{RunState, over, opening, nothing_counted, both_counted}}
use Rattle.deck_driver.specs.{Feeds.{run_state_from, outcome_of, behind, is_reading, Good}, Audits.{told_to, told_from}}
use Rattle.deck_driver.specs.inner.Lines.{TookLine, LineBreaks, IsOver, GoesOn, ServeBreaks, Stopping, StopBreaks}
use Rattle.deck_driver.specs.declared.section.Section.TheVariants as section
use Rattle.deck_driver.specs.declared.section.DeckState.TheVariants as state

-- nothing happened
unmoved : (options : Options) (s s' : Section) (line out : List ℕ) (counts : Counts) (a : Standing)
    → ((n : ℕ) → (ls : List (List ℕ)) → run_state_from options.slots.number s' (n + 1) ls ≡ run_state_from options.slots.number s n (line ∷ ls))
    → TookLine options (state.Reading s) line out counts (state.Reading s') out counts a a
unmoved options s s' line out counts a same = record {
  marks = [];
  is = λ rest n ls. ap (λ (c : RunState). behind out counts (outcome_of options.check counts.jobs rest c)) (same n ls);
  lines = [];
  tells = λ rest n ls. ap (told_to options.check counts.jobs rest) (sym (same n ls));
  audited = puts_nothing a;
}

-- the same of a state that is this one
pub took_at : (options : Options) (s t s' : DeckState) (line before after : List ℕ) (counts counts' : Counts) (a b : Standing) → s ≡ t
    → TookLine options t line before counts s' after counts' a b → TookLine options s line before counts s' after counts' a b
took_at options s t s' line before after counts counts' a b here took = subst (λ (v : DeckState). TookLine options v line before counts s' after counts' a b) (sym here) took

pub breaks_at : (options : Options) (s t : DeckState) (line : List ℕ) (counts : Counts) (a b : Standing) → s ≡ t → LineBreaks options t line counts a b → LineBreaks options s line counts a b
breaks_at options s t line counts a b here broken = subst (λ (v : DeckState). LineBreaks options v line counts a b) (sym here) broken

-- the front goes on
pub front_goes : (options : Options) (r r' : FrontReader) (line out : List ℕ) (counts : Counts) (a : Standing)
    → ((n : ℕ) → (ls : List (List ℕ)) → deck_ahead r n (line ∷ ls) ≡ deck_ahead r' (n + 1) ls)
    → TookLine options (state.Reading (section.Front r)) line out counts (state.Reading (section.Front r')) out counts a a
front_goes options r r' line out counts a goes =
    unmoved options (section.Front r) (section.Front r') line out counts a (λ n ls. ap (opening options.slots.number) (sym (goes n ls)))

-- a line within a list or a job
pub stream_goes : (options : Options) (r r' : StreamReader) (w : Monitor) (line out : List ℕ) (counts : Counts) (a : Standing)
    → ((n : ℕ) → (ls : List (List ℕ)) → cards_ahead r n (line ∷ ls) ≡ cards_ahead r' (n + 1) ls)
    → TookLine options (state.Reading (section.Stream r w)) line out counts (state.Reading (section.Stream r' w)) out counts a a
stream_goes options r r' w line out counts a goes =
    unmoved options (section.Stream r w) (section.Stream r' w) line out counts a (λ n ls. ap (over (system_of w)) (sym (goes n ls)))

pub front_stays : (options : Options) (s : DeckState) (r r' : FrontReader) (o : Option Front) (line out : List ℕ) (counts : Counts) (a : Standing) → s ≡ state.Reading (section.Front r) → o ≡ None
    → ((n : ℕ) → (ls : List (List ℕ)) → deck_ahead r n (line ∷ ls) ≡ deck_behind r' o (n + 1) ls)
    → TookLine options s line out counts (state.Reading (section.Front r')) out counts a a
front_stays options s r r' o line out counts a here none goes =
    took_at options s (state.Reading (section.Front r)) (state.Reading (section.Front r')) line out out counts counts a a here
    (front_goes options r r' line out counts a (λ n ls. goes n ls ∙ ap (λ (x : Option Front). deck_behind r' x (n + 1) ls) none))

-- or a stream begins
pub front_over : (options : Options) (s : DeckState) (r r' : FrontReader) (o : Option Front) (whole : Front) (s' : DeckState) (line out : List ℕ) (counts : Counts) (a : Standing) → s ≡ state.Reading (section.Front r) → o ≡ Some whole
    → ((n : ℕ) → (ls : List (List ℕ)) → deck_ahead r n (line ∷ ls) ≡ deck_behind r' o (n + 1) ls) → IsOver options.slots.number whole s'
    → TookLine options s line out counts s' out counts a a
front_over options s r r' o whole s' line out counts a here is goes begun =
    let took = unmoved options (section.Front r) (section.Stream Cards begun.0) line out counts a
    (λ n ls. ap (λ (w : SystemState). over w (stream_section (n + 1) Closed ls)) begun.2
    ∙ ap (opening options.slots.number) (sym (goes n ls ∙ ap (λ (x : Option Front). deck_behind r' x (n + 1) ls) is))) in
    took_at options s (state.Reading (section.Front r)) s' line out out counts counts a a here
    (subst (λ (x : DeckState). TookLine options (state.Reading (section.Front r)) line out counts x out counts a a) (sym begun.1) took)

-- or memory ran out meanwhile
pub card_breaks : (options : Options) (r r' : StreamReader) (v w : Monitor) (line : List ℕ) (counts : Counts) (a b : Standing) (e : Event) → w ≡ v
    → ((n : ℕ) → (ls : List (List ℕ)) → cards_ahead r n (line ∷ ls) ≡ event_then e (cards_ahead r' (n + 1) ls))
    → ServeBreaks options.check e (system_of w) counts.jobs a b → LineBreaks options (state.Reading (section.Stream r v)) line counts a b
card_breaks options r r' v w line counts a b e kept brings broken =
    subst (λ (m : Monitor). LineBreaks options (state.Reading (section.Stream r m)) line counts a b) kept
    (record {
      marks = broken.marks;
      lines = broken.lines;
      tells = λ rest n ls.
          let more = broken.tells rest (cards_ahead r' (n + 1) ls) in
          (more.0, ap (λ cards. told_to options.check counts.jobs (broken.marks ++ rest) (over (system_of w) cards)) (brings n ls) ∙ more.1);
      audited = broken.audited;
    })

-- `$STOP` came
pub stopped_on : (options : Options) (r r' : StreamReader) (v w : Monitor) (e : Event) (s' : DeckState) (sets : Rc Sets Global) (line before after : List ℕ) (counts : Counts) (a b : Standing)
    → w ≡ v → e ≡ event.Stops → ((n : ℕ) → (ls : List (List ℕ)) → cards_ahead r n (line ∷ ls) ≡ event_then e (cards_ahead r' (n + 1) ls))
    → s' ≡ state.Stopped sets → Stopping options.check counts.jobs (system_of w) before sets.value after a b
    → TookLine options (state.Reading (section.Stream r v)) line before counts s' after counts a b
stopped_on options r r' v w e s' sets line before after counts a b kept stops brings is stopping =
    let ends : (n : ℕ) → (ls : List (List ℕ)) → cards_ahead r n (line ∷ ls) ≡ stopped = λ n ls. brings n ls ∙ ap (λ (x : Event). event_then x (cards_ahead r' (n + 1) ls)) stops in
    subst (λ (s : DeckState). TookLine options (state.Reading (section.Stream r v)) line before counts s after counts a b) (sym is)
    (subst (λ (x : Monitor). TookLine options (state.Reading (section.Stream r x)) line before counts (state.Stopped sets) after counts a b) kept
    (record {
      marks = stopping.marks;
      is = λ rest n ls.
          let m = stopping.marks ++ rest in
          let all = both_counted counts nothing_counted in
          let written = before ++ answer_to options.check counts.jobs m (over (system_of w) stopped) in
          ap (λ t. record { written = t; conclusion = Good all sets.value }) (append-nil after ∙ stopping.written rest)
          ∙ ap (λ (left : Sets). record { written = written; conclusion = Good all left }) (stopping.sets rest)
          ∙ ap (λ cards. behind before counts (outcome_of options.check counts.jobs m (over (system_of w) cards))) (sym (ends n ls));
      lines = stopping.lines;
      tells = λ rest n ls.
          ap (λ cards. told_to options.check counts.jobs (stopping.marks ++ rest) (over (system_of w) cards)) (ends n ls)
          ∙ stopping.tells rest ∙ sym (append-nil stopping.lines);
      audited = stopping.audited;
    }))

pub stop_breaks_on : (options : Options) (r r' : StreamReader) (v w : Monitor) (e : Event) (line : List ℕ) (counts : Counts) (a b : Standing)
    → w ≡ v → e ≡ event.Stops → ((n : ℕ) → (ls : List (List ℕ)) → cards_ahead r n (line ∷ ls) ≡ event_then e (cards_ahead r' (n + 1) ls))
    → StopBreaks options.check counts.jobs (system_of w) a b → LineBreaks options (state.Reading (section.Stream r v)) line counts a b
stop_breaks_on options r r' v w e line counts a b kept stops brings broken =
    let ends : (n : ℕ) → (ls : List (List ℕ)) → cards_ahead r n (line ∷ ls) ≡ stopped = λ n ls. brings n ls ∙ ap (λ (x : Event). event_then x (cards_ahead r' (n + 1) ls)) stops in
    subst (λ (x : Monitor). LineBreaks options (state.Reading (section.Stream r x)) line counts a b) kept
    (record {
      marks = broken.marks;
      lines = broken.lines;
      tells = λ rest n ls.
          let more = broken.tells rest in
          (more.0, ap (λ cards. told_to options.check counts.jobs (broken.marks ++ rest) (over (system_of w) cards)) (ends n ls) ∙ more.1);
      audited = broken.audited;
    })

-- what is not the deck's end goes on
pub goes_on : (e : Event) → (e ≡ event.Stops → ⊥) → GoesOn e
goes_on event.Nothing other = tt
goes_on (event.Opens account) other = tt
goes_on (event.Asks command) other = tt
goes_on (event.Enters job) other = tt
goes_on (event.Turns turn) other = tt
goes_on event.Drains other = tt
goes_on event.Stops other = absurd (other refl)

-- behind `$STOP` and a refusal nothing is told of a line
pub untaken : (options : Options) (s : DeckState) (line out : List ℕ) (counts : Counts) (a : Standing) → is_reading s ≡ false → TookLine options s line out counts s out counts a a
untaken options (state.Reading t) line out counts a e = cc
untaken options (state.Stopped sets) line out counts a e = record { marks = []; is = λ rest n ls. refl; lines = []; tells = λ rest n ls. refl; audited = puts_nothing a }
untaken options (state.Refused k code) line out counts a e = record { marks = []; is = λ rest n ls. refl; lines = []; tells = λ rest n ls. refl; audited = puts_nothing a }
untaken options state.NoMemory line out counts a e = record { marks = []; is = λ rest n ls. refl; lines = []; tells = λ rest n ls. refl; audited = puts_nothing a }

pub not_read : (s : DeckState)
    → (((sets : Rc Sets Global) × (s ≡ state.Stopped sets)) ⊎ (((k : ℕ) × (code : DeckError) × (s ≡ state.Refused k code)) ⊎ (s ≡ state.NoMemory))) → is_reading s ≡ false
not_read s (inl h) = ap is_reading h.1
not_read s (inr (inl h)) = ap is_reading h.2
not_read s (inr (inr h)) = ap is_reading h

-- WHERE AN ERROR IS ANSWERED, AND THE AUDIT STANDS AS IT DID

pub errs_silently : {T E : Type 0} (r : Result T E) (options : Options) (s : DeckState) (line : List ℕ) (counts : Counts) (a : Standing) → OnErr r (LineBreaks options s line counts a a)
errs_silently (Ok x) options s line counts a = tt
errs_silently (Err e) options s line counts a = record {
  marks = [];
  lines = [];
  tells = λ rest n ls. (told_from options counts.jobs rest s n (line ∷ ls), refl);
  audited = puts_nothing a;
}

pub on_err : {T E P : Type 0} (r : Result T E) → P → OnErr r P
on_err (Ok x) h = tt
on_err (Err e) h = h
