-- What a feed tells, step by step.
use Rattle.std.proofs.Common.{◌≡◌, ℕ, ◌+◌, Bool, true, false, List, [], ◌∷◌, ◌++◌, length, drop, Some, None, Result, Ok, Err, refl, sym, ap, subst, ◌∙◌, append-nil, IfOk, ◌==◌, if◌then◌else◌}
use Rattle.std.specs.Str.Lines.{lines}
use Rattle.mon_text.specs.{Feeding.{Takes}, declared.stop.Stop.{Stop}}
use Rattle.mon_text.specs.declared.stop.Stop.TheVariants as stop
use Rattle.deck_lines.specs.{inner.Stops.{IfRefused}, declared.deck_error.DeckError.{DeckError}, declared.deck_error.DeckError.TheVariants.{Truncated}}
use Rattle.mon_catalogue.specs.Sets.{Sets}
use Rattle.scheduler.specs.Marks.{Marks}
use Rattle.deck_driver.specs.declared.{fault.RunError.{RunError}, fault.RunError.TheVariants.{DeckRefused, Memory}, options.Counts.{Counts}}
use Rattle.deck_driver.specs.declared.{options.Options.{Options}, section.Section.{Section}, section.DeckState.{DeckState}}
use Rattle.deck_driver.specs.{RunStates.{nothing_counted, both_counted}, Printouts.{ReadsBack}, Abstraction.{last_lines}, Audits.{told_to, told_from}}
use Rattle.deck_driver.specs.Feeds.{outcome, outcome_of, behind, refused_at, fault_at, stopped_by, IsReadBack, Outcome, Good, Bad, Begins}
use Rattle.deck_driver.specs.inner.Lines.{TookLine, LineBreaks, Ended, EndBegun}
use Rattle.deck_driver.proofs.{Commanding.{and_nothing}, Following.{alike, alike_told, ends_here, outcome_refused, told_refused as tells_none}}
use Rattle.deck_driver.specs.declared.section.DeckState.TheVariants as state
use Rattle.mon_device.{specs.Putting.{Standing, Puts}, proofs.Putting.{puts_nothing}}

module _ (options : Options) (s : DeckState) (n : ℕ) (out : List ℕ) (counts : Counts) (old piece : List ℕ) (used : ℕ) where
  -- no line ended
  pub told_none : (new : List ℕ) → Takes old piece used None new → (m : Marks) → (bytes : List ℕ)
      → behind out counts (outcome options counts.jobs m s n (lines (new ++ bytes))) ≡ behind out counts (outcome options counts.jobs m s n (lines (old ++ (piece ++ bytes))))
  told_none new taken m bytes = ap (behind out counts) (alike options counts.jobs m s n _ _ (taken.1 bytes))

  pub audit_none : (new : List ℕ) → Takes old piece used None new → (m : Marks) → (bytes : List ℕ)
      → told_from options counts.jobs m s n (lines (old ++ (piece ++ bytes))) ≡ told_from options counts.jobs m s n (lines (new ++ bytes))
  audit_none new taken m bytes = sym (alike_told options counts.jobs m s n _ _ (taken.1 bytes))

  -- a line ended where the piece did, and was taken
  pub told_some : (line new : List ℕ) → drop used piece ≡ [] → Takes old piece used (Some line) new
      → (s' : DeckState) (out' : List ℕ) (counts' : Counts) (a b : Standing) → (step : TookLine options s line out counts s' out' counts' a b) → (rest : Marks) → (bytes : List ℕ)
      → behind out' counts' (outcome options counts'.jobs rest s' (n + 1) (lines (new ++ bytes)))
      ≡ behind out counts (outcome options counts.jobs (step.marks ++ rest) s n (lines (old ++ (piece ++ bytes))))
  told_some line new all taken s' out' counts' a b step rest bytes =
      let m = step.marks ++ rest in
      ap (λ v. behind out' counts' (outcome options counts'.jobs rest s' (n + 1) (lines (v ++ bytes)))) taken.2
      ∙ step.is rest n (lines bytes)
      ∙ ap (λ v. behind out counts (outcome options counts.jobs m s n (line ∷ lines (v ++ bytes)))) (sym all)
      ∙ ap (behind out counts) (alike options counts.jobs m s n _ _ (taken.3 bytes))

  pub audit_some : (line new : List ℕ) → drop used piece ≡ [] → Takes old piece used (Some line) new
      → (s' : DeckState) (out' : List ℕ) (counts' : Counts) (a b : Standing) → (step : TookLine options s line out counts s' out' counts' a b) → (rest : Marks) → (bytes : List ℕ)
      → told_from options counts.jobs (step.marks ++ rest) s n (lines (old ++ (piece ++ bytes))) ≡ step.lines ++ told_from options counts'.jobs rest s' (n + 1) (lines (new ++ bytes))
  audit_some line new all taken s' out' counts' a b step rest bytes =
      let m = step.marks ++ rest in
      sym (alike_told options counts.jobs m s n _ _ (taken.3 bytes))
      ∙ ap (λ v. told_from options counts.jobs m s n (line ∷ lines (v ++ bytes))) all
      ∙ step.tells rest n (lines bytes)
      ∙ ap (λ v. step.lines ++ told_from options counts'.jobs rest s' (n + 1) (lines (v ++ bytes))) (sym taken.2)

  -- a line ended, and memory ran out within it
  pub audit_begins : (line new : List ℕ) → Takes old piece used (Some line) new → (a b : Standing) → (broken : LineBreaks options s line counts a b) → (rest : Marks) → (bytes : List ℕ)
      → Begins broken.lines (told_from options counts.jobs (broken.marks ++ rest) s n (lines (old ++ (piece ++ bytes))))
  audit_begins line new taken a b broken rest bytes =
      let more = broken.tells rest n (lines (drop used piece ++ bytes)) in (
        more.0,
        sym (alike_told options counts.jobs (broken.marks ++ rest) s n _ _ (taken.3 bytes)) ∙ more.1,
      )

  -- and where it was refused, nothing is told
  pub audit_refused : (line new : List ℕ) → Takes old piece used (Some line) new → (m : Marks)
      → ((ls : List (List ℕ)) → told_from options counts.jobs m s n (line ∷ ls) ≡ []) → (bytes : List ℕ) → told_from options counts.jobs m s n (lines (old ++ (piece ++ bytes))) ≡ []
  audit_refused line new taken m none bytes = sym (alike_told options counts.jobs m s n _ _ (taken.3 bytes)) ∙ none (lines (drop used piece ++ bytes))

  -- a line ended, and was refused
  pub told_refused : (line new : List ℕ) → Takes old piece used (Some line) new → (m : Marks)
      → (refused : Outcome) → ((ls : List (List ℕ)) → refused ≡ behind out counts (outcome options counts.jobs m s n (line ∷ ls)))
      → (bytes : List ℕ) → refused ≡ behind out counts (outcome options counts.jobs m s n (lines (old ++ (piece ++ bytes))))
  told_refused line new taken m refused step bytes =
      step (lines (drop used piece ++ bytes)) ∙ ap (behind out counts) (alike options counts.jobs m s n _ _ (taken.3 bytes))

-- what an answer tells
abbrev pub of_answer : Result Counts RunError → Outcome
of_answer (Err (DeckRefused n code)) = refused_at n code
of_answer _ = refused_at 0 Truncated

pub reading_ends : (options : Options) (jobs : ℕ) (marks : Marks) (section : Section) (n m : ℕ) (code : DeckError) (answer : Result Counts RunError)
    → answer ≡ Err (DeckRefused n Truncated) → answer ≡ Err (DeckRefused m code) → outcome options jobs marks (state.Reading section) n [] ≡ refused_at m code
reading_ends options jobs marks section n m code answer is refused =
    ap (outcome_of options.check jobs marks) (ends_here options.slots.number section n)
    ∙ outcome_refused options.check options.slots.number jobs marks section n Truncated
    ∙ ap of_answer (sym is ∙ refused)

pub behind_refused : (out : List ℕ) (counts : Counts) (n : ℕ) (code : DeckError) → behind out counts (refused_at n code) ≡ record { written = out; conclusion = Bad n code }
behind_refused out counts n code = ap (λ w. record { written = w; conclusion = Bad n code }) (append-nil out)

pub behind_good : (out : List ℕ) (counts : Counts) (sets : Sets)
    → behind out counts (record { written = []; conclusion = Good nothing_counted sets }) ≡ record { written = out; conclusion = Good counts sets }
behind_good out counts sets =
    ap (λ w. record { written = w; conclusion = Good (both_counted counts nothing_counted) sets }) (append-nil out)
    ∙ ap (λ (k : Counts). record { written = out; conclusion = Good k sets }) (and_nothing counts)

-- the same refusal of another call
abbrev pub error_of : {T : Type 0} → Result T RunError → RunError → RunError
error_of (Ok x) other = other
error_of (Err error) other = error

pub refused_so : {T U : Type 0} (error : RunError) (n : ℕ) (code : DeckError) → ◌≡◌ {A = Result T RunError} (Err error) (Err (DeckRefused n code)) → ◌≡◌ {A = Result U RunError} (Err error) (Err (DeckRefused n code))
refused_so error n code same = ap Err (ap (λ r. error_of r error) same)

-- the lines have come to an end: so it comes out
abbrev pub Concludes : DeckState → ℕ → Counts → Result Counts RunError → Type 0
Concludes s n counts answer = IfOk answer (λ all.
    (sets : Sets) × ((options : Options) → (jobs : ℕ) → (m : Marks) → outcome options jobs m s n [] ≡ record { written = []; conclusion = Good nothing_counted sets })
    × ((check : Bool) → IsReadBack check s → check ≡ false → ReadsBack sets) × (all ≡ counts))

-- at the end nothing more is told
pub none_told : (options : Options) (jobs : ℕ) (m : Marks) (s : DeckState) (n : ℕ) → told_from options jobs m s n [] ≡ []
none_told options jobs m (state.Reading section) n =
    ap (told_to options.check jobs m) (ends_here options.slots.number section n) ∙ tells_none options.check options.slots.number jobs m section n Truncated
none_told options jobs m (state.Stopped sets) n = refl
none_told options jobs m (state.Refused k code) n = refl
none_told options jobs m state.NoMemory n = refl

-- so a deck comes out
abbrev pub Comes : Options → DeckState → ℕ → List (List ℕ) → List ℕ → Counts → List ℕ → Standing → Standing → Result Counts RunError → Type 0
Comes options s n ls before counts after a b answer = IfOk answer (λ all.
    (sets : Sets) × Ended options s n ls before counts after (Good all sets) a b × (IsReadBack options.check s → options.check ≡ false → ReadsBack sets))

-- the same of lines that are the same, in parts
pub comes_so : (options : Options) (s : DeckState) (n : ℕ) (ls ls' : List (List ℕ)) (before : List ℕ) (counts : Counts) (after : List ℕ) (a b : Standing) (answer : Result Counts RunError)
    → ls ≡ ls' → Comes options s n ls before counts after a b answer
    → IfOk answer (λ all. (marks : Marks) × (sets : Sets)
    × ((rest : Marks) → behind before counts (outcome options counts.jobs (marks ++ rest) s n ls') ≡ record { written = after; conclusion = Good all sets })
    × (audited : List ℕ) × ((rest : Marks) → told_from options counts.jobs (marks ++ rest) s n ls' ≡ audited) × Puts a b audited
    × (IsReadBack options.check s → options.check ≡ false → ReadsBack sets))
comes_so options s n ls ls' before counts after a b (Err error) same ended = tt
comes_so options s n ls ls' before counts after a b (Ok all) same ended = (
  ended.1.marks,
  ended.0,
  λ rest. ap (λ (l : List (List ℕ)). behind before counts (outcome options counts.jobs (ended.1.marks ++ rest) s n l)) (sym same) ∙ ended.1.is rest,
  ended.1.lines,
  λ rest. ap (λ (l : List (List ℕ)). told_from options counts.jobs (ended.1.marks ++ rest) s n l) (sym same) ∙ ended.1.tells rest,
  ended.1.audited,
  ended.2,
)

-- the last line was taken, and the deck ends there
module _ (options : Options) (out : List ℕ) (counts : Counts) (s : DeckState) (n m : ℕ) (last out' : List ℕ) (counts' : Counts) (after : DeckState) (a b : Standing)
    (full : (length last == 0) ≡ false) (next : m ≡ n + 1) (step : TookLine options s last out counts after out' counts' a b) where
  pub at_last : (rest : Marks) (o : Outcome) → outcome options counts'.jobs rest after m [] ≡ o
      → behind out counts (outcome options counts.jobs (step.marks ++ rest) s n (last_lines last)) ≡ behind out' counts' o
  at_last rest o is =
      ap (λ b. behind out counts (outcome options counts.jobs (step.marks ++ rest) s n (if b then [] else last ∷ []))) full
      ∙ sym (step.is rest n [])
      ∙ ap (λ k. behind out' counts' (outcome options counts'.jobs rest after k [])) (sym next)
      ∙ ap (behind out' counts') is

  last_told : (rest : Marks) → told_from options counts.jobs (step.marks ++ rest) s n (last_lines last) ≡ step.lines
  last_told rest =
      ap (λ b. told_from options counts.jobs (step.marks ++ rest) s n (if b then [] else last ∷ [])) full
      ∙ step.tells rest n []
      ∙ ap (λ (l : List ℕ). step.lines ++ l) (none_told options counts'.jobs rest after (n + 1))
      ∙ append-nil step.lines

  pub last_good : (IsReadBack options.check s → IsReadBack options.check after) → (answer : Result Counts RunError)
      → Concludes after m counts' answer → Comes options s n (last_lines last) out counts out' a b answer
  last_good back (Err error) ended = tt
  last_good back (Ok all) ended = (
    ended.0,
    record {
      marks = step.marks;
      is = λ rest.
          at_last rest _ (ended.1 options counts'.jobs rest)
          ∙ behind_good out' counts' ended.0
          ∙ ap (λ (k : Counts). record { written = out'; conclusion = Good k ended.0 }) (sym ended.3);
      lines = step.lines;
      tells = last_told;
      audited = step.audited;
    },
    λ before no. ended.2 options.check (back before) no,
  )

  pub last_bad : (k : ℕ) (code : DeckError) → ((options : Options) → (jobs : ℕ) → (marks : Marks) → outcome options jobs marks after m [] ≡ refused_at k code)
      → Ended options s n (last_lines last) out counts out' (Bad k code) a b
  last_bad k code bad = record {
    marks = step.marks;
    is = λ rest. at_last rest _ (bad options counts'.jobs rest) ∙ behind_refused out' counts' k code;
    lines = step.lines;
    tells = last_told;
    audited = step.audited;
  }

  pub last_begun : EndBegun options s n (last_lines last) out counts out' a b
  last_begun = record {
    marks = step.marks;
    is = λ rest.
        let later = outcome options counts'.jobs rest after m [] in
        (later.written, ap (λ (o : Outcome). o.written) (at_last rest later refl));
    lines = step.lines;
    tells = λ rest. ([], last_told rest ∙ sym (append-nil step.lines));
    audited = step.audited;
  }

-- no line is left
module _ (options : Options) (out : List ℕ) (counts : Counts) (s : DeckState) (n : ℕ) (last : List ℕ) (a : Standing) (empty : (length last == 0) ≡ true) where
  none_left : (m : Marks) → behind out counts (outcome options counts.jobs m s n (last_lines last)) ≡ behind out counts (outcome options counts.jobs m s n [])
  none_left m = ap (λ b. behind out counts (outcome options counts.jobs m s n (if b then [] else last ∷ []))) empty

  none_more : (m : Marks) → told_from options counts.jobs m s n (last_lines last) ≡ []
  none_more m = ap (λ b. told_from options counts.jobs m s n (if b then [] else last ∷ [])) empty ∙ none_told options counts.jobs m s n

  pub none_good : (answer : Result Counts RunError) → Concludes s n counts answer → Comes options s n (last_lines last) out counts out a a answer
  none_good (Err error) ended = tt
  none_good (Ok all) ended = (
    ended.0,
    record {
      marks = [];
      is = λ rest.
          none_left rest
          ∙ ap (behind out counts) (ended.1 options counts.jobs rest)
          ∙ behind_good out counts ended.0
          ∙ ap (λ (k : Counts). record { written = out; conclusion = Good k ended.0 }) (sym ended.3);
      lines = [];
      tells = none_more;
      audited = puts_nothing a;
    },
    λ before no. ended.2 options.check before no,
  )

  pub none_bad : (k : ℕ) (code : DeckError) → ((options : Options) → (jobs : ℕ) → (marks : Marks) → outcome options jobs marks s n [] ≡ refused_at k code)
      → Ended options s n (last_lines last) out counts out (Bad k code) a a
  none_bad k code bad = record {
    marks = [];
    is = λ rest. none_left rest ∙ ap (behind out counts) (bad options counts.jobs rest) ∙ behind_refused out counts k code;
    lines = [];
    tells = none_more;
    audited = puts_nothing a;
  }

-- nothing was put out, and a beginning was told
pub begun_last : (options : Options) (s : DeckState) (n : ℕ) (ls : List (List ℕ)) (out : List ℕ) (counts : Counts) (after : List ℕ) (a : Standing) → after ≡ out
    → EndBegun options s n ls out counts after a a
begun_last options s n ls out counts after a same = record {
  marks = [];
  is = λ rest.
      let later = (outcome options counts.jobs rest s n ls).written in
      (later, ap (λ t. t ++ later) (sym same));
  lines = [];
  tells = λ rest. (told_from options counts.jobs rest s n ls, refl);
  audited = puts_nothing a;
}

pub broken_last : (options : Options) (s : DeckState) (n : ℕ) (last out : List ℕ) (counts : Counts) (after : List ℕ) (a b : Standing) → (length last == 0) ≡ false → after ≡ out
    → LineBreaks options s last counts a b → EndBegun options s n (last_lines last) out counts after a b
broken_last options s n last out counts after a b full same broken = record {
  marks = broken.marks;
  is = λ rest.
      let later = (outcome options counts.jobs (broken.marks ++ rest) s n (last_lines last)).written in
      (later, ap (λ t. t ++ later) (sym same));
  lines = broken.lines;
  tells = λ rest.
      let more = broken.tells rest n [] in
      (more.0, ap (λ b. told_from options counts.jobs (broken.marks ++ rest) s n (if b then [] else last ∷ [])) full ∙ more.1);
  audited = broken.audited;
}

-- the last line was refused
pub stop_bad : (options : Options) (out : List ℕ) (counts : Counts) (s : DeckState) (n : ℕ) (last out' : List ℕ) (a b : Standing) → (length last == 0) ≡ false → out' ≡ out
    → (c : DeckError) → ((jobs : ℕ) → (m : Marks) → (n : ℕ) → (ls : List (List ℕ)) → outcome options jobs m s n (last ∷ ls) ≡ refused_at n c)
    → (b ≡ a) × ((jobs : ℕ) → (m : Marks) → (n : ℕ) → (ls : List (List ℕ)) → told_from options jobs m s n (last ∷ ls) ≡ [])
    → (told : DeckError) → told ≡ c → (k : ℕ) → (code : DeckError) → ◌≡◌ {A = Result Counts RunError} (Err (DeckRefused n told)) (Err (DeckRefused k code))
    → Ended options s n (last_lines last) out counts out' (Bad k code) a b
stop_bad options out counts s n last out' a b full same c refused silent told is k code error = record {
  marks = [];
  is = λ rest.
      ap (λ b. behind out counts (outcome options counts.jobs rest s n (if b then [] else last ∷ []))) full
      ∙ ap (behind out counts) (refused counts.jobs rest n [])
      ∙ behind_refused out counts n c
      ∙ ap (λ t. record { written = t; conclusion = Bad n c }) (sym same)
      ∙ ap (λ (d : DeckError). record { written = out'; conclusion = Bad n d }) (sym is)
      ∙ ap (λ (o : Outcome). record { written = out'; conclusion = o.conclusion }) (ap of_answer error);
  lines = [];
  tells = λ rest. ap (λ b. told_from options counts.jobs rest s n (if b then [] else last ∷ [])) full ∙ silent.1 counts.jobs rest n [];
  audited = subst (λ (y : Standing). Puts a y []) (sym silent.0) (puts_nothing a);
}

-- a line was refused, and so the feed stands
pub stop_told : (options : Options) (out : List ℕ) (counts k : Counts) (s s' : DeckState) (n i : ℕ) (line : List ℕ) (stop : Stop DeckError) (m : Marks)
    → IfRefused (λ code. (jobs : ℕ) → (m : Marks) → (n : ℕ) → (ls : List (List ℕ)) → outcome options jobs m s n (line ∷ ls) ≡ refused_at n code) stop
    → s' ≡ stopped_by (fault_at n stop) → (fault : RunError) → fault ≡ fault_at n stop → (j : ℕ) → (code : DeckError) → fault ≡ DeckRefused j code
    → (later ls : List (List ℕ)) → behind out k (outcome options k.jobs m s' i later) ≡ behind out counts (outcome options counts.jobs m s n (line ∷ ls))
stop_told options out counts k s s' n i line stop.Memory m refused stands fault is j code bad later ls =
    let no : Memory ≡ DeckRefused j code = sym is ∙ bad in
    cc
stop_told options out counts k s s' n i line (stop.Refused c) m refused stands fault is j code bad later ls =
    ap (λ (v : DeckState). behind out k (outcome options k.jobs m v i later)) stands ∙ ap (behind out counts) (sym (refused counts.jobs m n ls))

-- and nothing was told of it
pub stop_silent : (stop : Stop DeckError) (P : Type 0) → IfRefused (λ code. P) stop → (n : ℕ) (fault : RunError) → fault ≡ fault_at n stop → (j : ℕ) (code : DeckError) → fault ≡ DeckRefused j code → P
stop_silent stop.Memory P refused n fault is j code bad =
    let no : Memory ≡ DeckRefused j code = sym is ∙ bad in
    absurd (cc (no))
stop_silent (stop.Refused c) P refused n fault is j code bad = refused
