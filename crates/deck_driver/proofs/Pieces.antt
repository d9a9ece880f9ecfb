-- Pieces that a feed takes, one after the other.
use Rattle.std.proofs.Common.{◌≡◌, ℕ, ◌+◌, List, [], ◌++◌, take, drop, Result, Err, refl, sym, subst, ap, ◌∙◌, append_assoc, append-nil}
use Rattle.std.specs.{declared.alloc.Global.{Global}, declared.rc.Rc.{Rc}, Str.Lines.{lines}}
use Rattle.mon_catalogue.specs.Sets.{Sets}
use Rattle.scheduler.specs.Marks.{Marks}
use Rattle.deck_lines.specs.declared.deck_error.DeckError.{DeckError}
use Rattle.deck_driver.specs.declared.fault.RunError.{RunError, TheVariants.{DeckRefused, ReadFault, WriteFault, AuditFault, Memory}}
use Rattle.deck_driver.specs.{declared.feed.DeckFeed.{DeckFeed}, declared.options.Counts.{Counts}, declared.section.DeckState.{DeckState}, Audits.{told_from}}
use Rattle.deck_driver.specs.{RunStates.{nothing_counted}, Feeds.{Outcome, Good, Bad, outcome, behind, refused_at, OnAnswer, Begins}, inner.Pieces.{TookUpTo}}
use Rattle.deck_driver.{specs.Abstraction.{told, audit_told, outcome_from, Took, Begun}, proofs.Parts.{rejoined}}
use Rattle.deck_driver.specs.declared.section.DeckState.TheVariants as state
use Rattle.mon_device.{specs.Putting.{Standing, Puts}, proofs.Putting.{puts_nothing, puts_then}}

-- nothing was put out
pub begun_same : (before after : List ℕ) (f : DeckFeed) (piece : List ℕ) (a : Standing) → after ≡ before → Begun before f piece after a a
begun_same before after f piece a same = record {
  marks = [];
  is = λ rest bytes.
      let later = (outcome_from rest f (piece ++ bytes)).written in
      (later, ap (λ (t : List ℕ). t ++ later) (sym same));
  audit = [];
  tells = λ rest bytes. (audit_told rest f (piece ++ bytes), refl);
  audited = puts_nothing a;
}

-- and a beginning of what the piece tells
pub begun_told : (before after : List ℕ) (f : DeckFeed) (piece audit : List ℕ) (marks : Marks) (a b : Standing) → after ≡ before
    → ((rest : Marks) → (bytes : List ℕ) → Begins audit (audit_told (marks ++ rest) f (piece ++ bytes))) → Puts a b audit → Begun before f piece after a b
begun_told before after f piece audit marks a b same begins audited = record {
  marks = marks;
  is = λ rest bytes.
      let later = (outcome_from (marks ++ rest) f (piece ++ bytes)).written in
      (later, ap (λ (t : List ℕ). t ++ later) (sym same));
  audit = audit;
  tells = begins;
  audited = audited;
}

-- the beginning of a piece was taken
pub begun_by : (before after : List ℕ) (f g : DeckFeed) (piece : List ℕ) (u : ℕ) (a b : Standing) → Took before f (take u piece) after g a b → Begun before f piece after a b
begun_by before after f g piece u a b took = record {
  marks = took.marks;
  is = λ rest bytes. (
    (outcome_from rest g (drop u piece ++ bytes)).written,
    sym (ap (λ (v : List ℕ). (told (took.marks ++ rest) before f v).written) (rejoined u piece bytes)) ∙ sym (ap (λ (o : Outcome). o.written) (took.is rest (drop u piece ++ bytes))),
  );
  audit = took.audit;
  tells = λ rest bytes. (
    audit_told rest g (drop u piece ++ bytes),
    sym (ap (λ (v : List ℕ). audit_told (took.marks ++ rest) f v) (rejoined u piece bytes)) ∙ took.tells rest (drop u piece ++ bytes),
  );
  audited = took.audited;
}

-- behind `$STOP` nothing is told
stopped_tells : (m : Marks) (before : List ℕ) (f : DeckFeed) (sets : Rc Sets Global) (bytes : List ℕ) → f.state ≡ state.Stopped sets
    → told m before f bytes ≡ behind before f.counts (record { written = []; conclusion = Good nothing_counted sets.value })
stopped_tells m before f sets bytes is = ap (λ (s : DeckState). behind before f.counts (outcome f.options f.counts.jobs m s (f.lines_taken + 1) (lines (f.line ++ bytes)))) is

none_told : (m : Marks) (f : DeckFeed) (s : DeckState) (bytes : List ℕ) → f.state ≡ s → told_from f.options f.counts.jobs m s (f.lines_taken + 1) (lines (f.line ++ bytes)) ≡ [] → audit_told m f bytes ≡ []
none_told m f s bytes is none = ap (λ (s : DeckState). told_from f.options f.counts.jobs m s (f.lines_taken + 1) (lines (f.line ++ bytes))) is ∙ none

pub took_stopped : (before : List ℕ) (f g : DeckFeed) (piece : List ℕ) (sets : Rc Sets Global) (a : Standing) → f.state ≡ state.Stopped sets → g.state ≡ f.state → g.counts ≡ f.counts
    → Took before f piece before g a a
took_stopped before f g piece sets a is same counts = record {
  marks = [];
  is = λ rest bytes.
      stopped_tells rest before g sets bytes (same ∙ is)
      ∙ ap (λ (k : Counts). behind before k (record { written = []; conclusion = Good nothing_counted sets.value })) counts
      ∙ sym (stopped_tells rest before f sets (piece ++ bytes) is);
  audit = [];
  tells = λ rest bytes. none_told rest f (state.Stopped sets) (piece ++ bytes) is refl ∙ sym (none_told rest g (state.Stopped sets) bytes (same ∙ is) refl);
  audited = puts_nothing a;
}

-- and none behind a refusal
refused_tells : (m : Marks) (before : List ℕ) (f : DeckFeed) (n : ℕ) (code : DeckError) (bytes : List ℕ) → f.state ≡ state.Refused n code → told m before f bytes ≡ behind before f.counts (refused_at n code)
refused_tells m before f n code bytes is = ap (λ (s : DeckState). behind before f.counts (outcome f.options f.counts.jobs m s (f.lines_taken + 1) (lines (f.line ++ bytes)))) is

pub refused_told : (m : Marks) (before : List ℕ) (f : DeckFeed) (n : ℕ) (code : DeckError) (bytes : List ℕ) → f.state ≡ state.Refused n code
    → told m before f bytes ≡ record { written = before; conclusion = Bad n code }
refused_told m before f n code bytes is = refused_tells m before f n code bytes is ∙ ap (λ (w : List ℕ). record { written = w; conclusion = Bad n code }) (append-nil before)

pub refused_silent : (m : Marks) (f : DeckFeed) (n : ℕ) (code : DeckError) (bytes : List ℕ) → f.state ≡ state.Refused n code → audit_told m f bytes ≡ []
refused_silent m f n code bytes is = none_told m f (state.Refused n code) bytes is refl

pub took_refused : (before : List ℕ) (f : DeckFeed) (piece : List ℕ) (n : ℕ) (code : DeckError) (a : Standing) → f.state ≡ state.Refused n code → Took before f piece before f a a
took_refused before f piece n code a is = record {
  marks = [];
  is = λ rest bytes. refused_tells rest before f n code bytes is ∙ sym (refused_tells rest before f n code (piece ++ bytes) is);
  audit = [];
  tells = λ rest bytes. refused_silent rest f n code (piece ++ bytes) is ∙ sym (refused_silent rest f n code bytes is);
  audited = puts_nothing a;
}

-- of a piece nothing was taken yet
pub took_none : (before : List ℕ) (f : DeckFeed) (piece : List ℕ) (a : Standing) → TookUpTo before f piece before f piece a a
took_none before f piece a = record { marks = []; is = λ rest bytes. refl; audit = []; tells = λ rest bytes. refl; audited = puts_nothing a }

-- a part of the piece was taken before
module _ (before : List ℕ) (f : DeckFeed) (piece mid : List ℕ) (h : DeckFeed) (left : List ℕ) (a b : Standing) (took : TookUpTo before f piece mid h left a b) where
  pub took_more : (after : List ℕ) (g : DeckFeed) (u : ℕ) (left' : List ℕ) (c : Standing) → left' ≡ drop u left → Took mid h (take u left) after g b c → TookUpTo before f piece after g left' a c
  took_more after g u left' c is next = record {
    marks = took.marks ++ next.marks;
    is = λ rest bytes.
        ap (λ (v : List ℕ). told rest after g (v ++ bytes)) is
        ∙ next.is rest (drop u left ++ bytes)
        ∙ ap (λ (v : List ℕ). told (next.marks ++ rest) mid h v) (rejoined u left bytes)
        ∙ took.is (next.marks ++ rest) bytes
        ∙ ap (λ (m : Marks). told m before f (piece ++ bytes)) (sym (append_assoc took.marks next.marks rest));
    audit = took.audit ++ next.audit;
    tells = λ rest bytes.
        ap (λ (m : Marks). audit_told m f (piece ++ bytes)) (append_assoc took.marks next.marks rest)
        ∙ took.tells (next.marks ++ rest) bytes
        ∙ ap (λ (v : List ℕ). took.audit ++ audit_told (next.marks ++ rest) h v) (sym (rejoined u left bytes))
        ∙ ap (λ (l : List ℕ). took.audit ++ l) (next.tells rest (drop u left ++ bytes))
        ∙ sym (append_assoc took.audit next.audit (audit_told rest g (drop u left ++ bytes)))
        ∙ ap (λ (v : List ℕ). (took.audit ++ next.audit) ++ audit_told rest g (v ++ bytes)) (sym is);
    audited = puts_then a b c took.audit next.audit took.audited next.audited;
  }

  pub took_all : left ≡ [] → Took before f piece mid h a b
  took_all none = record {
    marks = took.marks;
    is = λ rest bytes. ap (λ (v : List ℕ). told rest mid h (v ++ bytes)) (sym none) ∙ took.is rest bytes;
    audit = took.audit;
    tells = λ rest bytes. took.tells rest bytes ∙ ap (λ (v : List ℕ). took.audit ++ audit_told rest h (v ++ bytes)) none;
    audited = took.audited;
  }

  pub begun_so_far : Begun before f piece mid a b
  begun_so_far = record {
    marks = took.marks;
    is = λ rest bytes. ((outcome_from rest h (left ++ bytes)).written, sym (ap (λ (o : Outcome). o.written) (took.is rest bytes)));
    audit = took.audit;
    tells = λ rest bytes. (audit_told rest h (left ++ bytes), took.tells rest bytes);
    audited = took.audited;
  }

  pub begun_more : (after : List ℕ) (c : Standing) → Begun mid h left after b c → Begun before f piece after a c
  begun_more after c next = record {
    marks = took.marks ++ next.marks;
    is = λ rest bytes.
        let begins = next.is rest bytes in (
          begins.0,
          ap (λ (m : Marks). (told m before f (piece ++ bytes)).written) (append_assoc took.marks next.marks rest)
              ∙ sym (ap (λ (o : Outcome). o.written) (took.is (next.marks ++ rest) bytes))
              ∙ begins.1,
        );
    audit = took.audit ++ next.audit;
    tells = λ rest bytes.
        let more = next.tells rest bytes in (
          more.0,
          ap (λ (m : Marks). audit_told m f (piece ++ bytes)) (append_assoc took.marks next.marks rest)
              ∙ took.tells (next.marks ++ rest) bytes
              ∙ ap (λ (l : List ℕ). took.audit ++ l) more.1
              ∙ sym (append_assoc took.audit next.audit more.0),
        );
    audited = puts_then a b c took.audit next.audit took.audited next.audited;
  }

  -- and then the next line of it was refused, or memory ran out
  pub took_answer : (after : List ℕ) (g : DeckFeed) (c : Standing) (answer : Result (Unit {0}) RunError) (error : RunError) → answer ≡ Err error
      → ((n : ℕ) → (code : DeckError) → ◌≡◌ {A = Result ℕ RunError} (Err error) (Err (DeckRefused n code)) → (rest : Marks) → (bytes : List ℕ) → told rest after g bytes ≡ told rest mid h (left ++ bytes))
      → ((n : ℕ) → (code : DeckError) → ◌≡◌ {A = Result ℕ RunError} (Err error) (Err (DeckRefused n code))
      → (c ≡ b) × ((rest : Marks) → (bytes : List ℕ) → (audit_told rest g bytes ≡ []) × (audit_told rest h (left ++ bytes) ≡ [])))
      → OnAnswer answer (Took before f piece after g a c)
  took_answer after g c answer (DeckRefused n code) is refused silent =
      let none = silent n code refl in
      subst (λ (r : Result (Unit {0}) RunError). OnAnswer r (Took before f piece after g a c)) (sym is)
      (record {
        marks = took.marks;
        is = λ rest bytes. refused n code refl rest bytes ∙ took.is rest bytes;
        audit = took.audit;
        tells = λ rest bytes.
            took.tells rest bytes
            ∙ ap (λ (l : List ℕ). took.audit ++ l) ((none.1 rest bytes).1 ∙ sym (none.1 rest bytes).0);
        audited = subst (λ (y : Standing). Puts a y took.audit) (sym none.0) took.audited;
      })
  took_answer after g c answer ReadFault is refused silent = subst (λ (r : Result (Unit {0}) RunError). OnAnswer r (Took before f piece after g a c)) (sym is) tt
  took_answer after g c answer WriteFault is refused silent = subst (λ (r : Result (Unit {0}) RunError). OnAnswer r (Took before f piece after g a c)) (sym is) tt
  took_answer after g c answer AuditFault is refused silent = subst (λ (r : Result (Unit {0}) RunError). OnAnswer r (Took before f piece after g a c)) (sym is) tt
  took_answer after g c answer Memory is refused silent = subst (λ (r : Result (Unit {0}) RunError). OnAnswer r (Took before f piece after g a c)) (sym is) tt
