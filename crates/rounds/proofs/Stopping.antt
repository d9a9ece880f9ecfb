-- Where a round stops: what was put to the audit begins what is told of the piece that was served.
use Rattle.std.proofs.Common.{◌≡◌, ℕ, ◌+◌, ◌<◌, true, List, [], ◌∷◌, ◌++◌, length, take, get_or, refl, sym, ap, ap₂, ◌∙◌, subst, append_assoc, append-nil}
use Rattle.std.{specs.Prelude.{codes, Some}, specs.Str.Lines.{lines}, proofs.lemmas.Option.{slice_get-get_or}}
use Rattle.mon_device.{specs.Putting.{Standing, Puts}, proofs.Putting.{puts_nothing, puts_same, puts_then}}
use Rattle.scheduler.specs.Marks.{Marks}
use Rattle.deck_driver.specs.declared.{feed.DeckFeed.{DeckFeed}, options.Options.{Options}, section.DeckState.{DeckState}}
use Rattle.deck_driver.specs.{Feeds.{Begins, EndsLine, is_reading}, Audits.{audit_for, told_from}, Abstraction.{audit_told, Took, Begun}}
use Rattle.deck_driver.proofs.Telling.{none_told}
use Rattle.deck_driver.specs.declared.section.DeckState.TheVariants as state
use Rattle.preflight.specs.declared.submission.Submission.{Submission}
use Rattle.rounds.specs.{declared.running.Running.{Running}, Compositions.{with_fence, front_text}}
use Rattle.rounds.specs.Serving.{Stands, BeginsTelling, BeginsEnding, StopsWithin, StopsInText}

-- ---- one piece

pub telling_of : (before after : List ℕ) (f : DeckFeed) (piece : List ℕ) (a b : Standing) → Begun before f piece after a b → BeginsTelling f piece a b
telling_of before after f piece a b begun = record { marks = begun.marks; audit = begun.audit; tells = begun.tells; audited = begun.audited }

-- and what a sink has gathered was written
pub telling_flushed : (f : DeckFeed) (piece : List ℕ) (a b c : Standing) → BeginsTelling f piece a b → Puts b c [] → BeginsTelling f piece a c
telling_flushed f piece a b c t flushed = record {
  marks = t.marks;
  audit = t.audit;
  tells = t.tells;
  audited = puts_same a c (t.audit ++ []) t.audit (append-nil t.audit) (puts_then a b c t.audit [] t.audited flushed);
}

pub telling_first : (f : DeckFeed) (piece other : List ℕ) (a b : Standing) → BeginsTelling f piece a b → BeginsTelling f (piece ++ other) a b
telling_first f piece other a b t = record {
  marks = t.marks;
  audit = t.audit;
  tells = λ rest bytes. subst (λ (all : List ℕ). Begins t.audit (audit_told (t.marks ++ rest) f all)) (sym (append_assoc piece other bytes)) (t.tells rest (other ++ bytes));
  audited = t.audited;
}

-- what was told before stands in front
begins_behind : (front text more : List ℕ) → Begins text more → Begins (front ++ text) (front ++ more)
begins_behind front text more begins = (begins.0, ap (λ (t : List ℕ). front ++ t) begins.1 ∙ sym (append_assoc front text begins.0))

pub telling_then : (s t : List ℕ) (f g : DeckFeed) (piece other : List ℕ) (a b c : Standing) → Took s f piece t g a b → BeginsTelling g other b c → BeginsTelling f (piece ++ other) a c
telling_then s t f g piece other a b c took later = record {
  marks = took.marks ++ later.marks;
  audit = took.audit ++ later.audit;
  tells = λ rest bytes.
      subst (Begins (took.audit ++ later.audit))
      (sym (
      ap₂ (λ (m : Marks) (all : List ℕ). audit_told m f all) (append_assoc took.marks later.marks rest) (append_assoc piece other bytes)
      ∙ took.tells (later.marks ++ rest) (other ++ bytes)
      ))
      (begins_behind took.audit later.audit (audit_told (later.marks ++ rest) g (other ++ bytes)) (later.tells rest bytes));
  audited = puts_then a b c took.audit later.audit took.audited later.audited;
}

-- ---- a round, within a piece

-- where nothing of a line is kept, nothing more is told
nothing_told : (m : Marks) (f : DeckFeed) → (is_reading f.state ≡ true → f.line ≡ []) → audit_told m f [] ≡ []
nothing_told m f settled = by f.state refl
  where
    none : (s : DeckState) → told_from f.options f.counts.jobs m s (f.lines_taken + 1) (lines (f.line ++ [])) ≡ [] → f.state ≡ s → audit_told m f [] ≡ []
    none s empty is = ap (λ (t : DeckState). told_from f.options f.counts.jobs m t (f.lines_taken + 1) (lines (f.line ++ []))) is ∙ empty

    by : (s : DeckState) → f.state ≡ s → audit_told m f [] ≡ []
    by (state.Reading section) is =
        none (state.Reading section)
        (ap (λ (t : List ℕ). told_from f.options f.counts.jobs m (state.Reading section) (f.lines_taken + 1) (lines (t ++ []))) (settled (ap is_reading is))
        ∙ none_told f.options f.counts.jobs m (state.Reading section) (f.lines_taken + 1)) is
    by (state.Stopped sets) is = none (state.Stopped sets) refl is
    by (state.Refused n code) is = none (state.Refused n code) refl is
    by state.NoMemory is = none state.NoMemory refl is

module _ (options : Options) (head : List ℕ) (done : List Submission) (r : Running) (a b : Standing) (s : Stands options head done r a b) where
  abbrev front : List ℕ
  front = front_text head done

  -- all that is told of what was served
  all_told : (marks : Marks) → EndsLine front → (rest : Marks) → audit_for options ((s.marks ++ marks) ++ rest) front ≡ s.audit
  all_told marks ends rest =
      ap₂ (λ (m : Marks) (t : List ℕ). audit_for options m t) (append_assoc s.marks marks rest) (sym (append-nil front))
      ∙ s.audits (marks ++ rest) []
      ∙ ap (λ (t : List ℕ). s.audit ++ t) (nothing_told (marks ++ rest) r.feed (s.settled ends))
      ∙ append-nil s.audit

  module _ (c : Standing) (piece : List ℕ) where
    pub stops_within : BeginsTelling r.feed piece b c → StopsWithin options front piece a c
    stops_within t = record {
      marks = s.marks ++ t.marks;
      before = s.audit;
      is_all = all_told t.marks;
      more = t.audit;
      begins = λ rest.
          subst (Begins (s.audit ++ t.audit))
          (sym (
          ap₂ (λ (m : Marks) (all : List ℕ). audit_for options m all) (append_assoc s.marks t.marks rest) (ap (λ (last : List ℕ). front ++ last) (sym (append-nil piece)))
          ∙ s.audits (t.marks ++ rest) (piece ++ [])
          ))
          (begins_behind s.audit t.audit (audit_told (t.marks ++ rest) r.feed (piece ++ [])) (t.tells rest []));
      audited = puts_then a b c s.audit t.audit s.audited t.audited;
    }

    -- the piece was served, and the deck is at its end
    pub stops_behind : (out : List ℕ) (g : DeckFeed) (d : Standing) → Took r.output.items r.feed piece out g b c → BeginsEnding g c d → StopsWithin options front piece a d
    stops_behind out g d took end = record {
      marks = s.marks ++ (took.marks ++ end.marks);
      before = s.audit;
      is_all = all_told (took.marks ++ end.marks);
      more = took.audit ++ end.audit;
      begins = λ rest.
          subst (Begins (s.audit ++ (took.audit ++ end.audit)))
          (sym (
          ap₂ (λ (m : Marks) (all : List ℕ). audit_for options m all) (append_assoc s.marks (took.marks ++ end.marks) rest)
          (ap (λ (last : List ℕ). front ++ last) (sym (append-nil piece)))
          ∙ s.audits ((took.marks ++ end.marks) ++ rest) (piece ++ [])
          ∙ ap (λ (m : Marks). s.audit ++ audit_told m r.feed (piece ++ [])) (append_assoc took.marks end.marks rest)
          ∙ ap (λ (t : List ℕ). s.audit ++ t) (took.tells (end.marks ++ rest) [])
          ))
          (begins_behind s.audit (took.audit ++ end.audit) (took.audit ++ audit_told (end.marks ++ rest) g [])
          (begins_behind took.audit end.audit (audit_told (end.marks ++ rest) g []) (end.tells rest)));
      audited = puts_then a b d s.audit (took.audit ++ end.audit) s.audited (puts_then b c d took.audit end.audit took.audited end.audited);
    }

-- nothing ends a line where nothing was served
pub none_ends : {P : Type 0} → EndsLine [] → P
none_ends ends = none ends.0 ends.1
  where
    none : {P : Type 0} (front : List ℕ) → [] ≡ front ++ 10 ∷ [] → P
    none [] same = cc
    none (c ∷ front) same = cc

-- before anything was served
pub stops_at_once : (options : Options) (head : List ℕ) (a : Standing) → StopsWithin options [] head a a
stops_at_once options head a = record {
  marks = [];
  before = [];
  is_all = λ ends. none_ends ends;
  more = [];
  begins = λ rest. (audit_for options rest head, refl);
  audited = puts_nothing a;
}

-- in the text that is next
pub stops_in_text : (options : Options) (head : List ℕ) (texts : List Submission) (i k : ℕ) (text : Submission) (r : Running) (a b c : Standing) → i < length texts → text ≡ get_or texts i text
    → k ≡ i + 1 → Stands options head (take i texts) r a b → BeginsTelling r.feed (with_fence text) b c → StopsInText options head texts k a c
stops_in_text options head texts i k text r a b c less is number s t = record {
  index = i;
  number = number;
  text = text;
  is = slice_get-get_or texts i text less ∙ ap Some (sym is);
  stops = stops_within options head (take i texts) r a b s c (with_fence text) t;
}

-- the end of the deck
pub ending_of : (f : DeckFeed) (a b : Standing) (marks : Marks) (audit : List ℕ) → ((rest : Marks) → Begins audit (audit_told (marks ++ rest) f [])) → Puts a b audit → BeginsEnding f a b
ending_of f a b marks audit tells audited = record { marks = marks; audit = audit; tells = tells; audited = audited }
