-- A round, served piece by piece.
use Rattle.std.proofs.Common.{◌≡◌, ℕ, ◌+◌, Bool, true, false, List, [], ◌∷◌, ◌++◌, length, flat_map, refl, sym, ap, ap₂, ◌∙◌, append_assoc, append-nil}
use Rattle.std.{specs.Str.Lines.{lines}, proofs.lemmas.List.Concat.{flat_map-append}}
use Rattle.mon_catalogue.specs.Sets.{Sets}
use Rattle.scheduler.specs.Marks.{Marks}
use Rattle.deck_lines.specs.declared.deck_error.DeckError.{DeckError}
use Rattle.deck_syntax.specs.Decks.{Ending, Stopped, Refused}
use Rattle.deck_driver.specs.declared.{feed.DeckFeed.{DeckFeed}, options.Counts.{Counts}, options.Options.{Options}}
use Rattle.deck_driver.specs.{declared.section.DeckState.{DeckState}, Feeds.{Outcome, Good, Bad, outcome, concluded, sets_left, is_reading, more}}
use Rattle.deck_driver.{specs.Abstraction.{told, audit_told, Took}, specs.Printouts.{output_of}, proofs.Beginnings.{nothing_printed}}
use Rattle.deck_driver.specs.declared.section.DeckState.TheVariants as state
use Rattle.mon_device.{specs.Putting.{Standing, Puts}, proofs.Putting.{puts_same, puts_then}}
use Rattle.deck_run.specs.Runs.{deck_ending, run_state_of, counts_of, catalogue_after}
use Rattle.preflight.specs.declared.submission.Submission.{Submission}
use Rattle.rounds.specs.{Compositions.{with_fence, front_text, ends_of}, Serving.{whole, IsBad}}

-- ---- one piece

-- what was put out stands behind what was put out before
pub behind_both : (m : Marks) (a b : List ℕ) (f : DeckFeed) (bytes : List ℕ)
    → told m (a ++ b) f bytes ≡ record { written = a ++ (told m b f bytes).written; conclusion = (told m b f bytes).conclusion }
behind_both m a b f bytes =
    let later = outcome f.options f.counts.jobs m f.state (f.lines_taken + 1) (lines (f.line ++ bytes)) in
    ap (λ (t : List ℕ). (let o : Outcome = record { written = t; conclusion = more f.counts later.conclusion } in o)) (append_assoc a b later.written)

pub took_behind : (before out : List ℕ) (f g : DeckFeed) (piece : List ℕ) (a b : Standing) → Took [] f piece out g a b → Took before f piece (before ++ out) g a b
took_behind before out f g piece a b took = record {
  marks = took.marks;
  is = λ rest bytes.
      behind_both rest before out g bytes
      ∙ ap (λ (o : Outcome). (let r : Outcome = record { written = before ++ o.written; conclusion = o.conclusion } in r)) (took.is rest bytes)
      ∙ sym (behind_both (took.marks ++ rest) before [] f (piece ++ bytes))
      ∙ ap (λ (t : List ℕ). told (took.marks ++ rest) t f (piece ++ bytes)) (append-nil before);
  audit = took.audit;
  tells = took.tells;
  audited = took.audited;
}

-- and what a sink has gathered was written
pub took_flushed : (s t : List ℕ) (f g : DeckFeed) (piece : List ℕ) (a b c : Standing) → Took s f piece t g a b → Puts b c [] → Took s f piece t g a c
took_flushed s t f g piece a b c took flushed = record {
  marks = took.marks;
  is = took.is;
  audit = took.audit;
  tells = took.tells;
  audited = puts_same a c (took.audit ++ []) took.audit (append-nil took.audit) (puts_then a b c took.audit [] took.audited flushed);
}

pub took_both : (s t u : List ℕ) (f g h : DeckFeed) (piece other : List ℕ) (a b c : Standing) → Took s f piece t g a b → Took t g other u h b c → Took s f (piece ++ other) u h a c
took_both s t u f g h piece other a b c first second = record {
  marks = first.marks ++ second.marks;
  is = λ rest bytes.
      second.is rest bytes ∙ first.is (second.marks ++ rest) (other ++ bytes)
      ∙ ap₂ (λ (m : Marks) (v : List ℕ). told m s f v) (sym (append_assoc first.marks second.marks rest)) (sym (append_assoc piece other bytes));
  audit = first.audit ++ second.audit;
  tells = λ rest bytes.
      ap₂ (λ (m : Marks) (v : List ℕ). audit_told m f v) (append_assoc first.marks second.marks rest) (append_assoc piece other bytes)
      ∙ first.tells (second.marks ++ rest) (other ++ bytes)
      ∙ ap (λ (v : List ℕ). first.audit ++ v) (second.tells rest bytes)
      ∙ sym (append_assoc first.audit second.audit (audit_told rest h bytes));
  audited = puts_then a b c first.audit second.audit first.audited second.audited;
}

pub bad_first : (before : List ℕ) (f : DeckFeed) (piece other : List ℕ) (n : ℕ) (code : DeckError) → IsBad n code before f piece → IsBad n code before f (piece ++ other)
bad_first before f piece other n code bad = record {
  marks = bad.marks;
  is = λ rest bytes. ap (λ (t : List ℕ). (told (bad.marks ++ rest) before f t).conclusion) (append_assoc piece other bytes) ∙ bad.is rest (other ++ bytes);
}

pub bad_then : (s t : List ℕ) (f g : DeckFeed) (piece other : List ℕ) (n : ℕ) (code : DeckError) (a b : Standing) → Took s f piece t g a b → IsBad n code t g other
    → IsBad n code s f (piece ++ other)
bad_then s t f g piece other n code a b took bad = record {
  marks = took.marks ++ bad.marks;
  is = λ rest bytes.
      ap₂ (λ (m : Marks) (v : List ℕ). (told m s f v).conclusion) (append_assoc took.marks bad.marks rest) (append_assoc piece other bytes)
      ∙ ap (λ (o : Outcome). o.conclusion) (sym (took.is (bad.marks ++ rest) (other ++ bytes)))
      ∙ bad.is rest bytes;
}

-- ---- what was put out

-- where nothing of a line is kept, nothing more is printed
pub nothing_more : (m : Marks) (text : List ℕ) (f : DeckFeed) → (is_reading f.state ≡ true → f.line ≡ []) → (told m text f []).written ≡ text
nothing_more m text f settled = by f.state refl
  where
    none : (s : DeckState) → (outcome f.options f.counts.jobs m s (f.lines_taken + 1) (lines (f.line ++ []))).written ≡ [] → f.state ≡ s → (told m text f []).written ≡ text
    none s empty is =
        ap (λ (t : DeckState). text ++ (outcome f.options f.counts.jobs m t (f.lines_taken + 1) (lines (f.line ++ []))).written) is
        ∙ ap (λ (t : List ℕ). text ++ t) empty ∙ append-nil text

    by : (s : DeckState) → f.state ≡ s → (told m text f []).written ≡ text
    by (state.Reading section) is =
        none (state.Reading section)
        (ap (λ (t : List ℕ). (outcome f.options f.counts.jobs m (state.Reading section) (f.lines_taken + 1) (lines (t ++ []))).written) (settled (ap is_reading is))
        ∙ nothing_printed f.options f.counts.jobs m (state.Reading section) (f.lines_taken + 1)) is
    by (state.Stopped sets) is = none (state.Stopped sets) refl is
    by (state.Refused n code) is = none (state.Refused n code) refl is
    by state.NoMemory is = none state.NoMemory refl is

-- where the printout of one text more ends
pub ends_more : (options : Options) (m : Marks) (head : List ℕ) (done : List Submission) (one : Submission)
    → ends_of options m head (done ++ one ∷ []) ≡ ends_of options m head done ++ length (output_of options m (front_text head (done ++ one ∷ []))) ∷ []
ends_more options m head [] one = ap (λ (t : List ℕ). length (output_of options m t) ∷ []) (ap (λ (t : List ℕ). head ++ t) (sym (append-nil (with_fence one))))
ends_more options m head (first ∷ done) one =
    ap (λ (ends : List ℕ). length (output_of options m (head ++ with_fence first)) ∷ ends) (
    ends_more options m (head ++ with_fence first) done one
    ∙ ap (λ (t : List ℕ). ends_of options m (head ++ with_fence first) done ++ length (output_of options m t) ∷ [])
    (append_assoc head (with_fence first) (flat_map with_fence (done ++ one ∷ [])))
    )

pub front_more : (head : List ℕ) (done : List Submission) (one : Submission) → front_text head (done ++ one ∷ []) ≡ front_text head done ++ with_fence one
front_more head done one =
    ap (λ (t : List ℕ). head ++ t) (flat_map-append with_fence done (one ∷ []) ∙ ap (λ (t : List ℕ). flat_map with_fence done ++ t) (append-nil (with_fence one)))
    ∙ sym (append_assoc head (flat_map with_fence done) (with_fence one))

-- ---- how a deck comes out

good_sets : (ending : Ending) (k counts : Counts) (left sets : Sets) → concluded k left ending ≡ Good counts sets → left ≡ sets
good_sets Stopped k counts left sets same = cc
good_sets (Refused n code) k counts left sets same = cc

bad_ending : (ending : Ending) (k : Counts) (left : Sets) (n : ℕ) (code : DeckError) → concluded k left ending ≡ Bad n code → ending ≡ Refused n code
bad_ending Stopped k left n code same = cc
bad_ending (Refused m other) k left n code same = let number : m ≡ n = cc in let why : other ≡ code = cc in ap₂ Refused number why

module _ (options : Options) (m : Marks) (bytes : List ℕ) where
  -- a deck that comes out as refused is refused
  pub ends_bad : (n : ℕ) (code : DeckError) → (whole options m bytes).conclusion ≡ Bad n code → deck_ending bytes ≡ Refused n code
  ends_bad n code is = bad_ending (deck_ending bytes) (counts_of bytes) (sets_left options.check 0 m (run_state_of options bytes)) n code is

  -- one that comes out as good leaves its data sets
  pub ends_good : (counts : Counts) (sets : Sets) → options.check ≡ false → (whole options m bytes).conclusion ≡ Good counts sets → catalogue_after options m bytes ≡ sets
  ends_good counts sets run is =
      sym (ap (λ (b : Bool). sets_left b 0 m (run_state_of options bytes)) run)
      ∙ good_sets (deck_ending bytes) (counts_of bytes) counts (sets_left options.check 0 m (run_state_of options bytes)) sets is
