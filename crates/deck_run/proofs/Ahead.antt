-- What was written ahead: what a sink has taken, text by text, and what a writer holds then.
use Rattle.std.proofs.Common.{◌≡◌, ◌⊎◌, inl, inr, ℕ, Bool, true, false, List, [], ◌∷◌, ◌++◌, take, drop, Option, Result, Ok, Err, IfOk, IfErr, refl, sym, ap, subst, ◌∙◌, arith, append_assoc, append-nil, if◌then◌else◌}
use Rattle.std.{proofs.lemmas.List.{take-append-drop}, specs.Str.Lines.{lines}}
use Rattle.mon_text.specs.Feeding.{has_no_end}
use Rattle.mon_catalogue.specs.Sets.{Sets}
use Rattle.scheduler.specs.Marks.{Marks}
use Rattle.mon_device.specs.{Devices.{holding, Gives}, Putting.{Standing, Puts}}
use Rattle.mon_device.proofs.{Putting.{puts_same, puts_then}, Holding.{holding-append, holding-nothing}}
use Rattle.deck_lines.specs.declared.deck_error.DeckError.{DeckError}
use Rattle.deck_syntax.specs.Sections.{deck_of}
use Rattle.deck_driver.specs.{declared.feed.DeckFeed.{DeckFeed}, declared.fault.RunError.{RunError}, declared.options.Counts.{Counts}, RunStates.{opening}}
use Rattle.deck_driver.specs.declared.{fault.RunError.TheVariants.{DeckRefused, ReadFault, WriteFault, AuditFault, Memory}, options.Options.{Options}}
use Rattle.deck_driver.specs.{Printouts.{answer_to, output_of, ReadsBack}, Feeds.{Outcome, Good, Bad, IsOwn, IsReadBack}, Abstraction.{told, audit_told, Took}}
use Rattle.deck_driver.specs.Audits.{told_to, audit_for}
use Rattle.deck_run.specs.{Runs.{HoldsBeginning, whole_lines, run_state_of}, Audited.{is_broken, Audited, end_told, IsSettled, HasAllTaken, IsWrittenAhead}}
use Rattle.deck_run.specs.inner.{Ahead.{IsLong, Ahead, IsAhead, EndsAhead}, Writing.{holds, HasGrown, Serves, Runs}}
use Rattle.deck_run.proofs.{Holdings.{Far, held_begins, grown_held, not_grown, serves_written}, Running.{Opens, Tells}}
use Rattle.deck_run.proofs.Due.{one_line_more, untold, answer_same, told_same, long_bytes}

-- the audit is that of the history
pub audited : Audited
audited options m bytes run = ap (λ (check : Bool). told_to check 0 m (run_state_of options bytes)) run

-- where a run broke off, nothing is told of its end
pub nothing_told : (check : Bool) (answer : Result Counts RunError) → is_broken answer ≡ true → end_told check answer ≡ []
nothing_told true answer broken = refl
nothing_told false (Ok counts) broken = cc
nothing_told false (Err (DeckRefused n code)) broken = cc
nothing_told false (Err ReadFault) broken = refl
nothing_told false (Err WriteFault) broken = refl
nothing_told false (Err AuditFault) broken = refl
nothing_told false (Err Memory) broken = refl

-- ---- what a sink has taken

pub taken_same : (a b : Standing) (s t : List ℕ) → s ≡ t → HasAllTaken a b s → HasAllTaken a b t
taken_same a b s t same taken = subst (λ (v : List ℕ). HasAllTaken a b v) same taken

-- what was put to a sink that is settled then
pub taken_settled : (a b : Standing) (text : List ℕ) → Puts a b text → IsSettled b → HasAllTaken a b text
taken_settled a b text puts settled =
    let sound = puts.all settled.1 in
    record {
      sound = sound.0;
      more = [];
      is =
          puts.taken.1
          ∙ ap (λ (v : List ℕ). holding a.written v)
          (sym (append-nil puts.taken.0)
          ∙ ap (λ (v : List ℕ). puts.taken.0 ++ v) (sym (sound.1 ∙ settled.0))
          ∙ sym puts.taken.2
          ∙ sym (append-nil (a.gathered ++ text)));
    }

-- and still later
pub taken_later : (a b c : Standing) (text next : List ℕ) → HasAllTaken a b text → Puts b c next → HasAllTaken a c text
taken_later a b c text next taken puts = record {
  sound = taken.sound;
  more = taken.more ++ puts.taken.0;
  is =
      puts.taken.1
      ∙ ap (λ (w : Option (List ℕ)). holding w puts.taken.0) taken.is
      ∙ holding-append a.written (a.gathered ++ text ++ taken.more) puts.taken.0
      ∙ ap (λ (v : List ℕ). holding a.written v) (append_assoc (a.gathered ++ text) taken.more puts.taken.0);
}

-- behind a text that was put before
pub taken_behind : (a b c : Standing) (s t : List ℕ) → Puts a b s → HasAllTaken b c t → HasAllTaken a c (s ++ t)
taken_behind a b c s t puts taken =
    let sound = puts.all taken.sound in
    let first = puts.taken.0 in
    record {
      sound = sound.0;
      more = taken.more;
      is =
          taken.is
          ∙ ap (λ (w : Option (List ℕ)). holding w (b.gathered ++ t ++ taken.more)) puts.taken.1
          ∙ holding-append a.written first (b.gathered ++ t ++ taken.more)
          ∙ ap (λ (v : List ℕ). holding a.written v)
          (sym (append_assoc first (b.gathered ++ t) taken.more)
          ∙ ap (λ (v : List ℕ). v ++ taken.more)
          (sym (append_assoc first b.gathered t)
          ∙ ap (λ (v : List ℕ). v ++ t) (ap (λ (v : List ℕ). first ++ v) (sym sound.1) ∙ sym puts.taken.2)
          ∙ append_assoc a.gathered s t));
    }

-- nothing of it
taken_none : (a b : Standing) (text : List ℕ) → HasAllTaken a b text → HasAllTaken a b []
taken_none a b text taken = record {
  sound = taken.sound;
  more = text ++ taken.more;
  is =
      taken.is
      ∙ ap (λ (v : List ℕ). holding a.written v)
      (append_assoc a.gathered text taken.more ∙ ap (λ (v : List ℕ). v ++ (text ++ taken.more)) (sym (append-nil a.gathered)));
}

-- ---- a part, and another

-- all that a part puts out is due, and all that it tells was taken
pub served_ahead : (held mid now : Option (List ℕ)) (before after : List ℕ) (f g : DeckFeed) (front back part : List ℕ) (a b c : Standing) → part ≡ front ++ back → HasGrown held mid
    → Serves held mid before f front after g a b → HoldsBeginning mid now after → Puts b c [] → IsSettled c → Ahead held now before f part a c
served_ahead held mid now before after f g front back part a b c are grown serves written put settled = record {
  marks = serves.marks ++ [];
  front = front;
  back = back;
  are = are;
  shown = λ line long.
      let later = told [] after g line in
      grown_held held mid now (told (serves.marks ++ []) before f (front ++ line)) later grown (serves.is [] line)
      (held_begins mid now after later.written written ((told [] [] g line).written, refl));
  taken = λ line long.
      taken_same a c serves.audit (audit_told (serves.marks ++ []) f (front ++ line))
      (sym (append-nil serves.audit) ∙ ap (λ (l : List ℕ). serves.audit ++ l) (sym (untold line long.0 long.1 [] g)) ∙ sym (serves.tells [] line))
      (taken_settled a c serves.audit (puts_same a c (serves.audit ++ []) serves.audit (append-nil serves.audit) (puts_then a b c serves.audit [] serves.audited put)) settled);
}

-- a line was taken
pub line_ahead : (held now : Option (List ℕ)) (before mid : List ℕ) (f g : DeckFeed) (used : ℕ) (piece : List ℕ) (a b c : Standing) → Took before f (take used piece) mid g a b
    → HoldsBeginning held now mid → Puts b c [] → (now ≡ held) ⊎ IsSettled c → IsAhead held now before f piece a c
line_ahead held now before mid f g used piece a b c took written put (inl none) = inl none
line_ahead held now before mid f g used piece a b c took written put (inr settled) =
    inr (served_ahead held held now before mid f g (take used piece) (drop used piece) piece a b c (sym (take-append-drop used piece)) (not_grown held)
    (serves_written held held before mid mid f g (take used piece) a b took refl) written put settled)

-- what was gathered before is due, and all that was told was taken
pub gathered_ahead : (held now : Option (List ℕ)) (before : List ℕ) (f : DeckFeed) (part : List ℕ) (a b : Standing) (text : List ℕ) → HoldsBeginning held now before → Puts a b text
    → (now ≡ held) ⊎ IsSettled b → IsAhead held now before f part a b
gathered_ahead held now before f part a b text written put (inl none) = inl none
gathered_ahead held now before f part a b text written put (inr settled) = inr (record {
  marks = [];
  front = [];
  back = part;
  are = refl;
  shown = λ line long. held_begins held now before (told [] before f line).written written ((told [] [] f line).written, refl);
  taken = λ line long. taken_same a b [] (audit_told [] f line) (sym (untold line long.0 long.1 [] f)) (taken_none a b text (taken_settled a b text put settled));
})

-- nothing more was written
pub later_ahead : (held now now' : Option (List ℕ)) (before : List ℕ) (f : DeckFeed) (part : List ℕ) (a b c : Standing) (text : List ℕ) → now' ≡ now → Puts b c text
    → IsAhead held now before f part a b → IsAhead held now' before f part a c
later_ahead held now now' before f part a b c text same put (inl none) = inl (same ∙ none)
later_ahead held now now' before f part a b c text same put (inr x) = inr (record {
  marks = x.marks;
  front = x.front;
  back = x.back;
  are = x.are;
  shown = λ line long. subst (λ (n : Option (List ℕ)). HoldsBeginning held n (told x.marks before f (x.front ++ line)).written) (sym same) (x.shown line long);
  taken = λ line long. taken_later a b c (audit_told x.marks f (x.front ++ line)) text (x.taken line long) put;
})

-- more was read
longer_ahead : (held now : Option (List ℕ)) (before : List ℕ) (f : DeckFeed) (part more : List ℕ) (a b : Standing) → IsAhead held now before f part a b → IsAhead held now before f (part ++ more) a b
longer_ahead held now before f part more a b (inl none) = inl none
longer_ahead held now before f part more a b (inr x) = inr (record {
  marks = x.marks;
  front = x.front;
  back = x.back ++ more;
  are = ap (λ (v : List ℕ). v ++ more) x.are ∙ append_assoc x.front x.back more;
  shown = x.shown;
  taken = x.taken;
})

module _ (held mid now : Option (List ℕ)) (before out : List ℕ) (start f : DeckFeed) (given : List ℕ) (a b c : Standing) (first : Serves held mid before start given out f a b) (grown : HasGrown held mid) where
  further : (part : List ℕ) → Ahead mid now out f part b c → Ahead held now before start (given ++ part) a c
  further part next = record {
    marks = first.marks ++ next.marks;
    front = given ++ next.front;
    back = next.back;
    are = ap (λ (v : List ℕ). given ++ v) next.are ∙ sym (append_assoc given next.front next.back);
    shown = λ line long.
        let all = first.marks ++ next.marks in
        grown_held held mid now (told all before start ((given ++ next.front) ++ line)) (told next.marks out f (next.front ++ line)) grown
        (first.is next.marks (next.front ++ line) ∙ ap (λ (v : List ℕ). holds held (told all before start v)) (sym (append_assoc given next.front line)))
        (next.shown line long);
    taken = λ line long.
        let all = first.marks ++ next.marks in
        let told_next = audit_told next.marks f (next.front ++ line) in
        taken_same a c (first.audit ++ told_next) (audit_told all start ((given ++ next.front) ++ line))
        (sym (ap (λ (v : List ℕ). audit_told all start v) (append_assoc given next.front line) ∙ first.tells next.marks (next.front ++ line)))
        (taken_behind a b c first.audit told_next first.audited (next.taken line long));
  }

  -- behind what was so before
  pub ahead_further : (part text : List ℕ) → Puts b c text → IsAhead held mid before start (given ++ part) a b → IsAhead mid now out f part b c → IsAhead held now before start (given ++ part) a c
  ahead_further part text put so_far (inl none) = later_ahead held mid now before start (given ++ part) a b c text none put so_far
  ahead_further part text put so_far (inr next) = inr (further part next)

-- so much of a piece was taken
pub ahead_far : (held mid now : Option (List ℕ)) (out : List ℕ) (start f : DeckFeed) (piece rest : List ℕ) (a b c : Standing) (text : List ℕ) → Far held mid out start f piece rest a b
    → HasGrown held mid → Puts b c text → IsAhead held mid [] start piece a b → IsAhead mid now out f rest b c → IsAhead held now [] start piece a c
ahead_far held mid now out start f piece rest a b c text far grown put so_far next =
    subst (λ (v : List ℕ). IsAhead held now [] start v a c) (sym far.are)
    (ahead_further held mid now [] out start f far.front a b c far.stands.served grown rest text put (subst (λ (v : List ℕ). IsAhead held mid [] start v a b) far.are so_far) next)

-- ---- a run

whole_begins : (bytes : List ℕ) → (rest : List ℕ) × (bytes ≡ whole_lines bytes ++ rest)
whole_begins [] = ([], refl)
whole_begins (c ∷ cs) = by (has_no_end (c ∷ cs)) (whole_begins cs)
  where
    by : (open_end : Bool) → (rest : List ℕ) × (cs ≡ whole_lines cs ++ rest) → (rest : List ℕ) × (c ∷ cs ≡ (if open_end then [] else c ∷ whole_lines cs) ++ rest)
    by true so = (c ∷ cs, refl)
    by false so = (so.0, ap (λ (v : List ℕ). c ∷ v) so.1)

-- another piece was read
pub piece_ahead : (given_by left held mid now : Option (List ℕ)) (start f : DeckFeed) (given piece : List ℕ) (a b c : Standing) (text : List ℕ) → Runs given_by left held mid start f given a b
    → Puts b c text → IsAhead held mid [] start given a b → IsAhead mid now [] f piece b c → IsAhead held now [] start (given ++ piece) a c
piece_ahead given_by left held mid now start f given piece a b c text runs put so_far next =
    ahead_further held mid now [] [] start f given a b c runs.stands.served runs.grown piece text put (longer_ahead held mid [] start given piece a b so_far) next

module _ (options : Options) (start : DeckFeed) (begin : Opens options start) (tells : Tells options start) where
  -- of a run that broke off
  pub broken_ahead : (given_by left held now : Option (List ℕ)) (given : List ℕ) (a b : Standing) → Gives given_by given left → IsAhead held now [] start given a b
      → IsWrittenAhead options given_by left held now a b
  broken_ahead given_by left held now given a b gives (inl none) = inl none
  broken_ahead given_by left held now given a b gives (inr x) =
      let bytes = long_bytes 5001 in
      let long : IsLong bytes.0 = (bytes.2, omega (arith, bytes.1)) in
      let cut = whole_begins x.front in
      let whole = whole_lines x.front in
      let one = one_line_more bytes.0 long.0 long.1 x.front in
      inr (
        given,
        whole,
        cut.0 ++ x.back,
        x.marks,
        gives,
        x.are ∙ ap (λ (v : List ℕ). v ++ x.back) cut.1 ∙ append_assoc whole cut.0 x.back,
        subst (λ (text : List ℕ). HoldsBeginning held now text)
            (ap (λ (o : Outcome). o.written) (begin x.marks (x.front ++ bytes.0))
            ∙ ap (λ ls. answer_to options.check 0 x.marks (opening options.slots.number (deck_of ls))) one.2
            ∙ answer_same one.0 one.1 options x.marks (lines whole)) (x.shown bytes.0 long),
        taken_same a b (audit_told x.marks start (x.front ++ bytes.0)) (audit_for options x.marks whole)
            (tells x.marks (x.front ++ bytes.0)
            ∙ ap (λ ls. told_to options.check 0 x.marks (opening options.slots.number (deck_of ls))) one.2
            ∙ told_same one.0 one.1 options x.marks (lines whole)) (x.taken bytes.0 long),
      )

  -- of one that came to its end
  pub finished_ahead : (given_by left held now now' : Option (List ℕ)) (f : DeckFeed) (given : List ℕ) (a b c : Standing) (text : List ℕ) → Runs given_by left held now start f given a b
      → Puts b c text → IsAhead held now [] start given a b → EndsAhead now now' f b c → IsWrittenAhead options given_by left held now' a c
  finished_ahead given_by left held now now' f given a b c text runs put so_far (inl none) =
      broken_ahead given_by left held now' given a c runs.so_far.gives (later_ahead held now now' [] start given a b c text none put so_far)
  finished_ahead given_by left held now now' f given a b c text runs put so_far (inr (marks, written, taken)) =
      let serves = runs.stands.served in
      let all = serves.marks ++ marks in
      let same : given ++ [] ≡ given = append-nil given in
      inr (
        given,
        given,
        [],
        all,
        runs.so_far.gives,
        sym same,
        subst (λ (v : List ℕ). HoldsBeginning held now' (output_of options all v)) same
            (subst (λ (o : Outcome). HoldsBeginning held now' o.written) (begin all (given ++ []))
            (grown_held held now now' (told all [] start (given ++ [])) (told marks [] f []) runs.grown (serves.is marks []) written)),
        taken_same a c (serves.audit ++ audit_told marks f []) (audit_for options all given)
            (sym (serves.tells marks []) ∙ tells all (given ++ []) ∙ ap (λ (v : List ℕ). audit_for options all v) same)
            (taken_behind a b c serves.audit (audit_told marks f []) serves.audited taken),
      )

-- ---- the end of a deck

unwritten : (held now : Option (List ℕ)) → HoldsBeginning held now [] → now ≡ held
unwritten held now (rest, ([], is, all)) = is ∙ holding-nothing held
unwritten held now (rest, (c ∷ cs, is, all)) = cc

module _ (held now : Option (List ℕ)) (before after : List ℕ) (f : DeckFeed) (empty : before ≡ []) (a b c : Standing) (written : HoldsBeginning held now after) (put : Puts b c []) (settled : IsSettled c) where
  -- of an end that puts out so much
  ends_so : (marks : Marks) (o : Outcome) (audited : List ℕ) → o.written ≡ after → told (marks ++ []) before f [] ≡ o → audit_told (marks ++ []) f [] ≡ audited → Puts a b audited
      → EndsAhead held now f a c
  ends_so marks o audited all is tells told_so = inr (
    marks ++ [],
    subst (λ (text : List ℕ). HoldsBeginning held now text) (sym (ap (λ (v : List ℕ). (told (marks ++ []) v f []).written) (sym empty) ∙ ap (λ (x : Outcome). x.written) is ∙ all)) written,
    taken_same a c audited (audit_told (marks ++ []) f []) (sym tells)
        (taken_settled a c audited (puts_same a c (audited ++ []) audited (append-nil audited) (puts_then a b c audited [] told_so put)) settled),
  )

  ends_at : (answer : Result Counts RunError) → IfErr answer IsOwn → (answer ≡ Err Memory → after ≡ before)
      → IfOk answer (λ counts. (marks : Marks) × (sets : Sets) × ((rest : Marks) → told (marks ++ rest) before f [] ≡ record { written = after; conclusion = Good counts sets })
      × (audited : List ℕ) × ((rest : Marks) → audit_told (marks ++ rest) f [] ≡ audited) × Puts a b audited
      × (IsReadBack f.options.check f.state → f.options.check ≡ false → ReadsBack sets))
      → ((n : ℕ) (code : DeckError) → answer ≡ Err (DeckRefused n code)
      → (marks : Marks) × ((rest : Marks) → told (marks ++ rest) before f [] ≡ record { written = after; conclusion = Bad n code })
      × (audited : List ℕ) × ((rest : Marks) → audit_told (marks ++ rest) f [] ≡ audited) × Puts a b audited)
      → EndsAhead held now f a c
  ends_at (Ok counts) own short (marks, sets, is, audited, tells, told_so, back) refused = ends_so marks (record { written = after; conclusion = Good counts sets }) audited refl (is []) (tells []) told_so
  ends_at (Err (DeckRefused n code)) own short good refused =
      let r = refused n code refl in
      ends_so r.0 (record { written = after; conclusion = Bad n code }) r.2 refl (r.1 []) (r.3 []) r.4
  ends_at (Err Memory) own short good refused = inl (unwritten held now (subst (λ (text : List ℕ). HoldsBeginning held now text) (short refl ∙ empty) written))
  ends_at (Err ReadFault) own short good refused = absurd own
  ends_at (Err WriteFault) own short good refused = absurd own
  ends_at (Err AuditFault) own short good refused = absurd own

pub ends_ahead : (held now : Option (List ℕ)) (before after : List ℕ) (f : DeckFeed) → before ≡ [] → (a b c : Standing) → HoldsBeginning held now after → Puts b c [] → (now ≡ held) ⊎ IsSettled c
    → (answer : Result Counts RunError) → IfErr answer IsOwn → (answer ≡ Err Memory → after ≡ before)
    → IfOk answer (λ counts. (marks : Marks) × (sets : Sets) × ((rest : Marks) → told (marks ++ rest) before f [] ≡ record { written = after; conclusion = Good counts sets })
    × (audited : List ℕ) × ((rest : Marks) → audit_told (marks ++ rest) f [] ≡ audited) × Puts a b audited
    × (IsReadBack f.options.check f.state → f.options.check ≡ false → ReadsBack sets))
    → ((n : ℕ) (code : DeckError) → answer ≡ Err (DeckRefused n code)
    → (marks : Marks) × ((rest : Marks) → told (marks ++ rest) before f [] ≡ record { written = after; conclusion = Bad n code })
    × (audited : List ℕ) × ((rest : Marks) → audit_told (marks ++ rest) f [] ≡ audited) × Puts a b audited)
    → EndsAhead held now f a c
ends_ahead held now before after f empty a b c written put (inl none) answer own short good refused = inl none
ends_ahead held now before after f empty a b c written put (inr settled) answer own short good refused = ends_at held now before after f empty a b c written put settled answer own short good refused
