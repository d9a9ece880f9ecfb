use Rattle.std.proofs.Common.{refl, true≢false, inl, inr, sym, ap, subst, arith, [], ◌∷◌, ◌++◌, ◌∙◌, Option, List, ℕ, ◌+◌, take, None}
use Rattle.std.specs.{Option.{option_map}, Str.Lines.{lines}}
use Rattle.mon_text.specs.{declared.ended_line.EndedLine.{EndedLine}, Feeding.{text_of, has_no_end, Takes}}
use Rattle.deck_driver.specs.{declared.options.Options.{Options}, declared.section.DeckState.{DeckState}, Feeds.{outcome, behind, is_reading, stopped_by}}
use Rattle.deck_driver.specs.{Audits.{told_from}, Abstraction.{told, audit_told}, inner.Lines.{TookLine, LineBreaks}}
use Rattle.deck_driver.proofs.{Beginnings.{same_begins, only_appends, nothing_printed}, Pieces.{begun_told, begun_by, took_stopped, refused_silent}}
use Rattle.deck_driver.proofs.Parts.{all_taken, takes_part, nothing_behind, parted_at, open_where, ended_where, one_at_most, none_at_all, told_late, none_late}
use Rattle.mon_device.proofs.Putting.{puts_nothing}
use Rattle.deck_driver.proofs.Telling.{told_none, audit_none, told_some, audit_some, audit_begins, audit_refused, told_refused, error_of, stop_told, stop_silent}
use Rattle.deck_driver.proofs.feed.DeckFeed.feed_line.Goals as goal

pub returns-else-contains-clause-told : goal.returns-else-contains-clause-told
returns-else-contains-clause-told g c = record {
  marks = [];
  is = λ rest bytes.
      let before = c.args.self.now in
      let used = c.in-Ok-default-None.used in
      let taken = subst (λ (o : Option EndedLine). Takes before.line c.args.piece.now used (option_map text_of o) c.take_part.new.line) c.in-Ok-default-None.field-0-1-is c.in-Ok-default-None.ensures.taken in
      told_none before.options before.state (before.lines_taken + 1) c.args.out.now before.counts before.line c.args.piece.now used c.take_part.new.line taken rest bytes
      ∙ ap (λ (v : List ℕ). told rest c.args.out.now before (v ++ bytes)) (sym (all_taken c.args.piece.now used taken.0));
  audit = [];
  tells = λ rest bytes.
      let before = c.args.self.now in
      let used = c.in-Ok-default-None.used in
      let taken = subst (λ (o : Option EndedLine). Takes before.line c.args.piece.now used (option_map text_of o) c.take_part.new.line) c.in-Ok-default-None.field-0-1-is c.in-Ok-default-None.ensures.taken in
      ap (λ (v : List ℕ). audit_told rest before (v ++ bytes)) (all_taken c.args.piece.now used taken.0)
      ∙ audit_none before.options before.state (before.lines_taken + 1) c.args.out.now before.counts before.line c.args.piece.now used c.take_part.new.line taken rest bytes;
  audited = puts_nothing _;
}

pub returns-else-contains-clause-counted : goal.returns-else-contains-clause-counted
returns-else-contains-clause-counted g c = λ reading.
    let before = c.args.self.now in
    let used = c.in-Ok-default-None.used in
    let taken = subst (λ (o : Option EndedLine). Takes before.line c.args.piece.now used (option_map text_of o) c.take_part.new.line) c.in-Ok-default-None.field-0-1-is c.in-Ok-default-None.ensures.taken in
    let open_part = ap has_no_end (all_taken c.args.piece.now used taken.0) ∙ open_where c.args.piece.now _ c.contains.ensures.value c.if-contains.false in
    (reading, none_at_all (take used c.args.piece.now) open_part _ _ refl)

pub returns-then-contains-clause-refused : goal.returns-then-contains-clause-refused
returns-then-contains-clause-refused g c = λ n code same rest bytes.
    let after = c.fail-then-contains.new.self in
    let before = c.args.self.now in
    let out = c.args.out.now in
    let piece = c.args.piece.now in
    let used = c.in-Ok-default-None.used in
    let taken = subst (λ (o : Option EndedLine). Takes before.line piece used (option_map text_of o) c.take_part.new.line) c.in-Ok-default-None.field-0-1-is c.in-Ok-default-None.ensures.taken in
    let all = all_taken piece used taken.0 in
    let ended = ended_where piece _ c.contains.ensures.value c.if-contains.true in
    ap (λ (s : DeckState). behind out after.counts (outcome after.options after.counts.jobs rest s (after.lines_taken + 1) (lines (after.line ++ bytes)))) c.fail-then-contains.ensures.state
    ∙ told_late before.options rest c.in-Reading.field-0 before.state (before.lines_taken + 1) before.counts out before.line piece c.take_part.new.line used used
    c.in-Reading.is before.unended c.in-Ok-default-None.ensures.unended (parted_at piece used c.in-Ok-default-None.ensures.used)
    (λ open_part. ended (ap has_no_end (sym all) ∙ open_part)) (subst (λ (v : List ℕ). Takes before.line v used None c.take_part.new.line) (sym all) taken) bytes

pub returns-in-Ok-clause-counted : goal.returns-in-Ok-clause-counted
returns-in-Ok-clause-counted g c = λ reading. (
  ap is_reading c.in-Reading.is,
  omega (arith, one_at_most _ (parted_at c.args.piece.now c.in-Ok-default-Some.used c.in-Ok-default-Some.ensures.used)),
)

pub returns-in-Ok-clause-told : goal.returns-in-Ok-clause-told
returns-in-Ok-clause-told g c =
    let before = c.args.self.now in
    let state = c.take_line-answer.new.self in
    let counts = c.take_line-answer.new.counts in
    let out = c.args.out.now in
    let out' = c.take_line-answer.new.out in
    let piece = c.args.piece.now in
    let used = c.in-Ok-default-Some.used in
    let line = text_of c.in-Ok-default-Some.line in
    let taken = subst (λ (o : Option EndedLine). Takes before.line piece used (option_map text_of o) c.take_part.new.line) c.in-Ok-default-Some.field-0-1-is c.in-Ok-default-Some.ensures.taken in
    let took = subst (λ (text : List ℕ). TookLine before.options before.state text out before.counts state out' counts (g.S.Sink.standing c.args.audit.now) (g.S.Sink.standing c.take_line-answer.new.audit)) c.text.ensures c.in-Ok.ensures.told in
    record {
      marks = took.marks;
      is = λ rest bytes.
          ap (λ (kept : List ℕ). behind out' counts (outcome before.options counts.jobs rest state (before.lines_taken + 1 + 1) (lines (kept ++ bytes)))) c.reuse.ensures
          ∙ told_some before.options before.state (before.lines_taken + 1) out before.counts before.line (take used piece) used line c.take_part.new.line
          (nothing_behind piece used taken.1) (takes_part before.line piece line c.take_part.new.line used before.unended c.in-Ok-default-Some.ensures.used taken)
          state out' counts _ _ took rest bytes;
      audit = took.lines;
      tells = λ rest bytes.
          audit_some before.options before.state (before.lines_taken + 1) out before.counts before.line (take used piece) used line c.take_part.new.line
          (nothing_behind piece used taken.1) (takes_part before.line piece line c.take_part.new.line used before.unended c.in-Ok-default-Some.ensures.used taken)
          state out' counts _ _ took rest bytes
          ∙ ap (λ (kept : List ℕ). took.lines ++ told_from before.options counts.jobs rest state (before.lines_taken + 1 + 1) (lines (kept ++ bytes))) (sym c.reuse.ensures);
      audited = took.audited;
    }

pub returns-in-Ok-clause-appends : goal.returns-in-Ok-clause-appends
returns-in-Ok-clause-appends g c =
    let before = c.args.self.now in
    let counts = c.take_line-answer.new.counts in
    let took = c.in-Ok.ensures.told in
    only_appends c.args.out.now c.take_line-answer.new.out before.counts counts
    (outcome before.options before.counts.jobs (took.marks ++ []) before.state 0 (c.text.result.now ∷ [])) (outcome before.options counts.jobs [] c.take_line-answer.new.self (0 + 1) [])
    (took.is [] 0 []) (nothing_printed before.options counts.jobs [] c.take_line-answer.new.self (0 + 1))

pub returns-in-Err-answer-clause-appends : goal.returns-in-Err-answer-clause-appends
returns-in-Err-answer-clause-appends g c = same_begins c.args.out.now c.take_line-answer.new.out c.in-Err-answer.ensures.nothing

pub returns-in-Err-answer-clause-refused : goal.returns-in-Err-answer-clause-refused
returns-in-Err-answer-clause-refused g c = λ n code same rest bytes.
    let before = c.args.self.now in
    let after = c.fail-in-Err-answer.new.self in
    let out = c.args.out.now in
    let piece = c.args.piece.now in
    let used = c.in-Ok-default-Some.used in
    let taken = subst (λ (o : Option EndedLine). Takes before.line piece used (option_map text_of o) c.take_part.new.line) c.in-Ok-default-Some.field-0-1-is c.in-Ok-default-Some.ensures.taken in
    let bad = ap (λ r. error_of r c.fail-in-Err-answer.result) same in
    let later = lines (after.line ++ bytes) in
    ap (λ (o : Options). behind c.take_line-answer.new.out after.counts (outcome o after.counts.jobs rest after.state (after.lines_taken + 1) later)) c.fail-in-Err-answer.ensures.stays.0
    ∙ ap (λ (t : List ℕ). behind t after.counts (outcome before.options after.counts.jobs rest after.state (after.lines_taken + 1) later)) c.in-Err-answer.ensures.nothing
    ∙ told_refused before.options before.state (before.lines_taken + 1) out before.counts before.line piece used (text_of c.in-Ok-default-Some.line) c.take_part.new.line taken rest
    (behind out after.counts (outcome before.options after.counts.jobs rest after.state (after.lines_taken + 1) later))
    (λ ls. stop_told before.options out before.counts after.counts before.state after.state (before.lines_taken + 1) (after.lines_taken + 1) c.text.result.now c.in-Err-answer.stop rest
    c.in-Err-answer.ensures.refused c.fail-in-Err-answer.ensures.state c.fail-in-Err-answer.result c.fail-in-Err-answer.ensures.error n code bad later ls
    ∙ ap (λ text. behind out before.counts (outcome before.options before.counts.jobs rest before.state (before.lines_taken + 1) (text ∷ ls))) c.text.ensures)
    bytes

pub returns-in-Ok-clause-begun : goal.returns-in-Ok-clause-begun
returns-in-Ok-clause-begun g c = begun_by c.args.out.now c.take_line-answer.new.out c.args.self.now _ c.args.piece.now c.in-Ok-default-Some.used _ _ (returns-in-Ok-clause-told g c)

pub returns-in-Err-answer-clause-begun : goal.returns-in-Err-answer-clause-begun
returns-in-Err-answer-clause-begun g c =
    let before = c.args.self.now in
    let piece = c.args.piece.now in
    let used = c.in-Ok-default-Some.used in
    let taken = subst (λ (o : Option EndedLine). Takes before.line piece used (option_map text_of o) c.take_part.new.line) c.in-Ok-default-Some.field-0-1-is c.in-Ok-default-Some.ensures.taken in
    let broken = subst (λ (text : List ℕ). LineBreaks before.options before.state text before.counts (g.S.Sink.standing c.args.audit.now) (g.S.Sink.standing c.take_line-answer.new.audit)) c.text.ensures c.in-Err-answer.ensures.broken in
    begun_told c.args.out.now c.take_line-answer.new.out before piece broken.lines broken.marks _ _ c.in-Err-answer.ensures.nothing
    (λ rest bytes. audit_begins before.options before.state (before.lines_taken + 1) c.args.out.now before.counts before.line piece used (text_of c.in-Ok-default-Some.line) c.take_part.new.line taken _ _ broken rest bytes)
    broken.audited

pub returns-then-contains-clause-silent : goal.returns-then-contains-clause-silent
returns-then-contains-clause-silent g c = λ n code same.
    let after = c.fail-then-contains.new.self in
    let before = c.args.self.now in
    let piece = c.args.piece.now in
    let used = c.in-Ok-default-None.used in
    let taken = subst (λ (o : Option EndedLine). Takes before.line piece used (option_map text_of o) c.take_part.new.line) c.in-Ok-default-None.field-0-1-is c.in-Ok-default-None.ensures.taken in
    let all = all_taken piece used taken.0 in
    let ended = ended_where piece _ c.contains.ensures.value c.if-contains.true in (
      refl,
      λ rest bytes. (
        refused_silent rest after _ _ bytes c.fail-then-contains.ensures.state,
        none_late before.options rest c.in-Reading.field-0 before.state (before.lines_taken + 1) before.counts.jobs before.line piece c.take_part.new.line used used
            c.in-Reading.is before.unended c.in-Ok-default-None.ensures.unended (parted_at piece used c.in-Ok-default-None.ensures.used)
            (λ open_part. ended (ap has_no_end (sym all) ∙ open_part)) (subst (λ (v : List ℕ). Takes before.line v used None c.take_part.new.line) (sym all) taken) bytes,
      ),
    )

pub returns-in-Err-answer-clause-silent : goal.returns-in-Err-answer-clause-silent
returns-in-Err-answer-clause-silent g c = λ n code same.
    let before = c.args.self.now in
    let after = c.fail-in-Err-answer.new.self in
    let piece = c.args.piece.now in
    let used = c.in-Ok-default-Some.used in
    let taken = subst (λ (o : Option EndedLine). Takes before.line piece used (option_map text_of o) c.take_part.new.line) c.in-Ok-default-Some.field-0-1-is c.in-Ok-default-Some.ensures.taken in
    let bad = ap (λ r. error_of r c.fail-in-Err-answer.result) same in
    let silent = stop_silent c.in-Err-answer.stop _ c.in-Err-answer.ensures.silent _ c.fail-in-Err-answer.result c.fail-in-Err-answer.ensures.error n code bad in
    let stands = c.fail-in-Err-answer.ensures.state ∙ ap stopped_by (sym c.fail-in-Err-answer.ensures.error ∙ bad) in (
      silent.0,
      λ rest bytes. (
        refused_silent rest after n code bytes stands,
        audit_refused before.options before.state (before.lines_taken + 1) c.args.out.now before.counts before.line piece used (text_of c.in-Ok-default-Some.line) c.take_part.new.line taken rest
            (λ ls. ap (λ (text : List ℕ). told_from before.options before.counts.jobs rest before.state (before.lines_taken + 1) (text ∷ ls)) (sym c.text.ensures)
            ∙ silent.1 before.counts.jobs rest (before.lines_taken + 1) ls) bytes,
      ),
    )

pub returns-in-Stopped-clause-told : goal.returns-in-Stopped-clause-told
returns-in-Stopped-clause-told g c = took_stopped c.args.out.now c.args.self.now _ _ c.in-Stopped.field-0 _ c.in-Stopped.is refl refl

pub returns-else-contains-clause-kept : goal.returns-else-contains-clause-kept
returns-else-contains-clause-kept g c = λ reading.
    let before = c.args.self.now in
    let used = c.in-Ok-default-None.used in
    let taken = subst (λ (o : Option EndedLine). Takes before.line c.args.piece.now used (option_map text_of o) c.take_part.new.line) c.in-Ok-default-None.field-0-1-is c.in-Ok-default-None.ensures.taken in
    inl (ap has_no_end (all_taken c.args.piece.now used taken.0) ∙ open_where c.args.piece.now _ c.contains.ensures.value c.if-contains.false)

pub returns-in-Ok-clause-kept : goal.returns-in-Ok-clause-kept
returns-in-Ok-clause-kept g c = λ reading.
    let before = c.args.self.now in
    let used = c.in-Ok-default-Some.used in
    let taken = subst (λ (o : Option EndedLine). Takes before.line c.args.piece.now used (option_map text_of o) c.take_part.new.line) c.in-Ok-default-Some.field-0-1-is c.in-Ok-default-Some.ensures.taken in
    inr (c.reuse.ensures ∙ taken.2)

pub returns-in-Stopped-clause-kept : goal.returns-in-Stopped-clause-kept
returns-in-Stopped-clause-kept g c = λ reading. absurd (true≢false (sym reading ∙ ap is_reading c.in-Stopped.is))

pub returns-in-Refused-clause-silent : goal.returns-in-Refused-clause-silent
returns-in-Refused-clause-silent g c = λ n code same.
    (refl, λ rest bytes. (refused_silent rest c.args.self.now _ _ bytes c.in-Refused.is, refused_silent rest c.args.self.now _ _ (c.args.piece.now ++ bytes) c.in-Refused.is))
