use Rattle.std.proofs.Common.{refl, sym, ◌∙◌, ◌+◌, [], ◌∷◌, ◌++◌, arith}
use Rattle.deck_driver.{specs.Feeds.{outcome}, proofs.Beginnings.{only_appends, nothing_printed}}
use Rattle.deck_driver.proofs.Telling.{last_good, last_bad, last_begun, none_good, none_bad, begun_last, broken_last, stop_bad}
use Rattle.deck_driver.proofs.feeding.end.Goals as goal

pub returns-then-is_empty-clause-ended : goal.returns-then-is_empty-clause-ended
returns-then-is_empty-clause-ended g c =
    none_good c.args.options c.args.out.now c.args.counts c.args.state (c.args.lines_taken + 1) c.args.last.now _ (sym c.is_empty.ensures ∙ c.if-is_empty.true)
    c.conclude.result c.conclude.ensures.ended

pub returns-then-is_empty-clause-refused : goal.returns-then-is_empty-clause-refused
returns-then-is_empty-clause-refused g c = λ n code same.
    none_bad c.args.options c.args.out.now c.args.counts c.args.state (c.args.lines_taken + 1) c.args.last.now _ (sym c.is_empty.ensures ∙ c.if-is_empty.true)
    n code (c.conclude.ensures.refused n code same)

pub returns-in-Ok-clause-appends : goal.returns-in-Ok-clause-appends
returns-in-Ok-clause-appends g c =
    let counts = c.take_line.new.counts in
    let took = c.in-Ok.ensures.told in
    only_appends c.args.out.now c.take_line.new.out c.args.counts counts
    (outcome c.args.options c.args.counts.jobs (took.marks ++ []) c.args.state 0 (c.args.last.now ∷ [])) (outcome c.args.options counts.jobs [] c.take_line.new.self (0 + 1) [])
    (took.is [] 0 []) (nothing_printed c.args.options counts.jobs [] c.take_line.new.self (0 + 1))

pub returns-in-Ok-clause-begun : goal.returns-in-Ok-clause-begun
returns-in-Ok-clause-begun g c =
    last_begun c.args.options c.args.out.now c.args.counts c.args.state (c.args.lines_taken + 1) (c.args.lines_taken + 2) c.args.last.now c.take_line.new.out c.take_line.new.counts c.take_line.new.self _ _
    (sym c.is_empty.ensures ∙ c.if-is_empty.false) (omega arith) c.in-Ok.ensures.told

pub returns-in-Ok-clause-ended : goal.returns-in-Ok-clause-ended
returns-in-Ok-clause-ended g c =
    last_good c.args.options c.args.out.now c.args.counts c.args.state (c.args.lines_taken + 1) (c.args.lines_taken + 2) c.args.last.now c.take_line.new.out c.take_line.new.counts c.take_line.new.self _ _
    (sym c.is_empty.ensures ∙ c.if-is_empty.false) (omega arith) c.in-Ok.ensures.told c.in-Ok.ensures.reads_back c.conclude-in-Ok.result c.conclude-in-Ok.ensures.ended

pub returns-in-Ok-clause-refused : goal.returns-in-Ok-clause-refused
returns-in-Ok-clause-refused g c = λ n code same.
    last_bad c.args.options c.args.out.now c.args.counts c.args.state (c.args.lines_taken + 1) (c.args.lines_taken + 2) c.args.last.now c.take_line.new.out c.take_line.new.counts c.take_line.new.self _ _
    (sym c.is_empty.ensures ∙ c.if-is_empty.false) (omega arith) c.in-Ok.ensures.told n code (c.conclude-in-Ok.ensures.refused n code same)

pub returns-then-is_empty-clause-begun : goal.returns-then-is_empty-clause-begun
returns-then-is_empty-clause-begun g c = begun_last _ _ _ _ c.args.out.now c.args.counts c.args.out.now _ refl

pub returns-in-Err-Refused-clause-begun : goal.returns-in-Err-Refused-clause-begun
returns-in-Err-Refused-clause-begun g c =
    broken_last _ _ _ _ c.args.out.now c.args.counts c.take_line.new.out _ _ (sym c.is_empty.ensures ∙ c.if-is_empty.false) c.in-Err-Refused.ensures.nothing c.in-Err-Refused.ensures.broken

pub returns-clause-begun : goal.returns-clause-begun
returns-clause-begun g c =
    broken_last _ _ _ _ c.args.out.now c.args.counts c.take_line.new.out _ _ (sym c.is_empty.ensures ∙ c.if-is_empty.false) c.in-Err-Memory.ensures.nothing c.in-Err-Memory.ensures.broken

pub returns-in-Err-Refused-clause-refused : goal.returns-in-Err-Refused-clause-refused
returns-in-Err-Refused-clause-refused g c = λ n code same.
    stop_bad c.args.options c.args.out.now c.args.counts c.args.state (c.args.lines_taken + 1) c.args.last.now c.take_line.new.out _ _ (sym c.is_empty.ensures ∙ c.if-is_empty.false)
    c.in-Err-Refused.ensures.nothing c.in-Err-Refused.code (rw c.in-Err-Refused.field-0-is at c.in-Err-Refused.ensures.refused)
    (rw c.in-Err-Refused.field-0-is at c.in-Err-Refused.ensures.silent) _ c.in-Err-Refused.code-is n code same
