use Rattle.std.proofs.Common.{◌+◌, ◌++◌, [], List, ℕ, sym, ap, subst, ◌∙◌, append-nil}
use Rattle.std.specs.Str.Lines.{lines}
use Rattle.deck_driver.specs.{Feeds.{Bad}, Abstraction.{last_lines}, inner.Lines.{Ended, EndBegun}}
use Rattle.deck_driver.proofs.{Telling.{comes_so}, Ending.{began, was_refused, error_so}}
use Rattle.deck_driver.proofs.feed.DeckFeed.finish.Goals as goal

pub returns-clause-begun : goal.returns-clause-begun
returns-clause-begun g c =
    let f = c.args.self in
    let same = ap last_lines (c.deref.ensures.value ∙ c.rest-last.ensures.value) ∙ sym c.rest-last.ensures.lines ∙ ap lines (sym (append-nil f.line)) in
    let begun = subst (λ (ls : List (List ℕ)). EndBegun f.options f.state (f.lines_taken + 1) ls c.args.out.now f.counts c.end.new.out (g.S.Sink.standing c.args.audit.now) (g.S.Sink.standing c.end.new.audit)) same c.end.ensures.begun in
    (begun.marks, begun.is, begun.lines, begun.tells, begun.audited)

pub returns-clause-ended : goal.returns-clause-ended
returns-clause-ended g c =
    let f = c.args.self in
    let same = ap last_lines (c.deref.ensures.value ∙ c.rest-last.ensures.value) ∙ sym c.rest-last.ensures.lines ∙ ap lines (sym (append-nil f.line)) in
    comes_so f.options f.state (f.lines_taken + 1) (last_lines c.deref.result.now) (lines (f.line ++ [])) c.args.out.now f.counts c.end.new.out _ _ c.end.result same c.end.ensures.ended

pub returns-clause-refused : goal.returns-clause-refused
returns-clause-refused g c = λ n code error.
    let f = c.args.self in
    let same = ap last_lines (c.deref.ensures.value ∙ c.rest-last.ensures.value) ∙ sym c.rest-last.ensures.lines ∙ ap lines (sym (append-nil f.line)) in
    let ended = subst (λ (ls : List (List ℕ)). Ended f.options f.state (f.lines_taken + 1) ls c.args.out.now f.counts c.end.new.out (Bad n code) (g.S.Sink.standing c.args.audit.now) (g.S.Sink.standing c.end.new.audit)) same (c.end.ensures.refused n code error) in
    (ended.marks, ended.is, ended.lines, ended.tells, ended.audited)

pub returns-in-Some-clause-begun : goal.returns-in-Some-clause-begun
returns-in-Some-clause-begun g c = began c.args.self c.args.out.now _

pub returns-in-Some-clause-refused : goal.returns-in-Some-clause-refused
returns-in-Some-clause-refused g c = λ n code same. was_refused c.args.self c.args.out.now _ c.in-Some.error (sym c.failed.ensures ∙ c.in-Some.is) n code (error_so c.in-Some.error n code same)
