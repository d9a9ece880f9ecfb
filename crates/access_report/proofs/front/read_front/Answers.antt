use Rattle.std.proofs.Common.{◌+◌, sym, ◌∙◌}
use Rattle.std.specs.Str.Lines.{lines}
use Rattle.mon_text.proofs.Cutting.{nothing_kept}
use Rattle.deck_syntax.specs.Sections.{deck_of}
use Rattle.deck_syntax.specs.declared.front_reader.Front.{Front}
use Rattle.access_report.proofs.Sections.{is_refused, is_truncated, told_at, told_so}
use Rattle.access_report.proofs.front.read_front.Goals as goal
use Rattle.deck_lines.specs.declared.deck_error.DeckError.TheVariants.{Truncated}

pub returns-in-Err-clause-refused : goal.returns-in-Err-clause-refused
returns-in-Err-clause-refused c = λ n code same.
    let deck = deck_of (lines c.args.bytes.now) in
    let number = c.lines.number + 1 in
    let refused = is_refused c.lines.reader number c.lines.rest.now deck c.lines.invariant.left c.first_line.result.0.now c.first_line.result.1.now c.first_line.ensures.parts c.in-Err.stop
    c.in-Err.ensures.refused in
    told_at {T = Front} deck number c.in-Err.stop refused c.refusal_at.result c.refusal_at.ensures n code same

pub returns-clause-refused : goal.returns-clause-refused
returns-clause-refused c = λ n code same.
    let deck = deck_of (lines c.args.bytes.now) in
    let number = c.lines.number + 1 in
    let none = nothing_kept c.lines.rest.now (sym c.is_empty.ensures ∙ c.lines-test.false) in
    told_so {T = Front} deck (record { line = number; code = Truncated }) (record { line = n; code = code }) same
    (is_truncated c.lines.reader number c.lines.rest.now deck c.lines.invariant.left none)
