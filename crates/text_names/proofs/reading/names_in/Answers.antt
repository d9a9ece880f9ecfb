use Rattle.std.proofs.Common.{ℕ, List, false, sym, subst, ◌∙◌}
use Rattle.mon_text.proofs.Cutting.{nothing_kept}
use Rattle.deck_syntax.specs.Events.{open_in}
use Rattle.deck_syntax.specs.Sections.{Closed}
use Rattle.text_names.proofs.Reached.{Reached, at_first, line_more, at_last}
use Rattle.text_names.proofs.reading.names_in.Goals as goal

pub lines-init : goal.lines-init
lines-init c = subst (λ (names : List (List ℕ)). Reached c.args.bytes.now Closed names false c.args.bytes.now) (sym c.new.ensures.items) (at_first c.args.bytes.now)

pub lines-preserved : goal.lines-preserved
lines-preserved c =
    line_more c.args.bytes.now (open_in c.lines.reader) c.lines.found c.lines.rest.now c.first_line.result.0.now c.first_line.result.1.now c.lines.invariant c.first_line.ensures.parts
    (open_in c.take.new.reader) c.take.new.self c.in_ok-take.ensures

pub returns : goal.returns
returns c =
    let none = nothing_kept c.lines.rest.now (sym c.is_empty.ensures ∙ c.lines-test.false) in
    at_last c.args.bytes.now (open_in c.lines.reader) c.lines.found.names.items c.lines.found.all c.lines.rest.now none c.lines.invariant
