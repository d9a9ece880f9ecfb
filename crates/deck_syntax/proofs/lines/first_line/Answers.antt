use Rattle.std.proofs.Common.{◌+◌, sym, ◌∙◌, length}
use Rattle.deck_syntax.proofs.Firsts.{ended, unended, to_end, nothing_behind}
use Rattle.deck_syntax.proofs.lines.first_line.Goals as goal

pub returns-in-Some-clause-parts : goal.returns-in-Some-clause-parts
returns-in-Some-clause-parts c =
    let text = c.args.text.now in
    ended text c.without_carriage_return-line.result.now _ c.in-Some.end (sym c.first_line_end.ensures.place ∙ c.in-Some.is) c.without_carriage_return-line.ensures
    (to_end (c.in-Some.end + 1) text)

pub returns-in-None-clause-parts : goal.returns-in-None-clause-parts
returns-in-None-clause-parts c =
    let text = c.args.text.now in
    unended text _ c.requires (sym c.first_line_end.ensures.place ∙ c.in-None.is) (to_end (length text) text ∙ nothing_behind text)
