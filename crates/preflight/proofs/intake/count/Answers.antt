use Rattle.std.proofs.Common.{sym, subst, ◌∙◌, arith}
use Rattle.mon_text.proofs.Cutting.{nothing_kept}
use Rattle.deck_syntax.specs.Events.{open_in}
use Rattle.preflight.specs.declared.{tally.Tally.{Tally}, intake.Counts.{Counts}}
use Rattle.preflight.proofs.Reached.{Reached, EndsAs, at_first, line_more, stopped, at_last}
use Rattle.deck_syntax.specs.Sections.{Closed}
use Rattle.preflight.proofs.intake.count.Goals as goal

pub lines-init : goal.lines-init
lines-init c =
    let own = c.args.own.now in
    let text = c.args.text.now in
    record {
      reached = subst (λ (t : Tally). (let counts : Counts = record { number = 1; tally = t } in Reached own text Closed counts text)) (sym c.none.ensures) (at_first own text);
      few = omega arith;
    }

pub lines-preserved : goal.lines-preserved
lines-preserved c =
    let own = c.args.own.now in
    let text = c.args.text.now in
    record {
      reached =
          line_more own text (open_in c.lines.reader) c.lines.counts c.lines.rest.now c.first_line.result.0.now c.first_line.result.1.now c.lines.invariant.reached c.first_line.ensures.parts
          (open_in c.take.new.reader) c.in-Ok.after c.in-Ok.ensures.why c.in-Ok.ensures.after c.in-Ok.ensures.counts;
      few =
          (let number = c.in-Ok.ensures.counts.number in
          let less = c.first_line.ensures.less in
          let few = c.lines.invariant.few in
          omega (arith, number, less, few));
    }

pub returns-in-Err-clause-refused : goal.returns-in-Err-clause-refused
returns-in-Err-clause-refused c =
    let own = c.args.own.now in
    let text = c.args.text.now in
    stopped own text (open_in c.lines.reader) c.lines.counts c.lines.rest.now c.first_line.result.0.now c.first_line.result.1.now c.lines.invariant.reached c.first_line.ensures.parts
    c.in-Err.stop c.refusal_at.result c.refusal_at.ensures c.in-Err.ensures.why

pub returns-clause-admitted : goal.returns-clause-admitted
returns-clause-admitted c =
    let own = c.args.own.now in
    let text = c.args.text.now in
    let none = nothing_kept c.lines.rest.now (sym c.is_empty.ensures ∙ c.lines-test.false) in
    (subst (EndsAs own text) (sym c.finish.ensures) (at_last own text c.lines.rest.now none c.lines.counts (open_in c.lines.reader) c.lines.invariant.reached)).admitted

pub returns-clause-refused : goal.returns-clause-refused
returns-clause-refused c =
    let own = c.args.own.now in
    let text = c.args.text.now in
    let none = nothing_kept c.lines.rest.now (sym c.is_empty.ensures ∙ c.lines-test.false) in
    (subst (EndsAs own text) (sym c.finish.ensures) (at_last own text c.lines.rest.now none c.lines.counts (open_in c.lines.reader) c.lines.invariant.reached)).refused
