use Rattle.std.proofs.Common.{ap, ◌∙◌}
use Rattle.deck_driver.{specs.declared.section.Section.{Section}, proofs.Taking.{front_stays, front_over}}
use Rattle.deck_driver.specs.declared.section.DeckState.TheVariants as state
use Rattle.deck_driver.proofs.section.DeckState.take_front_line.Goals as goal

pub returns-in_ok-begin_stream-in-Front-clause-told : goal.returns-in_ok-begin_stream-in-Front-clause-told
returns-in_ok-begin_stream-in-Front-clause-told c = λ out counts a.
    let here = c.in-Reading.is ∙ ap (λ (v : Section). state.Reading v) c.in-Front.is in
    front_over c.args.options c.args.self.now c.in-Front.reader c.line.new.self c.in_ok-front-in-Front.field-0 c.in-Some.front c.begin_stream.new.self c.args.text.now out counts a
    here c.in-Some.is c.in_ok-front-in-Front.ensures.goes c.in_ok-begin_stream-in-Front.ensures.begun

pub returns-in_default-clause-told : goal.returns-in_default-clause-told
returns-in_default-clause-told c = λ out counts a.
    let here = c.in-Reading.is ∙ ap (λ (v : Section). state.Reading v) c.in-Front.is in
    front_stays c.args.options c.args.self.now c.in-Front.reader c.line.new.self c.in_ok-front-in-Front.field-0 c.args.text.now out counts a
    here c.in_default.is c.in_ok-front-in-Front.ensures.goes
