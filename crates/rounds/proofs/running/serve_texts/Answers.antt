use Rattle.std.proofs.Common.{◌≡◌, ◌+◌, ◌∙◌, refl, take, arith}
use Rattle.rounds.proofs.Standing.{none_stand, next_stands, all_stand, text_within, texts_within, refused_in_text, told_refused, told_memory}
use Rattle.rounds.proofs.Stopping.{stops_in_text}
use Rattle.rounds.proofs.running.serve_texts.Goals as goal

pub loop-text-init : goal.loop-text-init
loop-text-init g c = record { stands = λ options head a s. none_stand options head c.args.texts.now c.args.running.now a _ s; number = refl }

pub overflow_add-number : goal.overflow_add-number
overflow_add-number g c =
    omega (arith, c.loop-text.invariant.number, c.loop-text-test.true, texts_within c.requires.1 c.args.texts.now, c.requires.4)

pub serve_text-requires : goal.serve_text-requires
serve_text-requires g c =
    let s = c.loop-text.invariant.stands c.requires.0 c.requires.1 c.requires.2 c.requires.3 in
    let within =
    text_within c.requires.1 c.args.texts.now c.loop-text.text-index c.text-item.result c.loop-text.running c.requires.0 _ _ c.loop-text-test.true c.text-item.is s in record {
      few = omega (arith, within, c.requires.4);
      empty = s.empty;
    }

pub loop-text-preserved : goal.loop-text-preserved
loop-text-preserved g c = record {
  stands = λ options head a s.
      next_stands options head c.args.texts.now c.loop-text.text-index c.text-item.result c.serve_text.new.running a _ c.loop-text-test.true c.text-item.is
      (c.in-Ok.ensures.stands options head (take c.loop-text.text-index c.args.texts.now) a (c.loop-text.invariant.stands options head a s));
  number = omega (arith, c.loop-text.invariant.number);
}

pub returns-in-Err-clause-refused : goal.returns-in-Err-clause-refused
returns-in-Err-clause-refused g c = λ options head a s n code same.
    refused_in_text options head c.args.texts.now c.loop-text.text-index c.text-item.result c.loop-text.running n code a _ c.loop-text-test.true c.text-item.is
    (c.loop-text.invariant.stands options head a s)
    (c.serve_text.ensures.refused n code (c.in-Err.is ∙ told_refused c.in-Err.error c.told_of.result n code c.told_of.ensures.refused same))

pub returns-in-Err-clause-memory : goal.returns-in-Err-clause-memory
returns-in-Err-clause-memory g c = λ options head a s k same.
    let i = c.loop-text.text-index in
    let number : k ≡ i + 1 = omega (arith, told_memory c.told_of.result k _ c.told_of.ensures.memory same, c.loop-text.invariant.number) in
    stops_in_text options head c.args.texts.now i k c.text-item.result c.loop-text.running a _ _ c.loop-text-test.true c.text-item.is number
    (c.loop-text.invariant.stands options head a s) c.serve_text.ensures.begun

pub returns-clause-stands : goal.returns-clause-stands
returns-clause-stands g c = λ options head a s.
    all_stand options head c.args.texts.now c.loop-text.text-index c.loop-text.running a _ c.loop-text-test.false (c.loop-text.invariant.stands options head a s)
