use Rattle.std.proofs.Common.{◌∙◌, inl, inr, arith}
use Rattle.std.proofs.lemmas.Result.{err_from_is_err_and}
use Rattle.rounds.proofs.Standing.{end_within, texts_within, told_refused, told_memory, passed_up}
use Rattle.rounds.proofs.running.serve_rest.Goals as goal

pub overflow_add-behind : goal.overflow_add-behind
overflow_add-behind g c = omega (arith, texts_within c.requires.1 c.args.texts.now, c.requires.4)

pub end-requires : goal.end-requires
end-requires g c =
    let s = c.in_ok-serve_texts.ensures.stands c.requires.0 c.requires.1 c.requires.2 c.requires.3 in record {
      few = omega (arith, end_within c.requires.1 c.args.texts.now c.serve_texts.new.running c.requires.0 _ _ s, c.requires.4);
      empty = s.empty;
    }

pub returns-in_err-serve_texts-clause-refused : goal.returns-in_err-serve_texts-clause-refused
returns-in_err-serve_texts-clause-refused g c = λ options head a s n code same.
    let answer = err_from_is_err_and c.from_residual.result c.from_residual.ensures.1 in
    c.in_err-serve_texts.ensures.refused options head a s n code (passed_up c.from_residual.result _ answer.0 _ answer.1 answer.2 same)

pub returns-in_err-serve_texts-clause-memory : goal.returns-in_err-serve_texts-clause-memory
returns-in_err-serve_texts-clause-memory g c = λ options head a s k same.
    let answer = err_from_is_err_and c.from_residual.result c.from_residual.ensures.1 in
    inl (c.in_err-serve_texts.ensures.memory options head a s k (passed_up c.from_residual.result _ answer.0 _ answer.1 answer.2 same))

pub returns-in-Ok-clause-ended : goal.returns-in-Ok-clause-ended
returns-in-Ok-clause-ended g c = λ options head a s. c.in-Ok.ensures.ended options head c.args.texts.now a (c.in_ok-serve_texts.ensures.stands options head a s)

pub returns-in-Err-clause-refused : goal.returns-in-Err-clause-refused
returns-in-Err-clause-refused g c = λ options head a s n code same.
    c.end.ensures.refused options head c.args.texts.now a (c.in_ok-serve_texts.ensures.stands options head a s) n code
    (c.in-Err.is ∙ told_refused c.in-Err.error c.told_of.result n code c.told_of.ensures.refused same)

pub returns-in-Err-clause-memory : goal.returns-in-Err-clause-memory
returns-in-Err-clause-memory g c = λ options head a s k same.
    inr (told_memory c.told_of.result k _ c.told_of.ensures.memory same, c.end.ensures.begun options head c.args.texts.now a (c.in_ok-serve_texts.ensures.stands options head a s))
