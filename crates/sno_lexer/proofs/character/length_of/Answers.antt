use Rattle.std.proofs.Common.{◌∙◌, ap, length}
use Rattle.std.specs.{Option.{unwrap_or}, Prelude.{Option, ℕ, not}}
use Rattle.sno_lexer.{specs.inner.Classes.{goes_on}, proofs.Runs.{or_length}}
use Rattle.sno_lexer.proofs.character.length_of.Goals as goal

pub returns-clause-offset : goal.returns-clause-offset
returns-clause-offset c =
    c.unwrap_or.ensures
    ∙ (ap (λ (o : Option ℕ). unwrap_or o (length c.args.text.now)) c.end_of.ensures.offset ∙ or_length (λ d. not (goes_on c.args.run d)) c.args.text.now)
