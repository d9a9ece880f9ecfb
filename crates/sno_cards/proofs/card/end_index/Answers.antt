use Rattle.std.proofs.Common.{◌∙◌, ap, length, unwrap_or}
use Rattle.sno_cards.{specs.Cards.{is_end_line}, proofs.Finding.{place_from_position}}
use Rattle.sno_cards.proofs.card.end_index.Goals as goal

pub returns-clause-place : goal.returns-clause-place
returns-clause-place c =
    c.unwrap_or.ensures ∙ ap (λ o. unwrap_or o (length c.args.lines.now)) c.position_of_end.ensures.place
    ∙ place_from_position is_end_line c.args.lines.now
