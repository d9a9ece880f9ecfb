use Rattle.std.proofs.Common.{ℕ, ◌==◌, ◌∙◌, ap, length, take, unwrap_or}
use Rattle.sno_cards.proofs.Finding.{place_from_position}
use Rattle.sno_cards.proofs.card.before.Goals as goal

pub returns : goal.returns
returns c =
    ap (λ (n : ℕ). take n c.args.text.now)
    (c.unwrap_or.ensures ∙ ap (λ o. unwrap_or o (length c.args.text.now)) c.position_of.ensures.place
    ∙ place_from_position (λ code. code == c.args.mark) c.args.text.now)
