use Rattle.std.proofs.Common.{◌≡◌, ◌<◌, ◌+◌, ◌-◌, length, drop, get_or, sym, ap, ◌∙◌, arith}
use Rattle.std.proofs.lemmas.List.{get_or-take, get_or-drop}
use Rattle.sno_pattern.proofs.Jumping.{missed_by_first}
use Rattle.sno_pattern.proofs.choice_points.missed_ahead.Goals as goal

pub returns-in-Some-clause-missed : goal.returns-in-Some-clause-missed
returns-in-Some-clause-missed c k low high =
    let text = c.args.text.now in
    let from = c.args.from in
    let item = c.in-Some.ensures.item in
    let within = c.count_before.ensures.within in
    let room : k < length text = (let none = c.requires in omega (arith, within)) in
    let place : from + (k - from) ≡ k = omega arith in
    rw c.in-Text.is (rw (← c.as_bytes.ensures.value) (missed_by_first text c.as_bytes.result.now k room item.3.0
    (λ same. c.count_before.ensures.none (k - from) (omega arith)
    (get_or-take (length text - from) (drop from text) (k - from) 0 (omega arith) ∙ get_or-drop from text (k - from) 0
    ∙ ap (λ j. get_or text j 0) place ∙ same ∙ sym (item.3.1 0)))))
