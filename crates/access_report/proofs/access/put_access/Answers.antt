use Rattle.std.proofs.Common.{◌<◌, ◌∙◌, length, sym, ap, arith}
use Rattle.std.specs.{Option.{option_map}, Map.Iter.{deref_pair}}
use Rattle.access_report.{specs.Access.{set_part}, proofs.Listed.{one_more, not_past}, proofs.access.put_access.Goals.{in-Some+in_ok-put_set_part, in_default}}
use Rattle.access_report.proofs.access.put_access.Goals as goal

pub loop-index-preserved : goal.loop-index-preserved
loop-index-preserved c =
    let sets = c.args.catalogue.now in
    let index = c.loop-index.index in
    let told = set_part c.args.question.now c.args.accounts.now in
    let inside : index < length sets = omega arith in
    elim c.match-at.branch [
      | in-Some+in_ok-put_set_part w ↦
          one_more told _ c.loop-index.out.items _ sets index (w.in-Some.name.now, w.in-Some.set.now) (sym c.at.ensures ∙ ap (option_map deref_pair) w.in-Some.is) c.loop-index.invariant
          (ap (λ o. o.items) w.out-is ∙ w.in_ok-put_set_part.ensures)
      | in_default w ↦ absurd (not_past sets index inside (sym c.at.ensures ∙ ap (option_map deref_pair) w.in_default.is))
    ]
