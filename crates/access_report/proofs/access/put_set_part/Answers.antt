use Rattle.std.proofs.Common.{◌<◌, ◌∙◌, length, sym, ap, arith}
use Rattle.std.specs.Option.{option_copied}
use Rattle.access_report.specs.Access.{account_part}
use Rattle.access_report.proofs.{Listed.{one_more, not_past}, access.put_set_part.Goals.{in-Some+in_ok-put_account_part, in_default}}
use Rattle.access_report.proofs.access.put_set_part.Goals as goal

pub loop-index-preserved : goal.loop-index-preserved
loop-index-preserved c =
    let accounts = c.args.accounts.now in
    let index = c.loop-index.index in
    let told = account_part c.args.question.now (c.args.name.now, c.args.set.now) in
    let inside : index < length accounts = omega arith in
    elim c.match-at.branch [
      | in-Some+in_ok-put_account_part w ↦
          one_more told _ c.loop-index.out.items _ accounts index w.in-Some.account.now (sym c.at.ensures ∙ ap option_copied w.in-Some.is) c.loop-index.invariant
          (ap (λ o. o.items) w.out-is ∙ w.in_ok-put_account_part.ensures)
      | in_default w ↦ absurd (not_past accounts index inside (sym c.at.ensures ∙ ap option_copied w.in_default.is))
    ]
