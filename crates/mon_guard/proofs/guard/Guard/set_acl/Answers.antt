use Rattle.std.proofs.Common.{◌∙◌}
use Rattle.mon_guard.proofs.Owned.{owners_set_lists}
use Rattle.mon_guard.proofs.guard.Guard.set_acl.Goals as goal

pub returns-in-Err-clause-denied : goal.returns-in-Err-clause-denied
returns-in-Err-clause-denied c = λ reason. (
  (λ same. absurd (let no = same in cc)),
  (λ denied. absurd (let no = (c.in-Err.ensures.denied reason).1 denied in cc)),
)

pub returns-in-Ok-Denied-clause-denied : goal.returns-in-Ok-Denied-clause-denied
returns-in-Ok-Denied-clause-denied c = λ reason. (
  (λ same. (c.in-Ok-Denied.ensures.denied reason).0 (let is = same in cc)),
  (λ denied. let is = (c.in-Ok-Denied.ensures.denied reason).1 denied in cc),
)

pub returns-in-Ok-BadList-clause-unchanged : goal.returns-in-Ok-BadList-clause-unchanged
returns-in-Ok-BadList-clause-unchanged c =
    c.in-Ok-BadList.ensures.sets
    ∙ (owners_set_lists c.args.account.now c.args.catalogue.now c.args.name.now c.args.text.now).kept
    (λ done. absurd (let answer = c.in-Ok-BadList.ensures.answer in let is = c.in-Ok-BadList.field-0-is in let no = done in cc))
