use Rattle.std.proofs.Common.{◌≡◌}
use Rattle.mon_guard.{specs.Owning.{acl_set}, proofs.Owned.{owners_set_lists}}
use Rattle.mon_guard.specs.declared.answer.AclAnswer.TheVariants as acl
use Rattle.mon_command.proofs.Refused.{refused}
use Rattle.mon_command.proofs.execution.Execution.set_acl.Goals as goal

pub returns-in-Denied-clause-serves : goal.returns-in-Denied-clause-serves
returns-in-Denied-clause-serves c =
    let sets = c.args.self.now.catalogue.now in
    let set = acl_set c.args.self.now.account.now sets c.args.name.now c.args.text.now in
    let answer = acl.Denied c.in-Denied.reason in
    let is : answer ≡ set.0 = (let was = c.in_ok-set.ensures.answer in let it = c.in-Denied.is in cc) in
    refused c.args.self.now.command.now c.told-in-Denied.result sets c.try_set_acl.new.catalogue answer set is
    ((owners_set_lists c.args.self.now.account.now sets c.args.name.now c.args.text.now).kept (λ done. absurd (let told = is in let no = done in cc)))
    c.in_ok-set.ensures.sets c.told-in-Denied.ensures

pub returns-in-BadList-clause-serves : goal.returns-in-BadList-clause-serves
returns-in-BadList-clause-serves c =
    let sets = c.args.self.now.catalogue.now in
    let set = acl_set c.args.self.now.account.now sets c.args.name.now c.args.text.now in
    let answer = acl.BadList c.in-BadList.error in
    let is : answer ≡ set.0 = (let was = c.in_ok-set.ensures.answer in let it = c.in-BadList.is in cc) in
    refused c.args.self.now.command.now c.told-in-BadList.result sets c.try_set_acl.new.catalogue answer set is
    ((owners_set_lists c.args.self.now.account.now sets c.args.name.now c.args.text.now).kept (λ done. absurd (let told = is in let no = done in cc)))
    c.in_ok-set.ensures.sets c.told-in-BadList.ensures
