use Rattle.std.proofs.Common.{Bool, [], ap, sym, ◌∙◌, if◌then◌else◌}
use Rattle.mon_access.specs.Accounts.{find_account}
use Rattle.deck_lines.specs.Commands.{account_of}
use Rattle.mon_device.proofs.Putting.{puts_nothing, puts_same}
use Rattle.audit.{specs.Grants.{granted_words}, specs.inner.Parts.{grant_after}, proofs.Granted.{granted_last}}
use Rattle.audit.proofs.grants.print_granted_by.Goals as goal

pub returns-then-is_granted : goal.returns-then-is_granted
returns-then-is_granted g c =
    let grant = grant_after (find_account c.args.accounts.now (account_of c.args.command.now)) c.args.sets.now c.args.command.now in
    puts_same _ _ _ _
    (ap granted_words c.command_grant-grant.ensures
    ∙ ap (λ (b : Bool). if b then granted_words grant else []) (sym c.if-is_granted.true ∙ c.is_granted.ensures)
    ∙ granted_last c.args.said.now grant)
    c.print_granted.ensures

pub returns-else-is_granted : goal.returns-else-is_granted
returns-else-is_granted g c =
    let grant = grant_after (find_account c.args.accounts.now (account_of c.args.command.now)) c.args.sets.now c.args.command.now in
    puts_same _ _ _ _
    (ap (λ (b : Bool). if b then granted_words grant else []) (sym c.if-is_granted.false ∙ c.is_granted.ensures) ∙ granted_last c.args.said.now grant)
    (puts_nothing _)
