use Rattle.std.proofs.Common.{None, ap, ◌∙◌}
use Rattle.scheduler.proofs.{Common.{IfOk-weaker, IfErr-weaker, on_ok_weaker, statements_of, program_in, slot_by}, Loads.{deck_refused_by, stop_refused_by}}
use Rattle.scheduler.proofs.loading.slot_at_once.Goals as goal

pub returns-in-Ok-clause-slot : goal.returns-in-Ok-clause-slot
returns-in-Ok-clause-slot c =
    let deck = c.args.deck.now in
    IfOk-weaker c.slot_of_account.result _ _ (λ slot h. ap (λ o. slot_by deck o (program_in (statements_of deck.lines))) c.in-Ok.ensures.account ∙ h) c.slot_of_account.ensures.slot

pub returns-in-Ok-clause-clean : goal.returns-in-Ok-clause-clean
returns-in-Ok-clause-clean c =
    on_ok_weaker c.slot_of_account.result (λ h. deck_refused_by c.args.accounts.now c.args.deck.now _ None c.in-Ok.ensures.account c.in-Ok.ensures.clean h) c.slot_of_account.ensures.clean

pub returns-in-Ok-clause-refused : goal.returns-in-Ok-clause-refused
returns-in-Ok-clause-refused c =
    IfErr-weaker c.slot_of_account.result _ _
    (λ stop h. stop_refused_by c.args.accounts.now c.args.deck.now _ stop c.in-Ok.ensures.account c.in-Ok.ensures.clean h) c.slot_of_account.ensures.refused
