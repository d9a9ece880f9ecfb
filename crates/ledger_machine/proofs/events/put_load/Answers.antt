use Rattle.std.proofs.Common.{◌≡◌, ◌++◌, ℕ, List, Err, refl, ap, ◌∙◌}
use Rattle.mon_device.proofs.Putting.{puts_same}
use Rattle.job_end.specs.{Printouts.{refusal_text}, AuditLines.{loaded_line, refused_line}}
use Rattle.mon_monitor.{specs.Abstraction.{system_of}, specs.Played.{loading}, proofs.Playing.{on_ok, load_done, load_refused, refused_is}}
use Rattle.ledger_machine.proofs.events.put_load.Goals as goal

pub returns-in-Ok : goal.returns-in-Ok
returns-in-Ok g c =
    load_done c.args.deck (system_of c.args.monitor.now) (system_of c.load.new.self) c.in-Ok.field-0 c.args.out.now.items c.args.out.now.items _ _ c.in-Ok.ensures.loaded refl
    (puts_same _ _ _ _ (ap (λ (a : List ℕ). loaded_line c.args.deck.number a) c.copy-account.ensures) c.print_loaded.ensures)

pub returns-in-Err-Refused : goal.returns-in-Err-Refused
returns-in-Err-Refused g c =
    let w = system_of c.args.monitor.now in
    let refusal = c.in-Err-Refused.refusal in
    let is : loading c.args.deck w ≡ (Err refusal, w) = refused_is c.args.deck w c.in-Err-Refused.field-0 refusal c.in-Err-Refused.field-0-is c.in-Err-Refused.ensures.refused in
    on_ok c.put_refusal.result
    (λ put. load_refused c.args.deck w (system_of c.load.new.self) refusal c.args.out.now.items c.put_refusal.new.out.items _ _ is c.in-Err-Refused.ensures.unchanged
    (put ∙ ap (λ (a : List ℕ). c.args.out.now.items ++ refusal_text c.args.deck.number a refusal) c.copy-account.ensures)
    (puts_same _ _ _ _ (ap (λ (a : List ℕ). refused_line c.args.deck.number a refusal) c.copy-account.ensures) c.print_refused.ensures))
    c.put_refusal.ensures.printed
