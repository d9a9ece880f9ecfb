use Rattle.std.proofs.Common.{◌≡◌, ◌++◌, ℕ, List, Err, refl, ap, ◌∙◌}
use Rattle.mon_monitor.proofs.Common.{puts_same, refusal_text, loaded_line, refused_line, system_of, loading, loading_lines}
use Rattle.mon_monitor.proofs.Playing.{on_ok, load_done, load_refused, refused_is, on_err, none_told, refused_told}
use Rattle.mon_monitor.proofs.monitor.Monitor.put_load.Goals as goal

pub returns-in-Ok-clause-does : goal.returns-in-Ok-clause-does
returns-in-Ok-clause-does g c =
    load_done c.args.deck (system_of c.args.self.now) (system_of c.load.new.self) c.in-Ok.field-0 c.args.out.now.items c.args.out.now.items _ _ c.in-Ok.ensures.loaded refl
    (puts_same _ _ _ _ (ap (λ (a : List ℕ). loaded_line c.args.deck.number a) c.copy-account.ensures) c.print_loaded.ensures)

pub returns-in-Err-Refused-clause-does : goal.returns-in-Err-Refused-clause-does
returns-in-Err-Refused-clause-does g c =
    let w = system_of c.args.self.now in
    let refusal = c.in-Err-Refused.refusal in
    let is : loading c.args.deck w ≡ (Err refusal, w) = refused_is c.args.deck w c.in-Err-Refused.field-0 refusal c.in-Err-Refused.field-0-is c.in-Err-Refused.ensures.refused in
    on_ok c.put_refusal.result
    (λ put. load_refused c.args.deck w (system_of c.load.new.self) refusal c.args.out.now.items c.put_refusal.new.out.items _ _ is c.in-Err-Refused.ensures.unchanged
    (put ∙ ap (λ (a : List ℕ). c.args.out.now.items ++ refusal_text c.args.deck.number a refusal) c.copy-account.ensures)
    (puts_same _ _ _ _ (ap (λ (a : List ℕ). refused_line c.args.deck.number a refusal) c.copy-account.ensures) c.print_refused.ensures))
    c.put_refusal.ensures.printed

pub returns-in-Err-Refused-clause-broken : goal.returns-in-Err-Refused-clause-broken
returns-in-Err-Refused-clause-broken g c =
    let w = system_of c.args.self.now in
    let refusal = c.in-Err-Refused.refusal in
    let is : loading c.args.deck w ≡ (Err refusal, w) = refused_is c.args.deck w c.in-Err-Refused.field-0 refusal c.in-Err-Refused.field-0-is c.in-Err-Refused.ensures.refused in
    on_err c.put_refusal.result
    (refused_told c.args.deck w refusal _ _ is
    (puts_same _ _ _ _ (ap (λ (a : List ℕ). refused_line c.args.deck.number a refusal) c.copy-account.ensures) c.print_refused.ensures))

pub returns-in-Err-Memory-clause-broken : goal.returns-in-Err-Memory-clause-broken
returns-in-Err-Memory-clause-broken g c = none_told (loading_lines c.args.deck) (system_of c.args.self.now) _ _ refl
