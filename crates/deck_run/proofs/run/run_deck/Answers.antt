use Rattle.std.proofs.Common.{◌≡◌, true, refl, sym, ap, subst}
use Rattle.mon_device.specs.Putting.{Standing}
use Rattle.deck_driver.specs.declared.fault.RunError.TheVariants.{DeckRefused, ReadFault, WriteFault, Memory}
use Rattle.deck_run.specs.{Audited.{is_broken}, Runs.{HasRun, HasWritten, HasPrinted, HasBrokenOff}}
use Rattle.deck_run.proofs.Ended.{ok_stays, counts_stay, was_so, fault_stays, audit_fault, good_ends, bad_ends, ahead_stays}
use Rattle.deck_run.proofs.run.run_deck.Goals as goal

pub returns-clause-at_end : goal.returns-clause-at_end
returns-clause-at_end g c =
    ok_stays _ _ _ _ _ c.tell_end.ensures.answer c.run_cards-answer.ensures.at_end

pub returns-clause-stopped : goal.returns-clause-stopped
returns-clause-stopped g c =
    ok_stays _ _ _ _ _ c.tell_end.ensures.answer c.run_cards-answer.ensures.stopped

pub returns-clause-output : goal.returns-clause-output
returns-clause-output g c =
    let a = g.A.Sink.standing c.args.audit.now in
    let b = g.A.Sink.standing c.run_cards-answer.new.audit in
    let d = g.A.Sink.standing c.tell_end.new.audit in
    let held = g.D.DeckDevices.written c.args.devices.now in
    let now = g.D.DeckDevices.written c.run_cards-answer.new.devices in
    let told = g.D.DeckDevices.remaining c.args.devices.now in
    good_ends told (λ bytes s. HasRun c.args.options held now bytes a s) c.args.options.check b d _ _ _ _ c.tell_end.ensures.answer c.tell_end.ensures.puts c.run_cards-answer.ensures.output

pub returns-clause-counts : goal.returns-clause-counts
returns-clause-counts g c =
    counts_stay _ _ _ _ _ c.tell_end.ensures.answer c.run_cards-answer.ensures.counts

pub returns-clause-refused : goal.returns-clause-refused
returns-clause-refused g c = λ n code same.
    c.run_cards-answer.ensures.refused n code (was_so _ _ _ _ (DeckRefused n code) (λ e. cc) c.tell_end.ensures.answer same)

pub returns-clause-refused_output : goal.returns-clause-refused_output
returns-clause-refused_output g c = λ n code same.
    let a = g.A.Sink.standing c.args.audit.now in
    let b = g.A.Sink.standing c.run_cards-answer.new.audit in
    let d = g.A.Sink.standing c.tell_end.new.audit in
    let held = g.D.DeckDevices.written c.args.devices.now in
    let now = g.D.DeckDevices.written c.run_cards-answer.new.devices in
    let told = g.D.DeckDevices.remaining c.args.devices.now in
    let was = was_so _ _ _ _ (DeckRefused n code) (λ e. cc) c.tell_end.ensures.answer same in
    bad_ends told (λ bytes s. HasWritten c.args.options held now bytes a s) c.args.options.check b d _ _ (DeckRefused n code) was same c.tell_end.ensures.puts
    (c.run_cards-answer.ensures.refused_output n code was)

pub returns-clause-begun : goal.returns-clause-begun
returns-clause-begun g c =
    (c.run_cards-answer.result, (g.A.Sink.standing c.run_cards-answer.new.audit, c.run_cards-answer.ensures.begun, c.tell_end.ensures.puts))

pub returns-clause-ahead : goal.returns-clause-ahead
returns-clause-ahead g c = λ heeded.
    ahead_stays c.args.options _ _ _ _ _ _ _ _ c.tell_end.ensures.puts (c.run_cards-answer.ensures.ahead heeded)

pub returns-clause-due : goal.returns-clause-due
returns-clause-due g c = λ fault.
    let a = g.A.Sink.standing c.args.audit.now in
    let held = g.D.DeckDevices.written c.args.devices.now in
    let now = g.D.DeckDevices.written c.run_cards-answer.new.devices in
    let told = g.D.DeckDevices.remaining c.args.devices.now in
    let left = g.D.DeckDevices.remaining c.run_cards-answer.new.devices in
    let was = was_so _ _ _ _ ReadFault (λ e. cc) c.tell_end.ensures.answer fault in
    subst (λ (s : Standing). HasPrinted c.args.options told left held now a s) (sym (c.tell_end.ensures.broken (ap is_broken was)).1) (c.run_cards-answer.ensures.due was)

pub returns-clause-short : goal.returns-clause-short
returns-clause-short g c = λ fault.
    let a = g.A.Sink.standing c.args.audit.now in
    let held = g.D.DeckDevices.written c.args.devices.now in
    let now = g.D.DeckDevices.written c.run_cards-answer.new.devices in
    let told = g.D.DeckDevices.remaining c.args.devices.now in
    let left = g.D.DeckDevices.remaining c.run_cards-answer.new.devices in
    let was = was_so _ _ _ _ Memory (λ e. cc) c.tell_end.ensures.answer fault in
    subst (λ (s : Standing). HasBrokenOff c.args.options c.run_cards-answer.new.shortage.line told left held now a s) (sym (c.tell_end.ensures.broken (ap is_broken was)).1) (c.run_cards-answer.ensures.short was)

pub returns-clause-faults : goal.returns-clause-faults
returns-clause-faults g c = (
  λ failed. fault_stays _ _ _ _ ReadFault refl c.tell_end.ensures.answer (c.run_cards-answer.ensures.faults.0 failed),
  λ failed. fault_stays _ _ _ _ WriteFault refl c.tell_end.ensures.answer (c.run_cards-answer.ensures.faults.1 failed),
)

pub returns-clause-read_fault : goal.returns-clause-read_fault
returns-clause-read_fault g c = λ fault.
    c.run_cards-answer.ensures.read_fault (was_so _ _ _ _ ReadFault (λ e. cc) c.tell_end.ensures.answer fault)

pub returns-clause-write_fault : goal.returns-clause-write_fault
returns-clause-write_fault g c = λ fault.
    c.run_cards-answer.ensures.write_fault (was_so _ _ _ _ WriteFault (λ e. cc) c.tell_end.ensures.answer fault)

pub returns-clause-audit_fault : goal.returns-clause-audit_fault
returns-clause-audit_fault g c = λ fault.
    audit_fault _ _ _ _ c.tell_end.ensures.answer (λ was.
    let before = c.run_cards-answer.ensures.audit_fault was in
    (before.0, subst (λ (s : Standing). s.failed ≡ true) (sym (c.tell_end.ensures.broken (ap is_broken was)).1) before.1)) fault
