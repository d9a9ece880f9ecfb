use Rattle.std.proofs.Common.{◌≡◌, List, ℕ, ap, ◌∙◌}
use Rattle.mon_device.{specs.Devices.{holding}, proofs.Holding.{holding-nothing}}
use Rattle.deck_run.proofs.{Holdings.{still_read, flushed}, Ahead.{ends_ahead}, Running.{finish_ended, finish_refused, finish_begun}}
use Rattle.deck_run.proofs.run.finish.Goals as goal

pub returns-in-Ok-clause-ended : goal.returns-in-Ok-clause-ended
returns-in-Ok-clause-ended g c =
    let held = g.D.DeckDevices.written c.args.devices.now in
    let now = g.D.DeckDevices.written c.write_out.new.devices in
    let all : now ≡ holding held c.finish-answer.new.out = c.in-Ok.ensures.all in
    finish_ended held now _ c.finish-answer.new.out c.args.feed c.requires.empty _ _ _ all c.write_out.ensures.puts c.finish-answer.result c.finish-answer.ensures.ended

pub returns-in-Ok-clause-refused : goal.returns-in-Ok-clause-refused
returns-in-Ok-clause-refused g c = λ n code same.
    let held = g.D.DeckDevices.written c.args.devices.now in
    let now = g.D.DeckDevices.written c.write_out.new.devices in
    let all : now ≡ holding held c.finish-answer.new.out = c.in-Ok.ensures.all in
    finish_refused held now _ c.finish-answer.new.out c.args.feed c.requires.empty _ _ _ all c.write_out.ensures.puts n code (c.finish-answer.ensures.refused n code same)

pub returns-in-Ok-clause-begun : goal.returns-in-Ok-clause-begun
returns-in-Ok-clause-begun g c =
    let held = g.D.DeckDevices.written c.args.devices.now in
    let now = g.D.DeckDevices.written c.write_out.new.devices in
    finish_begun held now _ c.finish-answer.new.out c.args.feed c.requires.empty _ _ _ c.write_out.ensures.taken c.write_out.ensures.puts c.finish-answer.ensures.begun

pub returns-in-Ok-clause-ahead : goal.returns-in-Ok-clause-ahead
returns-in-Ok-clause-ahead g c = λ heeded.
    let held = g.D.DeckDevices.written c.args.devices.now in
    let now = g.D.DeckDevices.written c.write_out.new.devices in
    ends_ahead held now _ c.finish-answer.new.out c.args.feed c.requires.empty _ _ _ c.write_out.ensures.taken c.write_out.ensures.puts (c.write_out.ensures.ahead heeded)
    c.finish-answer.result c.finish-answer.ensures.own c.finish-answer.ensures.short c.finish-answer.ensures.ended c.finish-answer.ensures.refused

pub returns-in-Err-Audit-clause-begun : goal.returns-in-Err-Audit-clause-begun
returns-in-Err-Audit-clause-begun g c =
    let held = g.D.DeckDevices.written c.args.devices.now in
    let now = g.D.DeckDevices.written c.write_out.new.devices in
    finish_begun held now _ c.finish-answer.new.out c.args.feed c.requires.empty _ _ _ c.write_out.ensures.taken c.write_out.ensures.puts c.finish-answer.ensures.begun

pub returns-in-Err-Audit-clause-ahead : goal.returns-in-Err-Audit-clause-ahead
returns-in-Err-Audit-clause-ahead g c = λ heeded.
    let held = g.D.DeckDevices.written c.args.devices.now in
    let now = g.D.DeckDevices.written c.write_out.new.devices in
    ends_ahead held now _ c.finish-answer.new.out c.args.feed c.requires.empty _ _ _ c.write_out.ensures.taken c.write_out.ensures.puts (c.write_out.ensures.ahead heeded)
    c.finish-answer.result c.finish-answer.ensures.own c.finish-answer.ensures.short c.finish-answer.ensures.ended c.finish-answer.ensures.refused

pub returns-in-Err-Output-clause-begun : goal.returns-in-Err-Output-clause-begun
returns-in-Err-Output-clause-begun g c =
    let held = g.D.DeckDevices.written c.args.devices.now in
    let now = g.D.DeckDevices.written c.write_out.new.devices in
    finish_begun held now _ c.finish-answer.new.out c.args.feed c.requires.empty _ _ _ c.write_out.ensures.taken c.write_out.ensures.puts c.finish-answer.ensures.begun

pub returns-in-Err-Output-clause-ahead : goal.returns-in-Err-Output-clause-ahead
returns-in-Err-Output-clause-ahead g c = λ heeded.
    let held = g.D.DeckDevices.written c.args.devices.now in
    let now = g.D.DeckDevices.written c.write_out.new.devices in
    ends_ahead held now _ c.finish-answer.new.out c.args.feed c.requires.empty _ _ _ c.write_out.ensures.taken c.write_out.ensures.puts (c.write_out.ensures.ahead heeded)
    c.finish-answer.result c.finish-answer.ensures.own c.finish-answer.ensures.short c.finish-answer.ensures.ended c.finish-answer.ensures.refused

pub returns-in-Ok-clause-short : goal.returns-in-Ok-clause-short
returns-in-Ok-clause-short g c = λ short. (
  still_read c.args.feed.state c.args.feed.line c.requires.reading (c.finish-answer.ensures.memory short),
  c.in-Ok.ensures.all
      ∙ ap (λ (items : List ℕ). holding (g.D.DeckDevices.written c.args.devices.now) items) (c.finish-answer.ensures.short short ∙ c.requires.empty)
      ∙ holding-nothing (g.D.DeckDevices.written c.args.devices.now),
  c.finish-answer.ensures.begun.2,
  flushed _ _ _ _ c.finish-answer.ensures.begun.4 c.write_out.ensures.puts,
)
