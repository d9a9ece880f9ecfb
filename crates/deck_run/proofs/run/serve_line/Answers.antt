use Rattle.std.proofs.Common.{◌≡◌, sym, ap, subst, ◌∙◌, ◌++◌, ◌+◌, List, ℕ, [], Result, IfErr}
use Rattle.std.specs.Str.Lines.{lines}
use Rattle.mon_device.{specs.Devices.{holding}, proofs.Putting.{puts_then}}
use Rattle.deck_driver.specs.{declared.fault.RunError.{RunError}, declared.section.DeckState.{DeckState}, Feeds.{behind, outcome, stopped_by}}
use Rattle.deck_driver.proofs.Telling.{refused_so}
use Rattle.deck_run.{specs.Runs.{HoldsBeginning}, proofs.Ahead.{line_ahead, gathered_ahead}, proofs.Running.{memory_so, silent_put}}
use Rattle.deck_run.proofs.Holdings.{still_read, flushed, serves_written, serves_flushed, refused_holds, starts_written, starts_flushed, has_grown}
use Rattle.deck_run.proofs.run.serve_line.Goals as goal

pub returns-in-Ok-flush_large-clause-served : goal.returns-in-Ok-flush_large-clause-served
returns-in-Ok-flush_large-clause-served g c =
    serves_flushed _ _ _ _ _ _ _ _ _ _
    (serves_written (g.D.DeckDevices.written c.args.devices.now) (g.D.DeckDevices.written c.flush_large.new.devices) _ c.feed_line.new.out c.flush_large.new.out.printed _ _ _ _ _
    c.in-Ok.ensures.told c.in-Ok-flush_large.ensures.put)
    c.flush_large.ensures.puts

pub returns-in-Ok-write_out-clause-refused : goal.returns-in-Ok-write_out-clause-refused
returns-in-Ok-write_out-clause-refused g c = λ n code same.
    let after = c.feed_line.new.self in
    let so : ◌≡◌ {A = Result ℕ RunError} c.feed_line.result _ = c.in-Err.is ∙ refused_so c.in-Err.error n code same in
    let failed = subst (λ (e : Result ℕ RunError). IfErr e (λ error. after.state ≡ stopped_by error)) so c.feed_line.ensures.failed in
    record {
      marks = [];
      is = λ rest bytes.
          refused_holds (g.D.DeckDevices.written c.args.devices.now) (g.D.DeckDevices.written c.write_out.new.devices) c.feed_line.new.out after.counts n code _
          c.in-Ok-write_out.ensures.all
          (sym (ap (λ (s : DeckState). behind c.feed_line.new.out after.counts (outcome after.options after.counts.jobs rest s (after.lines_taken + 1) (lines (after.line ++ bytes)))) failed)
          ∙ c.feed_line.ensures.refused n code so rest bytes);
      audit = [];
      tells = λ rest bytes. ((c.feed_line.ensures.silent n code so).1 rest bytes).1;
      audited = puts_then _ _ _ [] [] (silent_put _ _ (c.feed_line.ensures.silent n code so).0) c.write_out.ensures.puts;
    }

pub returns-in-Ok-flush_large-clause-begun : goal.returns-in-Ok-flush_large-clause-begun
returns-in-Ok-flush_large-clause-begun g c =
    starts_flushed _ _ _ _ _ _ _ _ (starts_written _ _ _ c.feed_line.new.out _ _ _ _ c.feed_line.ensures.begun c.flush_large.ensures.begun) c.flush_large.ensures.puts

pub returns-in-Ok-flush_large-clause-grown : goal.returns-in-Ok-flush_large-clause-grown
returns-in-Ok-flush_large-clause-grown g c = has_grown _ _ c.feed_line.new.out c.flush_large.ensures.begun

pub returns-in-Ok-flush_large-clause-ahead : goal.returns-in-Ok-flush_large-clause-ahead
returns-in-Ok-flush_large-clause-ahead g c = λ heeded.
    line_ahead _ _ _ c.feed_line.new.out _ _ c.in-Ok.used _ _ _ _ c.in-Ok.ensures.told c.flush_large.ensures.begun c.flush_large.ensures.puts (c.flush_large.ensures.ahead heeded)

pub returns-in-Err-Audit-clause-begun : goal.returns-in-Err-Audit-clause-begun
returns-in-Err-Audit-clause-begun g c =
    starts_flushed _ _ _ _ _ _ _ _ (starts_written _ _ _ c.feed_line.new.out _ _ _ _ c.feed_line.ensures.begun c.flush_large.ensures.begun) c.flush_large.ensures.puts

pub returns-in-Err-Audit-clause-grown : goal.returns-in-Err-Audit-clause-grown
returns-in-Err-Audit-clause-grown g c = has_grown _ _ c.feed_line.new.out c.flush_large.ensures.begun

pub returns-in-Err-Audit-clause-ahead : goal.returns-in-Err-Audit-clause-ahead
returns-in-Err-Audit-clause-ahead g c = λ heeded.
    line_ahead _ _ _ c.feed_line.new.out _ _ c.in-Ok.used _ _ _ _ c.in-Ok.ensures.told c.flush_large.ensures.begun c.flush_large.ensures.puts (c.flush_large.ensures.ahead heeded)

pub returns-in-Err-Output-clause-begun : goal.returns-in-Err-Output-clause-begun
returns-in-Err-Output-clause-begun g c =
    starts_flushed _ _ _ _ _ _ _ _ (starts_written _ _ _ c.feed_line.new.out _ _ _ _ c.feed_line.ensures.begun c.flush_large.ensures.begun) c.flush_large.ensures.puts

pub returns-in-Err-Output-clause-grown : goal.returns-in-Err-Output-clause-grown
returns-in-Err-Output-clause-grown g c = has_grown _ _ c.feed_line.new.out c.flush_large.ensures.begun

pub returns-in-Err-Output-clause-ahead : goal.returns-in-Err-Output-clause-ahead
returns-in-Err-Output-clause-ahead g c = λ heeded.
    line_ahead _ _ _ c.feed_line.new.out _ _ c.in-Ok.used _ _ _ _ c.in-Ok.ensures.told c.flush_large.ensures.begun c.flush_large.ensures.puts (c.flush_large.ensures.ahead heeded)

pub returns-in-Ok-write_out-clause-begun : goal.returns-in-Ok-write_out-clause-begun
returns-in-Ok-write_out-clause-begun g c =
    starts_flushed _ _ _ _ _ _ _ _ (starts_written _ _ _ c.feed_line.new.out _ _ _ _ c.feed_line.ensures.begun c.write_out.ensures.taken) c.write_out.ensures.puts

pub returns-in-Ok-write_out-clause-grown : goal.returns-in-Ok-write_out-clause-grown
returns-in-Ok-write_out-clause-grown g c = has_grown _ _ c.feed_line.new.out c.write_out.ensures.taken

pub returns-in-Ok-write_out-clause-ahead : goal.returns-in-Ok-write_out-clause-ahead
returns-in-Ok-write_out-clause-ahead g c = λ heeded.
    let nothing : c.feed_line.new.out ≡ c.args.out.now.printed = c.in-Err.ensures.nothing in
    gathered_ahead _ _ _ _ _ _ _ _
    (subst (λ (out : List ℕ). HoldsBeginning (g.D.DeckDevices.written c.args.devices.now) (g.D.DeckDevices.written c.write_out.new.devices) out) nothing c.write_out.ensures.taken)
    (flushed _ _ _ _ c.feed_line.ensures.begun.audited c.write_out.ensures.puts) (c.write_out.ensures.ahead heeded)

pub returns-in-Err-Audit-write_out-clause-begun : goal.returns-in-Err-Audit-write_out-clause-begun
returns-in-Err-Audit-write_out-clause-begun g c =
    starts_flushed _ _ _ _ _ _ _ _ (starts_written _ _ _ c.feed_line.new.out _ _ _ _ c.feed_line.ensures.begun c.write_out.ensures.taken) c.write_out.ensures.puts

pub returns-in-Err-Audit-write_out-clause-grown : goal.returns-in-Err-Audit-write_out-clause-grown
returns-in-Err-Audit-write_out-clause-grown g c = has_grown _ _ c.feed_line.new.out c.write_out.ensures.taken

pub returns-in-Err-Audit-write_out-clause-ahead : goal.returns-in-Err-Audit-write_out-clause-ahead
returns-in-Err-Audit-write_out-clause-ahead g c = λ heeded.
    let nothing : c.feed_line.new.out ≡ c.args.out.now.printed = c.in-Err.ensures.nothing in
    gathered_ahead _ _ _ _ _ _ _ _
    (subst (λ (out : List ℕ). HoldsBeginning (g.D.DeckDevices.written c.args.devices.now) (g.D.DeckDevices.written c.write_out.new.devices) out) nothing c.write_out.ensures.taken)
    (flushed _ _ _ _ c.feed_line.ensures.begun.audited c.write_out.ensures.puts) (c.write_out.ensures.ahead heeded)

pub returns-in-Err-Output-write_out-clause-begun : goal.returns-in-Err-Output-write_out-clause-begun
returns-in-Err-Output-write_out-clause-begun g c =
    starts_flushed _ _ _ _ _ _ _ _ (starts_written _ _ _ c.feed_line.new.out _ _ _ _ c.feed_line.ensures.begun c.write_out.ensures.taken) c.write_out.ensures.puts

pub returns-in-Err-Output-write_out-clause-grown : goal.returns-in-Err-Output-write_out-clause-grown
returns-in-Err-Output-write_out-clause-grown g c = has_grown _ _ c.feed_line.new.out c.write_out.ensures.taken

pub returns-in-Err-Output-write_out-clause-ahead : goal.returns-in-Err-Output-write_out-clause-ahead
returns-in-Err-Output-write_out-clause-ahead g c = λ heeded.
    let nothing : c.feed_line.new.out ≡ c.args.out.now.printed = c.in-Err.ensures.nothing in
    gathered_ahead _ _ _ _ _ _ _ _
    (subst (λ (out : List ℕ). HoldsBeginning (g.D.DeckDevices.written c.args.devices.now) (g.D.DeckDevices.written c.write_out.new.devices) out) nothing c.write_out.ensures.taken)
    (flushed _ _ _ _ c.feed_line.ensures.begun.audited c.write_out.ensures.puts) (c.write_out.ensures.ahead heeded)

pub returns-in-Ok-write_out-clause-short : goal.returns-in-Ok-write_out-clause-short
returns-in-Ok-write_out-clause-short g c = λ short.
    let so : ◌≡◌ {A = Result ℕ RunError} c.feed_line.result _ = c.in-Err.is ∙ memory_so c.in-Err.error short in (
      still_read c.args.feed.now.state c.args.piece.now c.requires.reading (c.feed_line.ensures.memory so),
      c.in-Ok-write_out.ensures.all ∙ ap (λ (items : List ℕ). holding (g.D.DeckDevices.written c.args.devices.now) items) c.in-Err.ensures.nothing,
      c.feed_line.ensures.begun.audit,
      flushed _ _ _ _ c.feed_line.ensures.begun.audited c.write_out.ensures.puts,
    )
