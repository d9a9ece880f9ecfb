use Rattle.std.proofs.Common.{◌≡◌, ℕ, List, refl, sym, ◌∙◌, subst}
use Rattle.ledger_text.specs.{Text.{commit_of}, Digests.{digest_of}, Records.{seen}}
use Rattle.ledger_run.specs.{Meaning.{event_of, event_behind}, Runs.{Seen, seen_ledger, CarriesOn}, Senders.{sent_in}}
use Rattle.ledger_run.{specs.Following.{event_sent, with_commit, after_event}, proofs.Safety.{still_safe, commit_safe_from, commit_carries_on, one_commit}}
use Rattle.ledger_run.proofs.recording.put_record.Goals as goal

pub returns-in_err-event-clause-any_moment : goal.returns-in_err-event-clause-any_moment
returns-in_err-event-clause-any_moment g c = still_safe g.D.Disk.calls g.M.Machine.step (seen_ledger c.args.ledger.now) (g.M.Machine.behind c.args.machine.now) c.args.disk.now c.args.disk.now refl

pub returns-in_err-text-clause-any_moment : goal.returns-in_err-text-clause-any_moment
returns-in_err-text-clause-any_moment g c = still_safe g.D.Disk.calls g.M.Machine.step (seen_ledger c.args.ledger.now) (g.M.Machine.behind c.args.machine.now) c.args.disk.now c.args.disk.now refl

pub returns-in_err-put-clause-any_moment : goal.returns-in_err-put-clause-any_moment
returns-in_err-put-clause-any_moment g c =
    commit_safe_from g.D.Disk.calls g.M.Machine.step (seen_ledger c.args.ledger.now) (g.M.Machine.behind c.args.machine.now) c.in_ok-event.event c.deref.result.now
    (event_of (seen c.args.entry.record) c.args.change.now) c.args.disk.now c.put.new.disk c.in_ok-event.ensures.may c.in_ok-event.ensures.is
    (subst (λ (t : List ℕ). event_behind c.args.ledger.now.last.items (commit_of t) ≡ event_of (seen c.args.entry.record) c.args.change.now) (sym c.deref.ensures.value) c.in_ok-text.ensures.says)
    c.requires c.in_err-put.ensures.began

pub returns-clause-any_moment : goal.returns-clause-any_moment
returns-clause-any_moment g c =
    commit_safe_from g.D.Disk.calls g.M.Machine.step (seen_ledger c.args.ledger.now) (g.M.Machine.behind c.args.machine.now) c.in_ok-event.event c.deref.result.now
    (event_of (seen c.args.entry.record) c.args.change.now) c.args.disk.now c.put.new.disk c.in_ok-event.ensures.may c.in_ok-event.ensures.is
    (subst (λ (t : List ℕ). event_behind c.args.ledger.now.last.items (commit_of t) ≡ event_of (seen c.args.entry.record) c.args.change.now) (sym c.deref.ensures.value) c.in_ok-text.ensures.says)
    c.requires c.in_ok-put.ensures.began

pub returns-clause-done : goal.returns-clause-done
returns-clause-done g c =
    subst (λ (s : Seen). CarriesOn g.D.Disk.calls g.M.Machine.step (seen_ledger c.args.ledger.now) (g.M.Machine.behind c.args.machine.now) s (g.M.Machine.behind c.put.new.machine) c.args.disk.now c.put.new.disk) (sym c.in_ok-put.ensures.ledger)
    (subst (λ (b : List (List ℕ)). CarriesOn g.D.Disk.calls g.M.Machine.step (seen_ledger c.args.ledger.now) (g.M.Machine.behind c.args.machine.now) (with_commit (digest_of c.deref.result.now) (after_event c.in_ok-event.event (seen_ledger c.args.ledger.now))) b c.args.disk.now c.put.new.disk)
    (sym c.in_ok-put.ensures.machine)
    (commit_carries_on g.D.Disk.calls g.M.Machine.step (seen_ledger c.args.ledger.now) (g.M.Machine.behind c.args.machine.now) c.in_ok-event.event c.deref.result.now
    (event_of (seen c.args.entry.record) c.args.change.now) c.args.disk.now c.put.new.disk c.in_ok-event.ensures.may c.in_ok-event.ensures.is
    (subst (λ (t : List ℕ). event_behind c.args.ledger.now.last.items (commit_of t) ≡ event_of (seen c.args.entry.record) c.args.change.now) (sym c.deref.ensures.value) c.in_ok-text.ensures.says)
    c.requires
    (subst (λ (t : List ℕ). event_sent c.in_ok-event.event ≡ sent_in (commit_of t)) (sym c.deref.ensures.value) (c.in_ok-event.ensures.sent ∙ sym c.in_ok-text.ensures.sent))
    c.in_ok-put.ensures.did))

pub returns-clause-one : goal.returns-clause-one
returns-clause-one g c = one_commit c.in_ok-event.event c.deref.result.now (seen_ledger c.args.ledger.now) (seen_ledger c.put.new.ledger) c.in_ok-put.ensures.ledger

pub returns-clause-recorded : goal.returns-clause-recorded
returns-clause-recorded g c = record {
  event = c.in_ok-event.event;
  digest = digest_of c.deref.result.now;
  is = c.in_ok-event.ensures.is;
  sent = c.in_ok-event.ensures.sent;
  ledger = c.in_ok-put.ensures.ledger;
}
