use Rattle.std.proofs.Common.{◌≡◌, ℕ, List, IfOk, sym, ap, ◌∙◌, subst}
use Rattle.std.specs.Str.Lines.{lines}
use Rattle.deck_syntax.specs.{Decks.{Asked}, Sections.{Closed}}
use Rattle.site_plan.specs.Tables.{table_of}
use Rattle.ledger_sets.specs.Seeing.{site_of}
use Rattle.ledger_frames.specs.Needs.{AreEnough}
use Rattle.ledger_machine.specs.{Running.{asked_ahead}, Steps.{good_of}}
use Rattle.ledger_machine.proofs.{Playing.{may_hand_in, asks_ahead, step_is}, Narrow.{step_alike, written_alike}, Small.{ok_so, written_file}}
use Rattle.ledger_machine.proofs.machine.run_watched.Goals as goal

pub returns-clause-told : goal.returns-clause-told
returns-clause-told g c =
    let text = c.first_line.result.1.now in
    let fine = c.in_ok-kept.ensures.admitted in
    let which = c.in_ok-which.which in
    let ahead = asks_ahead c.in_ok-kept.kept fine.0 fine.1 ∙ ap (asked_ahead Closed) c.in_ok-kept.ensures.lines in
    let admits = may_hand_in c.in_ok-kept.kept c.in_ok-own.own text fine.0 fine.1 c.in_ok-kept.ensures.account c.in_ok-kept.ensures.lines in
    subst (λ (s : List ℕ × List ℕ). IfOk c.run_over.result (λ outcome. s ≡ (outcome.printout.items, outcome.change.items)))
    (step_alike c.some_are_enough.ensures (site_of c.args.state.now) c.in_ok-accounts.accounts (asked_ahead Closed (lines text)) c.reads_back.ensures.stored which
    (subst (λ (a : List Asked). AreEnough a which) ahead (c.in_ok-which.ensures fine.0 fine.1))
    ∙ sym (step_is c.args.file.now c.first_line.result.0.now c.in_ok-own.own text (site_of c.args.state.now) c.in_ok-accounts.accounts
    c.first_line.ensures.parts c.in_ok-own.ensures admits
    (ap (λ (t : List ℕ). good_of (table_of t)) (sym c.deref.ensures.value) ∙ c.in_ok-accounts.ensures)))
    (c.run_over.ensures.told (site_of c.args.state.now))

pub returns-clause-written : goal.returns-clause-written
returns-clause-written g c =
    let text = c.first_line.result.1.now in
    let fine = c.in_ok-kept.ensures.admitted in
    let which = c.in_ok-which.which in
    let ahead = asks_ahead c.in_ok-kept.kept fine.0 fine.1 ∙ ap (asked_ahead Closed) c.in_ok-kept.ensures.lines in
    let admits = may_hand_in c.in_ok-kept.kept c.in_ok-own.own text fine.0 fine.1 c.in_ok-kept.ensures.account c.in_ok-kept.ensures.lines in
    ok_so c.run_over.result
    (λ w. written_file c.args.file.now c.first_line.result.0.now c.in_ok-own.own text (site_of c.args.state.now) c.in_ok-accounts.accounts
    c.first_line.ensures.parts c.in_ok-own.ensures admits
    (ap (λ (t : List ℕ). good_of (table_of t)) (sym c.deref.ensures.value) ∙ c.in_ok-accounts.ensures)
    (written_alike c.some_are_enough.ensures (site_of c.args.state.now) c.in_ok-accounts.accounts (asked_ahead Closed (lines text)) c.reads_back.ensures.stored which
    (subst (λ (a : List Asked). AreEnough a which) ahead (c.in_ok-which.ensures fine.0 fine.1)) c.reads_back.ensures.printable w))
    (c.run_over.ensures.written (site_of c.args.state.now))
