-- What was asked was served, and its lines were put; and what was lent is given back.
use Rattle.std.proofs.Common.{ℕ, rules, refl}
use Rattle.scheduler.proofs.{Common.{Standing, job_of, UnitService, same_loans, AuditedService}, Calls.{turn_done}}
use Rattle.scheduler.proofs.Audited.{units_answer, lines_put, lines_cut, stays, done_as, still_kept}
use Rattle.scheduler.proofs.slot.audited_turn.Goals as goal

pub returns-clause-turn : goal.returns-clause-turn
returns-clause-turn g c =
    let number : AuditedService g.row.S.Denot → ℕ = λ s. s.kept.now.number in
    let unit : AuditedService g.row.S.Denot → UnitService = λ s. s.service.now in
    let standing : AuditedService g.row.S.Denot → Standing = λ s. g.S.Sink.standing s.audit.now in
    let lent : AuditedService g.row.S.Denot → ℕ = λ s. s.service.ghost_name in
    let told : AuditedService g.row.S.Denot → ℕ = λ s. s.audit.ghost_name in
    let answered = c.statement_turn.ensures.turn.1 in
    let units = units_answer number unit standing _ (λ s q r m h. h.0) _ _ _ answered in
    let service = stays lent _ (λ s q r m h. h.1) _ _ _ answered in
    let audit = stays told _ (λ s q r m h. h.2) _ _ _ answered in
    done_as _ _ _ _ _ _ _ _ _ _ (search rules) (search rules) (record {
      loans = same_loans _ _ _ units;
      is = turn_done c.args.kept.now.number c.args.service.now.account.now (job_of c.args.job.now) _ _ _ _ _ _ _ refl units
          (λ t. lines_put number unit standing _ (λ s q r m h. h.0) _ _ _ _ _ _ _ refl refl answered t)
          (λ t. lines_cut number unit standing _ (λ s q r m h. h.0) _ _ _ _ _ _ refl refl answered t) c.statement_turn.ensures.turn.2;
    })

pub returns-clause-fit : goal.returns-clause-fit
returns-clause-fit g c =
    let lent : AuditedService g.row.S.Denot → ℕ = λ s. s.service.ghost_name in
    let service = stays lent _ (λ s q r m h. h.1) _ _ _ c.statement_turn.ensures.turn.1 in
    let ready = c.statement_turn.ensures.ready.0 in
    λ k d within. let at = ready k d in search rules

pub returns-clause-kept : goal.returns-clause-kept
returns-clause-kept g c =
    let answered = c.statement_turn.ensures.turn.1 in
    let of : AuditedService g.row.S.Denot → ℕ = λ s. s.kept.now.number in
    let lent : AuditedService g.row.S.Denot → ℕ = λ s. s.service.ghost_name in
    let told : AuditedService g.row.S.Denot → ℕ = λ s. s.kept.ghost_name in
    let number = stays of _ (λ s q r m h. h.0.number) _ _ _ answered in
    let service = stays lent _ (λ s q r m h. h.1) _ _ _ answered in
    let kept = stays told _ (λ s q r m h. h.3) _ _ _ answered in
    let left = c.statement_turn.new.service in
    still_kept _ left.service.now _ left.kept.now _ number (search rules) (search rules) c.statement_turn.ensures.ready.1
