use Rattle.std.proofs.Common.{rules, ◌≡◌, Some}
use Rattle.scheduler.proofs.{Common.{statements_of, program_of, first_job, job_of}, Loads.{slot_made, spelled_clean}}
use Rattle.scheduler.proofs.loading.slot_of_account.Goals as goal

pub returns-clause-slot : goal.returns-clause-slot
returns-clause-slot c =
    let deck = c.args.deck.now in
    let job : job_of c.in_ok-job.job ≡ first_job (program_of c.in_ok-units.field-0.program) deck.limits = search rules in
    let same : Some c.args.account.now ≡ Some c.in_ok-account.account = search rules in
    slot_made deck (Some c.args.account.now) c.in_ok-account.account (statements_of deck.lines) (program_of c.in_ok-units.field-0.program)
    c.in_ok-units.field-0.units (job_of c.in_ok-job.job) same c.in_ok-units.ensures.program c.in_ok-units.ensures.units job

pub returns-clause-clean : goal.returns-clause-clean
returns-clause-clean c = spelled_clean (statements_of c.args.deck.now.lines) (program_of c.in_ok-units.field-0.program) c.in_ok-units.ensures.program
