use Rattle.std.proofs.Common.{◌∷◌, [], None, ◌∙◌, ap, arith, is_some}
use Rattle.scheduler.proofs.{Common.{slots_in, job_end}, Seats.{seat_length}}
use Rattle.scheduler.proofs.slots.Slots.turns_of_lone.Goals as goal

pub keep_end-requires-clause-job : goal.keep_end-requires-clause-job
keep_end-requires-clause-job g c = ap is_some c.run_lone-ending.ensures.ended.there

pub keep_end-requires-clause-room : goal.keep_end-requires-clause-room
keep_end-requires-clause-room g c = let k = c.run_lone-ending.ensures.ended.jobs in omega (arith, k, c.requires.room)

pub returns-clause-going : goal.returns-clause-going
returns-clause-going g c =
    let end = c.run_lone-ending.ensures.ended in
    record { more = job_end end.slot c.run_lone-ending.result ∷ []; grown = c.keep_end.ensures.items end.slot end.there; is = rw (c.keep_end.ensures.sets, c.keep_end.ensures.slots) (end.is _ (c.keep_end.ensures.audited end.slot end.there)) }

pub returns-clause-less : goal.returns-clause-less
returns-clause-less g c = let k = c.run_lone-ending.ensures.ended.less in rw c.keep_end.ensures.slots (omega (arith, k))

pub returns-clause-room : goal.returns-clause-room
returns-clause-room g c =
    let k = c.run_lone-ending.ensures.ended.jobs in
    rw c.keep_end.ensures.slots (omega (arith, k, c.keep_end.ensures.len, c.keep_end.ensures.room, c.requires.room))

pub returns-clause-size : goal.returns-clause-size
returns-clause-size g c = rw c.keep_end.ensures.slots (seat_length c.args.slot None (slots_in c.run_lone-ending.new.self) ∙ c.run_lone-ending.ensures.size)
