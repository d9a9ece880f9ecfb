use Rattle.std.proofs.Common.{rules, ◌≡◌, ◌+◌, true, List, Option, Some, sym, ◌∙◌, subst, position, is_some, is_none}
use Rattle.scheduler.proofs.{Common.{take_rest, list_all, Slot}, Alone.{lone_at}}
use Rattle.scheduler.proofs.single_job.lone_in.Goals as goal

pub returns-then-are_empty-clause-lone : goal.returns-then-are_empty-clause-lone
returns-then-are_empty-clause-lone c =
    let slots = c.args.slots.now in
    let i = c.in_ok-index.index in
    let first : position (λ seat. is_some seat) slots ≡ Some i = search rules in
    let rest = sym c.are_empty.ensures ∙ c.if-are_empty.true in
    lone_at slots i first (subst (λ (l : List (Option Slot)). list_all (λ seat. is_none seat) l ≡ true) (take_rest slots (i + 1)) rest)
