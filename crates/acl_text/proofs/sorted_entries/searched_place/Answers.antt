use Rattle.std.proofs.Common.{rules}
use Rattle.std.proofs.lemmas.Fn.{always_returns_same}
use Rattle.mon_acl.specs.Entries.{compared}
use Rattle.acl_text.proofs.Order.{rises, there, not_there, goes_there}
use Rattle.acl_text.proofs.sorted_entries.searched_place.Goals as goal

pub returns-in-Ok-clause-taken : goal.returns-in-Ok-clause-taken
returns-in-Ok-clause-taken c =
    let at = c.in-Ok.ensures.position (λ y. compared y c.args.entry.now) (always_returns_same _ _ _ (λ a r q k. search rules)) in
    there c.args.entries.now c.args.entry.now c.in-Ok.field-0 c.in-Ok.ensures.bound at

pub returns-in-Err-clause-taken : goal.returns-in-Err-clause-taken
returns-in-Err-clause-taken c =
    let at = c.in-Err.ensures.position (λ y. compared y c.args.entry.now) (always_returns_same _ _ _ (λ a r q k. search rules)) in
    not_there c.args.entries.now c.args.entry.now c.in-Err.place (at (rises c.args.entries.now c.args.entry.now c.requires))

pub returns-in-Err-clause-place : goal.returns-in-Err-clause-place
returns-in-Err-clause-place c =
    let at = c.in-Err.ensures.position (λ y. compared y c.args.entry.now) (always_returns_same _ _ _ (λ a r q k. search rules)) in
    goes_there c.args.entries.now c.args.entry.now c.in-Err.place (at (rises c.args.entries.now c.args.entry.now c.requires))
