use Rattle.std.proofs.Common.{rules}
use Rattle.deck_lint.proofs.Firsts.{first_gathered}
use Rattle.deck_lint.proofs.refusals.all_refusals.Goals as goal

pub returns-clause-first : goal.returns-clause-first
returns-clause-first c =
    first_gathered c.args.accounts.now c.args.deck.now c.new-found.result.items _ _ _ _ _ c.as_slice.ensures c.as_slice-2.ensures (search rules)
    c.in_ok-put_account.ensures c.in_ok-put_ties.ensures c.in_ok-put_program.ensures
