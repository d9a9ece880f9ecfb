use Rattle.std.proofs.Common.{◌+◌, ◌-◌, ◌∙◌, length, refl, rules}
use Rattle.ledger_disk.proofs.Finding.{which_left, one_less_which}
use Rattle.ledger_disk.proofs.memory.looked.Goals as goal

pub returns-in-Bytes : goal.returns-in-Bytes
returns-in-Bytes c =
    let a = c.loop-index.invariant ∙ one_less_which c.args.entries.now c.loop-index.index (length c.args.entries.now - 1 - c.loop-index.index) c.index-entries-place.result c.loop-index.wanted c.loop-index-test.true refl c.index-entries-place.is
    ∙ c.comes_from.ensures.which (length c.args.entries.now - 1 - c.loop-index.index) (which_left c.args.entries.now (length c.args.entries.now - (c.loop-index.index + 1))) in
    search (rules, a)

pub returns-in-Nothing : goal.returns-in-Nothing
returns-in-Nothing c =
    let a = c.loop-index.invariant ∙ one_less_which c.args.entries.now c.loop-index.index (length c.args.entries.now - 1 - c.loop-index.index) c.index-entries-place.result c.loop-index.wanted c.loop-index-test.true refl c.index-entries-place.is
    ∙ c.comes_from.ensures.which (length c.args.entries.now - 1 - c.loop-index.index) (which_left c.args.entries.now (length c.args.entries.now - (c.loop-index.index + 1))) in
    search (rules, a)

pub loop-index-preserved : goal.loop-index-preserved
loop-index-preserved c =
    let a = c.loop-index.invariant ∙ one_less_which c.args.entries.now c.loop-index.index (length c.args.entries.now - 1 - c.loop-index.index) c.index-entries-place.result c.loop-index.wanted c.loop-index-test.true refl c.index-entries-place.is
    ∙ c.comes_from.ensures.which (length c.args.entries.now - 1 - c.loop-index.index) (which_left c.args.entries.now (length c.args.entries.now - (c.loop-index.index + 1))) in
    search (rules, a)
