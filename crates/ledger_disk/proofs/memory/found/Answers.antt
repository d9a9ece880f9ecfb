use Rattle.std.proofs.Common.{◌+◌, ◌-◌, ◌∙◌, length, rules}
use Rattle.ledger_disk.proofs.Finding.{left_by, one_less}
use Rattle.ledger_disk.proofs.memory.found.Goals as goal

pub returns-in-Bytes : goal.returns-in-Bytes
returns-in-Bytes c =
    let a = c.loop-index.invariant ∙ one_less c.args.entries.now c.loop-index.index c.index-entries-count.result c.loop-index.wanted c.loop-index-test.true c.index-entries-count.is
    ∙ c.comes_from.ensures.bytes (left_by c.args.entries.now (length c.args.entries.now - (c.loop-index.index + 1))) in
    search (rules, a)

pub returns-in-Nothing : goal.returns-in-Nothing
returns-in-Nothing c =
    let a = c.loop-index.invariant ∙ one_less c.args.entries.now c.loop-index.index c.index-entries-count.result c.loop-index.wanted c.loop-index-test.true c.index-entries-count.is
    ∙ c.comes_from.ensures.bytes (left_by c.args.entries.now (length c.args.entries.now - (c.loop-index.index + 1))) in
    search (rules, a)

pub loop-index-preserved : goal.loop-index-preserved
loop-index-preserved c =
    let a = c.loop-index.invariant ∙ one_less c.args.entries.now c.loop-index.index c.index-entries-count.result c.loop-index.wanted c.loop-index-test.true c.index-entries-count.is
    ∙ c.comes_from.ensures.bytes (left_by c.args.entries.now (length c.args.entries.now - (c.loop-index.index + 1))) in
    search (rules, a)
