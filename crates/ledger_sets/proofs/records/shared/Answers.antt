use Rattle.std.proofs.Common.{◌≡◌, ℕ, length, ap, sym, ◌∙◌, arith}
use Rattle.std.specs.Prelude.{min}
use Rattle.ledger_sets.proofs.Walking.{all_shared, either_end}
use Rattle.ledger_sets.proofs.records.shared.Goals as goal

pub returns : goal.returns
returns c =
    let end : c.loop-index.index ≡ c.min-most.result = omega (arith, c.loop-index-test.false, c.loop-index.auto.index-end) in
    sym end
    ∙ all_shared c.args.was.now c.args.is.now c.loop-index.index
    (either_end (length c.args.was.now) (length c.args.is.now) c.min-most.result c.loop-index.index
    (c.min-most.ensures ∙ ap (λ (n : ℕ). min n c.len-2.result) c.len.ensures.value ∙ ap (λ (n : ℕ). min (length c.args.was.now) n) c.len-2.ensures.value) end)
    c.loop-index.invariant
