-- One end more.
use Rattle.std.proofs.Common.{◌≡◌, ◌∙◌, ◌-◌, ◌+◌, ℕ, suc, List, ◌++◌, drop, ap, sym, append_assoc, arith}
use Rattle.std.specs.Prelude.{codes}
use Rattle.programs.{specs.inner.Runs.{ends_text}, proofs.Runs.{one_end}}
use Rattle.programs.proofs.reading.expression.put_ends.Goals as goal

pub loop-left-preserved : goal.loop-left-preserved
loop-left-preserved c =
    let left = c.loop-left.left in
    let run = c.args.run.now in
    let old = c.args.out.now.items in
    let so_far = c.loop-left.invariant in
    let e : suc (left - 1) ≡ left = omega (arith, c.loop-left-test.true) in record {
      text =
          c.in_ok-put.ensures
          ∙ (ap (λ (z : List ℕ). z ++ codes ")") so_far.text
          ∙ (append_assoc old (ends_text (drop left run)) (codes ")")
          ∙ ap (λ (z : List ℕ). old ++ z)
          (sym (one_end (left - 1) run (omega (arith, c.loop-left-test.true, so_far.within))
          ∙ ap (λ (n : ℕ). ends_text (drop n run) ++ codes ")") e))));
      within = omega (arith, so_far.within);
    }
