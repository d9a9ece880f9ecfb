-- So many of a text are one, as long as the number says.
use Rattle.std.proofs.Common.{◌∙◌, ◌++◌, ◌<◌, List, ℕ, ap, length, rules, subst, sym}
use Rattle.std.{specs.List.{repeat}, proofs.lemmas.Result.{on_err_weaker}}
use Rattle.mon_text.specs.Lines.{IsLine}
use Rattle.sno_text.proofs.Repeating.{null_repeated, line_of_repeated, length-repeated}
use Rattle.sno_text.proofs.text.Text.repeated.Goals as goal

pub of_bytes-requires : goal.of_bytes-requires
of_bytes-requires c =
    let text = c.args.text.now in
    let items = c.put_repeated.ensures ∙ ap (λ (xs : List ℕ). xs ++ repeat c.args.times text) c.in_ok-bytes.ensures.items in
    subst IsLine (sym items) (line_of_repeated c.args.times text c.requires)

pub returns-then-is_empty-clause-value : goal.returns-then-is_empty-clause-value
returns-then-is_empty-clause-value c = search (rules, null_repeated)

pub returns-clause-memory : goal.returns-clause-memory
returns-clause-memory c =
    let text = c.args.text.now in
    let items = c.put_repeated.ensures ∙ ap (λ (xs : List ℕ). xs ++ repeat c.args.times text) c.in_ok-bytes.ensures.items in
    on_err_weaker c.of_bytes.result (λ some. subst (λ (n : ℕ). 0 < n) (ap length items ∙ length-repeated c.args.times text) some) c.of_bytes.ensures.memory
