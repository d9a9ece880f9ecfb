-- The next word names the file.
use Rattle.std.proofs.Common.{◌<◌, length, map, arith, ap, sym, ◌∙◌}
use Rattle.std.proofs.lemmas.Result.{IfErr-weaker, IfOk-weaker}
use Rattle.snomon_library.{specs.Asking.{is_file}, proofs.Before.{from_here, left_before, left_behind, next_named, next_refused, or_none}}
use Rattle.snomon_library.proofs.asking.take_next.Goals as goal

pub returns-clause-taken : goal.returns-clause-taken
returns-clause-taken g c =
    let text = g.S.AsStr.text in
    let words = c.args.words.now.items in
    let at = c.args.at in
    let here : at < length words = omega (arith, c.requires, c.if-at-len.false, c.len.ensures) in
    let name_is = c.in_ok-name.ensures.ok ∙ c.as_str.ensures in
    let from = from_here text words at here c.index.result.now c.index.ensures in
    IfOk-weaker c.checked.result _ _ (λ name h. (
      next_named (map text words) at _ _ from _ _ (left_behind text words at here c.remove.new.self.items c.remove.ensures.by_index.2) (ap is_file (sym name_is) ∙ h.0) (h.1 ∙ name_is),
      left_before text words at here c.remove.new.self.items c.remove.ensures.by_index.2,
    )) c.checked.ensures.file

pub returns-clause-refused : goal.returns-clause-refused
returns-clause-refused g c =
    let text = g.S.AsStr.text in
    let words = c.args.words.now.items in
    let at = c.args.at in
    let here : at < length words = omega (arith, c.requires, c.if-at-len.false, c.len.ensures) in
    let name_is = c.in_ok-name.ensures.ok ∙ c.as_str.ensures in
    let from = from_here text words at here c.index.result.now c.index.ensures in
    IfErr-weaker c.checked.result _ _ (λ error h. or_none (λ none. next_refused (map text words) at _ _ from (ap is_file (sym name_is) ∙ none)) h) c.checked.ensures.refused
