use Rattle.std.proofs.Common.{◌+◌, ◌-◌, ◌∙◌, ℕ, List, ap, sym, length, drop, take, get_or}
use Rattle.std.proofs.lemmas.List.{take_rest}
use Rattle.sno_lexer.{specs.inner.Lexing.{counted, stage}, specs.Lexed.{lexed}, proofs.Runs.{more}, proofs.lexing.count_tokens.Goals.{in-Pass, in-Take}}
use Rattle.sno_lexer.proofs.Loop.{after_is, counted_on, taken_fits, tokens_left, within_after, within_passed, count_pass, count_take}
use Rattle.sno_lexer.proofs.lexing.count_tokens.Goals as goal

pub after-context-requires-clause-tokens : goal.after-context-requires-clause-tokens
after-context-requires-clause-tokens c =
    let text = c.args.text.now in
    let at = c.loop-offset.offset in
    tokens_left c.loop-offset.context c.in-Take.class
    (taken_fits c.loop-offset.context (take (length text - at) (drop at text)) c.in-Take.class (sym c.in-Take.ensures))

pub loop-offset-preserved : goal.loop-offset-preserved
loop-offset-preserved c =
    let text = c.args.text.now in
    let at = c.loop-offset.offset in
    let s = c.loop-offset.context in
    let all = counted (lexed text c.args.from) in
    let rest = take (length text - at) (drop at text) in
    let later = drop (at + 1) text in
    let first = get_or text at 0 in
    let d = take_rest text at ∙ more text at c.loop-offset-test.true in
    let within = c.loop-offset.invariant.within in
    let so_far = ap (λ (x : List ℕ). counted_on s.tokens (stage s at x)) (take_rest text at) ∙ c.loop-offset.invariant.all in
    elim c.match-step.branch [
      | in-Pass w ↦
          rw w.context-is (record {
            all = count_pass s w.in-Pass.next at first rest later all d (sym w.in-Pass.ensures) so_far;
            within = within_passed s w.in-Pass.next rest within (sym w.in-Pass.ensures);
          })
      | in-Take w ↦
          let class = w.in-Take.class in
          let next = w.after-context.ensures ∙ after_is s class rest w.further-more.result w.further-more.ensures in
          rw (w.context-is, next) (record {
            all = count_take s at first s.tokens rest later class all d (sym w.in-Take.ensures) so_far;
            within = within_after s class rest within (taken_fits s rest class (sym w.in-Take.ensures));
          })
    ]
