use Rattle.std.proofs.Common.{◌≡◌, ◌+◌, ◌∷◌, ◌++◌, [], drop, IfOk, false, true, sym, ap, ◌∙◌, subst, arith}
use Rattle.std.proofs.lemmas.List.{drop_more, drop_all}
use Rattle.sno_cards.specs.{Cards.{kind_of, is_start, is_continuation}, Statements.{placed_on, without_mark}, inner.Cuts.{Cut, cut_of, fed}}
use Rattle.sno_cards.proofs.{Pieces.{fed-append}, Continuing.{on_cards, ends_at, goes_on, passes_over, whole_line}}
use Rattle.sno_cards.proofs.lines.cut_line.Goals.{then-is_continuation+in_ok-feed_continuation, else-is_continuation}
use Rattle.sno_cards.proofs.lines.cut_line.Goals as goal

pub loop-index-init : goal.loop-index-init
loop-index-init c =
    let first = placed_on c.args.card 1 c.args.text.now in
    let later = on_cards (c.args.card + 1) c.args.later.now in
    let start : c.args.card + 1 ≡ c.args.card + 1 + 0 = omega arith in
    fed-append _ first later
    ∙ ap (λ n. fed n later) (sym (c.in_ok-feed.ensures ∙ ap (λ n. fed n first) c.new-cutting.ensures))
    ∙ ap (λ n. fed (cut_of c.feed.new.self) (on_cards n c.args.later.now)) start

pub returns-then-is_start : goal.returns-then-is_start
returns-then-is_start c =
    let lines = c.args.later.now in
    let i = c.loop-index.index in
    let line = c.index-later-index.result in
    let here : drop i lines ≡ line ∷ drop (i + 1) lines = drop_more lines i line c.loop-index-test.true ∙ ap (λ l. l ∷ drop (i + 1) lines) (sym c.index-later-index.is) in
    let kind : kind_of line ≡ c.kind_of-kind.result = sym (c.kind_of-kind.ensures ∙ ap kind_of c.as_bytes-more.ensures.value) in
    let starts : is_start c.kind_of-kind.result ≡ true = sym c.is_start.ensures ∙ c.if-is_start.true in
    let none = ends_at (c.args.card + 1) i lines line c.kind_of-kind.result here kind starts in
    subst (λ all. IfOk c.end.result (λ s. s.items ≡ all))
    (whole_line c.args.statements.items (placed_on c.args.card 1 c.args.text.now ++ on_cards (c.args.card + 1) lines) _ (cut_of c.loop-index.cutting) c.loop-index.invariant none)
    c.end.ensures

pub loop-index-preserved : goal.loop-index-preserved
loop-index-preserved c =
    let lines = c.args.later.now in
    let i = c.loop-index.index in
    let line = c.index-later-index.result in
    let here : drop i lines ≡ line ∷ drop (i + 1) lines = drop_more lines i line c.loop-index-test.true ∙ ap (λ l. l ∷ drop (i + 1) lines) (sym c.index-later-index.is) in
    let kind : kind_of line ≡ c.kind_of-kind.result = sym (c.kind_of-kind.ensures ∙ ap kind_of c.as_bytes-more.ensures.value) in
    let so_far : Cut = cut_of c.loop-index.cutting in
    let next : Cut = cut_of c.if-is_continuation.cutting in
    c.loop-index.invariant ∙ (elim c.if-is_continuation.branch [
      | then-is_continuation+in_ok-feed_continuation w ↦
          let continues : is_continuation c.kind_of-kind.result ≡ true = sym c.is_continuation.ensures ∙ w.if-is_continuation.true in
          goes_on (c.args.card + 1) i lines line c.kind_of-kind.result here kind so_far next continues
          (ap cut_of w.cutting-is ∙ w.in_ok-feed_continuation.ensures ∙ ap (λ text. fed so_far (placed_on (c.args.card + 1 + i) 1 (without_mark text))) c.as_bytes-more.ensures.value)
      | else-is_continuation w ↦
          let no_start : is_start c.kind_of-kind.result ≡ false = sym c.is_start.ensures ∙ c.if-is_start.false in
          let other : is_continuation c.kind_of-kind.result ≡ false = sym c.is_continuation.ensures ∙ w.if-is_continuation.false in
          passes_over (c.args.card + 1) i lines line c.kind_of-kind.result here kind so_far next no_start other (ap cut_of w.cutting-is)
    ])

pub returns : goal.returns
returns c =
    let lines = c.args.later.now in
    let none : on_cards (c.args.card + 1 + c.loop-index.index) (drop c.loop-index.index lines) ≡ [] =
    ap (on_cards (c.args.card + 1 + c.loop-index.index)) (drop_all c.loop-index.index lines c.loop-index-test.false) in
    subst (λ all. IfOk c.end-2.result (λ s. s.items ≡ all))
    (whole_line c.args.statements.items (placed_on c.args.card 1 c.args.text.now ++ on_cards (c.args.card + 1) lines) _ (cut_of c.loop-index.cutting) c.loop-index.invariant none)
    c.end-2.ensures
