use Rattle.std.proofs.Common.{◌≡◌, ◌+◌, ◌∷◌, ◌∙◌, [], drop, sym, ap, subst}
use Rattle.std.proofs.lemmas.List.{drop_more, drop_all}
use Rattle.sno_statement.specs.Abstraction.{statement_of}
use Rattle.sno_syntax.specs.{Refusals.{label_of, with_label}, Programs.{SpellFrom}}
use Rattle.sno_syntax.proofs.Spelled.{refusal_more, labels_more, spelled_more, last_more, spelled_all}
use Rattle.sno_syntax.proofs.reading.read_statements.Goals as goal

pub loop-index-preserved : goal.loop-index-preserved
loop-index-preserved c =
    let texts = c.args.texts.now in
    let i = c.loop-index.index in
    let text = c.index-texts-index.result in
    let labels = c.loop-index.body.labels in
    let next = c.read_next.new.body.labels in
    let here : drop i texts ≡ text ∷ drop (i + 1) texts = drop_more texts i text c.loop-index-test.true
    ∙ ap (λ t. t ∷ drop (i + 1) texts) (sym c.index-texts-index.is) in
    let read = c.in_ok-read_next.ensures.spelled in
    let s = statement_of read.0 in
    let noted : next ≡ with_label labels (label_of text) i = c.in_ok-read_next.ensures.labels in
    record {
      refusal = c.loop-index.invariant.refusal ∙ refusal_more texts labels next i text s here read.2 noted;
      labels = c.loop-index.invariant.labels ∙ labels_more texts labels next i text s here read.2 noted;
      spelled = λ ss more. subst (SpellFrom [] 0 texts) (last_more c.loop-index.body.statements.items c.read_next.new.body.statements.items read.0 ss read.1)
          (c.loop-index.invariant.spelled (s ∷ ss) (spelled_more texts labels next i text s here read.2 noted ss more));
    }

pub returns-clause-spelled : goal.returns-clause-spelled
returns-clause-spelled c =
    spelled_all c.args.texts.now c.loop-index.body.labels c.loop-index.index c.loop-index.body.statements.items
    (drop_all c.loop-index.index c.args.texts.now c.loop-index-test.false) c.loop-index.invariant.spelled
