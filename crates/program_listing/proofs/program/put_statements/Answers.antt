use Rattle.std.proofs.Common.{◌≡◌, ◌+◌, ◌∷◌, ◌++◌, ◌∙◌, drop, sym, ap, append-nil}
use Rattle.std.proofs.lemmas.List.{drop_more, drop_all}
use Rattle.sno_syntax.specs.Refusals.{label_of, with_label, labels_from}
use Rattle.program_listing.{specs.Refused.{statements_refused}, proofs.Gathering.{found_more, labels_more}}
use Rattle.program_listing.proofs.program.put_statements.Goals as goal

pub loop-index-preserved : goal.loop-index-preserved
loop-index-preserved c =
    let texts = c.args.texts.now in
    let i = c.loop-index.index in
    let text = c.index-texts-index.result in
    let labels = c.loop-index.labels in
    let next = c.put_statement.new.labels in
    let here : drop i texts ≡ text ∷ drop (i + 1) texts = drop_more texts i text c.loop-index-test.true
    ∙ ap (λ t. t ∷ drop (i + 1) texts) (sym c.index-texts-index.is) in
    let noted : next ≡ with_label labels (label_of text) i = c.in_ok-put_statement.ensures.labels in
    record {
      found = found_more texts labels next i text here noted c.loop-index.found.items c.put_statement.new.found.items _ c.loop-index.invariant.found c.in_ok-put_statement.ensures.found;
      labels = labels_more texts labels next i text here noted _ c.loop-index.invariant.labels;
    }

pub returns-clause-found : goal.returns-clause-found
returns-clause-found c =
    let none = drop_all c.loop-index.index c.args.texts.now c.loop-index-test.false in
    let found = c.loop-index.found.items in
    sym (append-nil found) ∙ sym (ap (λ ts. found ++ statements_refused c.loop-index.labels c.loop-index.index ts) none) ∙ c.loop-index.invariant.found

pub returns-clause-labels : goal.returns-clause-labels
returns-clause-labels c =
    let none = drop_all c.loop-index.index c.args.texts.now c.loop-index-test.false in
    sym (ap (labels_from c.loop-index.labels c.loop-index.index) none) ∙ c.loop-index.invariant.labels
