use Rattle.std.proofs.Common.{◌≡◌, ◌<◌, ◌^◌, ℕ, true, List, [], ◌∷◌, length, ap, ◌∙◌, rules}
use Rattle.ledger_text.specs.{Text.{commit_text}, Records.{seen}}
use Rattle.ledger_run.proofs.Writing.{written, sent_written}
use Rattle.ledger_run.proofs.event.event_text.Goals as goal

pub returns-clause-says : goal.returns-clause-says
returns-clause-says c =
    let small : c.is_small.result ≡ true = search rules in
    let early : c.args.entry.time < 2 ^ 63 = search rules in
    let less : length c.in_ok-text.text.items < 2 ^ 63 = search rules in
    written c.reads_back.ensures c.reads_records.ensures c.args.before.now c.args.entry.time (seen c.args.entry.record) c.args.change.now c.in_ok-head.head.items c.in_ok-text.text.items
    c.in_ok-head.ensures
    (c.in_ok-text.ensures ∙ ap (λ (h : List ℕ). commit_text (c.args.before.now ∷ h ∷ c.args.change.now ∷ [])) c.as_slice.ensures.value) less early (c.is_small.ensures small)

pub returns-clause-sent : goal.returns-clause-sent
returns-clause-sent c =
    let small : c.is_small.result ≡ true = search rules in
    let early : c.args.entry.time < 2 ^ 63 = search rules in
    let less : length c.in_ok-text.text.items < 2 ^ 63 = search rules in
    sent_written c.reads_back.ensures c.reads_records.ensures c.args.before.now c.args.entry.time (seen c.args.entry.record) c.args.change.now c.in_ok-head.head.items c.in_ok-text.text.items
    c.in_ok-head.ensures
    (c.in_ok-text.ensures ∙ ap (λ (h : List ℕ). commit_text (c.args.before.now ∷ h ∷ c.args.change.now ∷ [])) c.as_slice.ensures.value) less early (c.is_small.ensures small)
