use Rattle.std.proofs.Common.{◌≡◌, ◌+◌, ◌∷◌, List, ℕ, subst, ◌∙◌}
use Rattle.std.{specs.Prelude.{IfOk, IfErr}, proofs.lemmas.Result.{IfErr-at_err}}
use Rattle.deck_lines.specs.inner.Stops.{IfRefused}
use Rattle.deck_syntax.specs.Sections.{refused_on_line}
use Rattle.deck_syntax.specs.{declared.stream_reader.StreamReader.{StreamReader}, Events.{cards_ahead, event_then}}
use Rattle.deck_syntax.proofs.Following.{brings_so, refused_so}
use Rattle.deck_driver.proofs.serving.next_event.Goals as goal

pub returns-in_default-2-clause-brings : goal.returns-in_default-2-clause-brings
returns-in_default-2-clause-brings c =
    subst (λ (r : StreamReader). IfOk c.line.result (λ e. (n : ℕ) (ls : List (List ℕ)) → cards_ahead r n (c.args.text.now ∷ ls) ≡ event_then e (cards_ahead c.line.new.self (n + 1) ls))) c.tries.invariant.reader
    (brings_so c.tries.reader c.line.new.self c.args.text.now c.line.result c.line.ensures.answers c.line.ensures.event c.line.ensures.after)

pub returns-in_default-2-clause-refused : goal.returns-in_default-2-clause-refused
returns-in_default-2-clause-refused c =
    subst (λ (r : StreamReader). IfErr c.line.result (IfRefused (λ code. (n : ℕ) (ls : List (List ℕ)) → cards_ahead r n (c.args.text.now ∷ ls) ≡ refused_on_line n code))) c.tries.invariant.reader
    (refused_so c.tries.reader c.args.text.now c.line.result c.line.ensures.answers)

pub tries-preserved : goal.tries-preserved
tries-preserved c =
    let first = c.line.new.self in
    let same : first ≡ c.tries.reader = IfErr-at_err (λ stop. first ≡ c.tries.reader) c.in-Err-Memory.is c.line.ensures.unchanged in
    record { reader = same ∙ c.tries.invariant.reader; monitor = c.give_way.ensures ∙ c.tries.invariant.monitor }
