-- Words are refused for what is left of them.
use Rattle.std.proofs.Common.{map, subst, sym}
use Rattle.clap.proofs.TakesLemmas.{passed_up}
use Rattle.snomon_library.{specs.CommandLine.{Gives}, proofs.Before.{none_given, or_none}}
use Rattle.snomon_library.proofs.run.read_words.Goals as goal

pub returns-in_err-options-clause-refused : goal.returns-in_err-options-clause-refused
returns-in_err-options-clause-refused g c =
    let text = g.S.AsStr.text in
    passed_up c.from_residual-in_err-options.result c.in_err-options.field-0.0 _ c.from_residual-in_err-options.ensures.1
    (or_none (λ none. none_given (map text c.args.words.items) (map text c.take_audit.new.words.items) _ c.in_ok-audit.ensures.taken
    (λ options gives. none options (subst (λ l. Gives (map text l) options) (sym c.as_slice.ensures.value) gives)))
    c.in_err-options.ensures.refused)
