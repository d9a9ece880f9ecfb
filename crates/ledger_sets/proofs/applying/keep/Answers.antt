use Rattle.std.proofs.Common.{rules}
use Rattle.std.specs.Str.Lines.{lines}
use Rattle.ledger_sets.proofs.Made.{keeps}
use Rattle.ledger_sets.proofs.applying.keep.Goals as goal

pub returns-in_ok-keep_in-in-Some : goal.returns-in_ok-keep_in-in-Some
returns-in_ok-keep_in-in-Some c =
    let kept = keeps c.args.name.now c.in-Ok.name c.args.first (lines c.args.records.now) c.args.catalogue.now c.in-Some.set.now c.keep_in.new.set c.in-Ok.ensures.value
    c.in-Some.ensures.found c.in_ok-keep_in-in-Some.ensures.there c.in_ok-keep_in-in-Some.ensures.kept in
    search (rules, kept)
