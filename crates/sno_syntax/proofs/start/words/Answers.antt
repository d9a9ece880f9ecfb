-- The chain cuts the line at its blanks and keeps the pieces that are not empty.
use Rattle.std.proofs.Common.{rules, tests}
use Rattle.std.proofs.lemmas.Iterator.{Consumers.{map_from_collect, YieldsList-from_filter}, Splits.{YieldsList-from_slice_split}}
use Rattle.mon_text.specs.{Characters.{is_blank}, Lines.{is_nonempty}}
use Rattle.sno_syntax.proofs.start.words.Goals as goal

pub returns : goal.returns
returns c =
    map_from_collect _ c.collect.ensures.ran
    (YieldsList-from_filter _ is_nonempty
    (YieldsList-from_slice_split _ is_blank c.args.text.now (cc) (cc) (cc) (λ x b q k. search (rules, tests)))
    c.filter.ensures.closure
    (λ x b q k. search (rules, tests)))
