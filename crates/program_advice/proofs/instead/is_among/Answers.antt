-- The chain cuts the row at its blanks, and looks at the pieces.
use Rattle.std.proofs.Common.{rules, tests}
use Rattle.std.{specs.Prelude.{bytes_eq}, proofs.lemmas.Iterator.Search.{any_from_yields_List}, proofs.lemmas.Iterator.Splits.{YieldsList-from_slice_split}}
use Rattle.mon_text.specs.Characters.{is_blank}
use Rattle.program_advice.proofs.instead.is_among.Goals as goal

pub returns : goal.returns
returns c =
    any_from_yields_List (λ word. bytes_eq word c.args.name.now) _ _ c.any.result c.any.ensures.ran
    (YieldsList-from_slice_split _ is_blank c.args.row.now (cc) (cc) (cc) (λ x b q k. search (rules, tests)))
    (λ x b q k. search (rules, tests))
