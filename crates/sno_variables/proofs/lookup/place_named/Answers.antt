-- The entry where a name like it was found has the name.
use Rattle.std.proofs.Common.{rules, ◌≡◌, true, nat_eq}
use Rattle.std.specs.Cmp.Lexicographic.{pointwise}
use Rattle.mon_text.proofs.Hints.{place_hinted}
use Rattle.sno_variables.proofs.lookup.place_named.Goals as goal

pub returns-then-eq : goal.returns-then-eq
returns-then-eq c =
    let same_name : pointwise nat_eq c.args.name.now c.in-Some.key.now ≡ true = search rules in
    place_hinted c.args.name.now c.args.variables.now.entries c.place-hint.result (c.in-Some.key.now, c.in-Some.field-0-1.now) c.requires c.in-Some.ensures.entry same_name
