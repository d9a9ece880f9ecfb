use Rattle.std.proofs.Common.{◌≡◌, ◌∙◌, sym, false, nat_eq, arith}
use Rattle.std.proofs.lemmas.Bool.Decides.{nat_tests}
use Rattle.mon_acl.proofs.Keyed.{told_long, told_not}
use Rattle.mon_acl.proofs.keys.is_for.Goals as goal

pub returns-then-found-key : goal.returns-then-found-key
returns-then-found-key c =
    c.is_named.ensures
    ∙ sym (told_long c.args.entry.now c.args.tag c.args.name.now (sym c.requires.found ∙ c.if-found-key.true ∙ c.requires.key))

pub returns-else-found-key : goal.returns-else-found-key
returns-else-found-key c =
    let differ : nat_eq c.args.found c.args.key ≡ false = grind (arith, nat_tests, c.if-found-key.false) in
    differ
    ∙ sym (told_not c.args.entry.now c.args.tag c.args.name.now (λ same. c.if-found-key.false (c.requires.found ∙ same ∙ sym c.requires.key)))
