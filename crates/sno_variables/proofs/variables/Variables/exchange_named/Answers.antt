-- All are named, so each name has what it had before the first exchange.
use Rattle.std.proofs.Common.{rules, ◌≡◌, ◌∙◌, ap, length}
use Rattle.sno_declarations.specs.Prototypes.{names_of}
use Rattle.sno_variables.{specs.inner.Exchanging.{values_now}, proofs.Exchanged.{taken_now}}
use Rattle.sno_variables.proofs.variables.Variables.exchange_named.Goals as goal

pub returns-then-known-len-clause-taken : goal.returns-then-known-len-clause-taken
returns-then-known-len-clause-taken c =
    let all : c.exchange_known-known.result ≡ length c.args.values.now.items = search rules in
    c.exchange_known-known.ensures.taken all
    ∙ taken_now (names_of c.args.prototype.now) c.args.values.now.items c.self.inside.variables.entries c.requires.as_many c.requires.different
    ∙ ap (values_now (names_of c.args.prototype.now)) c.self.view_is
