-- One more is exchanged.
use Rattle.std.proofs.Common.{rules, arith, ◌≡◌, ◌<◌, ◌∙◌, sym, ap, ap₂, true, [], length, get_or, subst}
use Rattle.std.proofs.lemmas.List.{get_or_read}
use Rattle.sno_value.specs.Values.{null}
use Rattle.sno_declarations.specs.Prototypes.{names_of}
use Rattle.sno_variables.{specs.Variables.{is_named}, specs.inner.Exchanging.{after, before}, proofs.Exchanged.{one_step, still_as_many}}
use Rattle.sno_variables.proofs.exchanging.exchange_known.Goals as goal

pub loop-at-preserved : goal.loop-at-preserved
loop-at-preserved c =
    let names = names_of c.args.prototype.now in
    let ws = c.loop-at.values.items in
    let vs = c.loop-at.variables.entries in
    let i = c.loop-at.at in
    let kept = c.loop-at.invariant in
    let within : i < length ws = search rules in
    let inside : i < length names = subst (λ n. i < n) kept.1 within in
    let name : c.name_at.result.now ≡ get_or names i [] = search rules in
    let value : c.index_mut.result.now ≡ get_or ws i null = get_or_read ws i _ within c.index_mut.ensures.value null in
    let known : is_named c.name_at.result.now vs ≡ true = search rules in
    let known_so : is_named (get_or names i []) vs ≡ true = sym (ap (λ n. is_named n vs) name) ∙ known in
    let written = c.exchange_one.ensures.written ∙ ap₂ (λ n w. after n w vs) name value in
    let taken = c.exchange_one.ensures.taken ∙ ap₂ (λ n w. before n w vs) name value in
    let step = one_step names ws vs c.exchange_one.new.variables.entries i c.exchange_one.new.value taken written known_so inside within in
    let as_many = still_as_many ws i c.exchange_one.new.value in (
      omega (arith, within, as_many),
      as_many ∙ kept.1,
      as_many ∙ kept.2,
      c.exchange_one.ensures.distinct,
      step.0 ∙ kept.4,
      step.1 ∙ kept.5,
      step.2 ∙ kept.6,
    )
