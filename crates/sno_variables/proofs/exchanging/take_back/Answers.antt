-- One is exchanged again.
use Rattle.std.proofs.Common.{rules, arith, ◌≡◌, ◌<◌, ◌+◌, ◌-◌, ◌∙◌, ap, ap₂, [], length, get_or, subst}
use Rattle.std.proofs.lemmas.List.{get_or_read}
use Rattle.sno_value.specs.Values.{null}
use Rattle.sno_declarations.specs.Prototypes.{names_of}
use Rattle.sno_variables.{specs.inner.Exchanging.{after, before, undone}, proofs.Exchanged.{one_step_back, still_as_many}}
use Rattle.sno_variables.proofs.exchanging.take_back.Goals as goal

pub loop-left-preserved : goal.loop-left-preserved
loop-left-preserved c =
    let names = names_of c.args.prototype.now in
    let ws = c.loop-left.values.items in
    let vs = c.loop-left.variables.entries in
    let i = c.loop-left.left - 1 in
    let kept = c.loop-left.invariant in
    let some : 0 < c.loop-left.left = search rules in
    let within : i < length ws = omega (arith, some, kept.0) in
    let inside : i < length names = subst (λ n. i < n) kept.1 within in
    let name : c.name_at.result.now ≡ get_or names i [] = search rules in
    let value : c.index_mut.result.now ≡ get_or ws i null = get_or_read ws i _ within c.index_mut.ensures.value null in
    let written = c.exchange_one-known.ensures.written ∙ ap₂ (λ n w. after n w vs) name value in
    let taken = c.exchange_one-known.ensures.taken ∙ ap₂ (λ n w. before n w vs) name value in
    let step = one_step_back names ws vs c.exchange_one-known.new.variables.entries i c.exchange_one-known.new.value taken written inside within in
    let as_many = still_as_many ws i c.exchange_one-known.new.value in
    let one : i + 1 ≡ c.loop-left.left = omega (arith, some) in (
      omega (arith, within, as_many),
      as_many ∙ kept.1,
      c.exchange_one-known.ensures.distinct,
      step ∙ ap (λ n. undone n names ws vs) one ∙ kept.3,
    )
