use Rattle.std.proofs.Common.{◌+◌, drop, sym, ap, ◌∙◌, arith}
use Rattle.std.{specs.Option.{option_map}, specs.Map.Iter.{deref_pair}, proofs.lemmas.Option.{slice_get_within}}
use Rattle.ledger_sets.{specs.Parts.{those_of, with_first}, specs.Writing.{texts_in}, proofs.Walking.{met_again, gone_before, gone_last}}
use Rattle.ledger_sets.proofs.sets.put_next.Goals.{in_default-at-via-in-Some-at+else-eq, in_default-at-via-in_default-at}
use Rattle.ledger_sets.proofs.sets.put_next.Goals as goal

pub overflow_add-result : goal.overflow_add-result
overflow_add-result c =
    let within = slice_get_within c.args.after.now c.args.met (c.in-Some-at.new.now, c.in-Some-at.is'.now) (sym c.at-2.ensures ∙ ap (option_map deref_pair) c.in-Some-at.is) in
    omega (arith, within, c.len-count.ensures.sound.1)

pub returns-in_ok-put_changed-in-Some-at : goal.returns-in_ok-put_changed-in-Some-at
returns-in_ok-put_changed-in-Some-at c =
    let which = c.args.before.which.now in
    let sets = c.args.before.catalogue.now in
    met_again (those_of which (drop c.args.place sets)) (those_of which (drop (c.args.place + 1) sets)) c.args.after.now c.args.met
    (c.in-Some.old.now, c.in-Some.was.now) (texts_in c.args.out.now.items) (texts_in c.put_changed.new.out.items)
    (c.at.ensures ∙ ap (λ o. with_first (option_map deref_pair o) (those_of which (drop (c.args.place + 1) sets))) c.in-Some.is)
    (c.in-Some-at.new.now, c.in-Some-at.is'.now) (sym (ap (option_map deref_pair) c.in-Some-at.is) ∙ c.at-2.ensures) (sym c.eq.ensures ∙ c.if-eq.true)
    c.in_ok-put_changed-in-Some-at.ensures

pub returns-in_ok-put_gone-in_default-at : goal.returns-in_ok-put_gone-in_default-at
returns-in_ok-put_gone-in_default-at c =
    let which = c.args.before.which.now in
    let sets = c.args.before.catalogue.now in
    let begins = c.at.ensures ∙ ap (λ o. with_first (option_map deref_pair o) (those_of which (drop (c.args.place + 1) sets))) c.in-Some.is in
    elim c.in_default-at.branch [
      | in_default-at-via-in-Some-at+else-eq w ↦
          gone_before (those_of which (drop c.args.place sets)) (those_of which (drop (c.args.place + 1) sets)) c.args.after.now c.args.met
          (c.in-Some.old.now, c.in-Some.was.now) (texts_in c.args.out.now.items) (texts_in c.put_gone.new.out.items) begins
          (w.in-Some-at.new.now, w.in-Some-at.is'.now) (sym (ap (option_map deref_pair) w.in-Some-at.is) ∙ c.at-2.ensures) (sym w.eq.ensures ∙ w.if-eq.false)
          c.in_ok-put_gone-in_default-at.ensures
      | in_default-at-via-in_default-at w ↦
          gone_last (those_of which (drop c.args.place sets)) (those_of which (drop (c.args.place + 1) sets)) c.args.after.now c.args.met
          (c.in-Some.old.now, c.in-Some.was.now) (texts_in c.args.out.now.items) (texts_in c.put_gone.new.out.items) begins
          (sym (ap (option_map deref_pair) w.in_default-at.is) ∙ c.at-2.ensures) c.in_ok-put_gone-in_default-at.ensures
    ]
