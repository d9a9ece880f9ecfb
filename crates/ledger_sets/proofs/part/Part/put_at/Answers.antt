use Rattle.std.proofs.Common.{ℕ, ◌+◌, List, drop, Result, Ok, Err, OnOk, sym, ap, ◌∙◌, subst}
use Rattle.std.{specs.Option.{option_map}, specs.Map.Iter.{deref_pair}}
use Rattle.mon_catalogue.specs.declared.data_set.DataSet.{DataSet}
use Rattle.ledger_sets.specs.{Applying.{put_set}, Parts.{those_of, with_first, IsCopied}}
use Rattle.ledger_sets.proofs.Copying.{taken, stays}
use Rattle.ledger_sets.proofs.part.Part.put_at.Goals as goal

so_it_is : {A E P Q : Type 0} (r : Result A E) → (P → Q) → OnOk r P → OnOk r Q
so_it_is (Ok x) f h = f h
so_it_is (Err e) f h = h

pub returns-in_ok-copy-in-Some : goal.returns-in_ok-copy-in-Some
returns-in_ok-copy-in-Some c =
    let which = c.args.self.which.now in
    let sets = c.args.self.catalogue.now in
    let named : List ℕ × DataSet = (c.in-Some.name.now, c.in-Some.set.now) in
    so_it_is c.put_set.result
    (λ is so_far. subst (IsCopied which sets (c.args.place + 1))
    (sym (is ∙ ap (λ (n : List ℕ). put_set n c.in_ok-copy-in-Some.field-0 c.args.some.now) c.copy.ensures
    ∙ ap (λ (s : DataSet). put_set c.in-Some.name.now s c.args.some.now) c.in_ok-copy-in-Some.ensures))
    (taken which sets c.args.place c.args.some.now named c.len-count.ensures.sound.0
    (c.at.ensures ∙ ap (λ o. with_first (option_map deref_pair o) (those_of which (drop (c.args.place + 1) sets))) c.in-Some.is) so_far))
    c.put_set.ensures

pub returns-in-None : goal.returns-in-None
returns-in-None c =
    let which = c.args.self.which.now in
    let sets = c.args.self.catalogue.now in
    stays which sets c.args.place c.args.some.now (c.at.ensures ∙ ap (λ o. with_first (option_map deref_pair o) (those_of which (drop (c.args.place + 1) sets))) c.in-None.is)
