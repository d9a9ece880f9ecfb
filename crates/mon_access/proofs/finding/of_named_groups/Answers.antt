use Rattle.std.proofs.Common.{rules, ◌≡◌, ◌∙◌, ◌<◌, ℕ, List, ap, ap₂, sym, get_or, length, take, take_all, arith}
use Rattle.mon_access.specs.{declared.finding.Found.TheVariants.{Holding}, inner.Kinds.{found, joined, is_so_far}}
use Rattle.mon_access.proofs.Together.{all_groups, no_group, one_more, held_already}
use Rattle.mon_access.proofs.finding.of_named_groups.Goals as goal

pub loop-name-init : goal.loop-name-init
loop-name-init c = c.of_name-so_far.ensures ∙ no_group c.args.account.now c.args.acl.now c.args.request c.requires.valid.entries

pub returns-in-Holding : goal.returns-in-Holding
returns-in-Holding c =
    let inv : c.loop-name.so_far ≡ found (is_so_far c.args.account.now (take c.loop-name.name-index c.args.account.now.groups)) c.args.acl.now c.args.request = c.loop-name.invariant in
    let so : c.loop-name.so_far ≡ Holding = cc in
    so ∙ held_already c.args.account.now c.args.acl.now c.args.request c.requires.valid.entries c.loop-name.name-index (sym inv ∙ so)

pub loop-name-preserved : goal.loop-name-preserved
loop-name-preserved c =
    let inv : c.loop-name.so_far ≡ found (is_so_far c.args.account.now (take c.loop-name.name-index c.args.account.now.groups)) c.args.acl.now c.args.request = c.loop-name.invariant in
    let listed : c.as_slice-name-items.result.now ≡ c.args.account.now.groups = c.as_slice-name-items.ensures in
    let within : c.loop-name.name-index < length c.args.account.now.groups = omega (arith, ap length listed) in
    let is : c.name-item.result ≡ get_or c.args.account.now.groups c.loop-name.name-index c.name-item.result = search rules in
    c.joined-so_far.ensures
    ∙ ap₂ joined inv c.of_name.ensures
    ∙ one_more c.args.account.now c.args.acl.now c.args.request c.requires.valid.entries c.loop-name.name-index c.name-item.result within is

pub returns : goal.returns
returns c =
    let inv : c.loop-name.so_far ≡ found (is_so_far c.args.account.now (take c.loop-name.name-index c.args.account.now.groups)) c.args.acl.now c.args.request = c.loop-name.invariant in
    let listed : c.as_slice-name-items.result.now ≡ c.args.account.now.groups = c.as_slice-name-items.ensures in
    inv
    ∙ ap (λ (names : List (List ℕ)). found (is_so_far c.args.account.now names) c.args.acl.now c.args.request)
    (take_all c.loop-name.name-index c.args.account.now.groups (omega (arith, ap length listed)))
    ∙ all_groups c.args.account.now c.args.acl.now c.args.request c.requires.valid.entries
