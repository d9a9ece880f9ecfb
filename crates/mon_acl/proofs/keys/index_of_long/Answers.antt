use Rattle.std.proofs.Common.{◌≡◌, ◌∙◌, ◌<◌, ◌-◌, ap, sym, arith, length, map, false}
use Rattle.std.proofs.lemmas.List.{get_or_default}
use Rattle.mon_acl.specs.{Entries.{is_for}, inner.Keys.{bucket_of}}
use Rattle.mon_acl.proofs.Keyed.{IsOther, many, few_keys, begun, gone_on, other_key, other_entry, found_none}
use Rattle.mon_acl.proofs.keys.index_of_long.Goals as goal

pub loop-place-init : goal.loop-place-init
loop-place-init c =
    begun (map bucket_of c.args.keys.now) (length c.args.keys.now) (bucket_of c.args.key) c.args.chains.now.first c.args.chains.now.next c.requires.chains
    (IsOther c.args.entries.now c.args.tag c.args.name.now)
    (λ k l n. other_entry c.args.keys.now c.args.entries.now c.args.tag c.args.name.now c.args.key k c.requires.keys c.requires.key l (other_key c.args.keys.now c.args.key k l n))
    c.bucket_of.result c.bucket_of.ensures.value c.bucket_of.ensures.few

pub bounds-chains-index : goal.bounds-chains-index
bounds-chains-index c =
    let few = few_keys c.args.keys.now c.args.entries.now c.requires.keys c.requires.list.valid in
    let within = c.loop-place.invariant.within in
    omega (arith, c.loop-place-test.true)

pub loop-place-preserved : goal.loop-place-preserved
loop-place-preserved c =
    let within = c.loop-place.invariant.within in
    let lies : c.loop-place.place - 1 < length c.args.entries.now = omega (arith, c.loop-place-test.true, many c.args.keys.now c.args.entries.now c.requires.keys) in
    let here : is_for c.args.tag c.args.name.now c.index-entries-index.result ≡ false = sym c.is_for.ensures ∙ c.if-is_for.false in
    gone_on (map bucket_of c.args.keys.now) (length c.args.keys.now) (bucket_of c.args.key) c.args.chains.now.first c.args.chains.now.next c.requires.chains
    (IsOther c.args.entries.now c.args.tag c.args.name.now)
    (λ k l n. other_entry c.args.keys.now c.args.entries.now c.args.tag c.args.name.now c.args.key k c.requires.keys c.requires.key l (other_key c.args.keys.now c.args.key k l n))
    (c.loop-place.place - 1) c.loop-place.place (omega (arith, c.loop-place-test.true)) c.loop-place.invariant
    (λ d. ap (is_for c.args.tag c.args.name.now) (get_or_default c.args.entries.now (c.loop-place.place - 1) d c.index-entries-index.result lies ∙ sym c.index-entries-index.is) ∙ here)

pub returns : goal.returns
returns c =
    found_none c.args.entries.now c.args.tag c.args.name.now
    (λ k l. c.loop-place.invariant.none_behind k (omega (arith, c.loop-place-test.false)) (omega (arith, many c.args.keys.now c.args.entries.now c.requires.keys)))
