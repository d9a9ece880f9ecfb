use Rattle.std.proofs.Common.{◌-◌, arith, length, map}
use Rattle.mon_acl.{specs.inner.Keys.{bucket_of}, proofs.Keyed.{IsOtherKey, begun, gone_on, other_key}}
use Rattle.mon_acl.proofs.keys.index_of_key.Goals as goal

pub loop-place-init : goal.loop-place-init
loop-place-init c =
    begun (map bucket_of c.args.keys.now) (length c.args.keys.now) (bucket_of c.args.key) c.args.chains.now.first c.args.chains.now.next c.requires.chains
    (IsOtherKey c.args.keys.now c.args.key) (other_key c.args.keys.now c.args.key) c.bucket_of.result c.bucket_of.ensures.value c.bucket_of.ensures.few

pub loop-place-preserved : goal.loop-place-preserved
loop-place-preserved c =
    gone_on (map bucket_of c.args.keys.now) (length c.args.keys.now) (bucket_of c.args.key) c.args.chains.now.first c.args.chains.now.next c.requires.chains
    (IsOtherKey c.args.keys.now c.args.key) (other_key c.args.keys.now c.args.key) (c.loop-place.place - 1) c.loop-place.place
    (omega (arith, c.loop-place-test.true)) c.loop-place.invariant c.if-keys-index.false
