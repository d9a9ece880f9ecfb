use Rattle.std.proofs.Common.{rules, ◌∙◌, replicate, arith, refl, map}
use Rattle.std.specs.Prelude.{slice_index}
use Rattle.mon_acl.{specs.inner.Keys.{bucket_of}, proofs.Keyed.{none_linked, zeros, linked, bucket_is}}
use Rattle.mon_acl.proofs.keys.chains_of.Goals as goal

pub loop-i-init : goal.loop-i-init
loop-i-init c = record {
  firsts = refl;
  nexts = refl;
  chained = none_linked (map bucket_of c.args.keys.now) (replicate 128 0) (replicate 104 0) (zeros 128);
}

pub loop-i-preserved : goal.loop-i-preserved
loop-i-preserved c = record {
  firsts = search rules;
  nexts = search rules;
  chained =
      linked (map bucket_of c.args.keys.now) c.loop-i.i c.bucket_of-bucket.result c.loop-i.first c.loop-i.next c.bucket_of-bucket.ensures.few c.loop-i.invariant.firsts
      (omega (arith, c.loop-i.invariant.nexts, c.requires)) (bucket_is c.args.keys.now c.loop-i.i (slice_index c.args.keys.now c.loop-i.i) (omega arith) refl ∙ search rules) c.loop-i.invariant.chained;
}
