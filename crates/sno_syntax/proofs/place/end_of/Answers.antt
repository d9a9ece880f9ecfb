use Rattle.std.proofs.Common.{◌≡◌, ◌∙◌, ◌+◌, ◌<◌, false, true, length, get_or, drop, ap, arith}
use Rattle.std.proofs.lemmas.{List.{length-map}, Bool.Decides.{nat_tests}}
use Rattle.mon_text.specs.Characters.{is_blank}
use Rattle.sno_cards.specs.Texts.{Placed, text_of}
use Rattle.sno_syntax.specs.inner.Ends.{place_after}
use Rattle.sno_syntax.proofs.{Ends.{past_blank, past_other}, place.end_of.Goals.{then-byte-ne32, else-byte-ne32}, Shorthand.{end_from}}
use Rattle.sno_syntax.proofs.place.end_of.Goals as goal

pub loop-index-preserved : goal.loop-index-preserved
loop-index-preserved c =
    let cs = c.args.text.now in
    let i = c.loop-index.index in
    let code = get_or c.as_bytes-byte-items.result.now i 0 in
    let within : i < length cs = omega (arith, c.loop-index-test.true, ap length c.as_bytes-byte-items.ensures, length-map cs (λ (p : Placed). p.code)) in
    let is : code ≡ get_or (text_of cs) i 0 = ap (λ bs. get_or bs i 0) c.as_bytes-byte-items.ensures in
    elim c.if-byte-ne32.branch [
      | then-byte-ne32 w ↦
          let ink : is_blank code ≡ false = grind (arith, nat_tests, w.if-byte-ne32.true) in
          ap (λ last. end_from (place_after cs last) (drop (i + 1) cs)) w.last-is ∙ past_other cs i code 0 c.loop-index.last within is ink
          ∙ c.loop-index.invariant
      | else-byte-ne32 w ↦
          let blank : is_blank code ≡ true = grind (arith, nat_tests, w.if-byte-ne32.false) in
          ap (λ last. end_from (place_after cs last) (drop (i + 1) cs)) w.last-is ∙ past_blank cs i code 0 c.loop-index.last within is blank
          ∙ c.loop-index.invariant
    ]
