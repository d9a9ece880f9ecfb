-- Each request has an answer that fits: it may be denied.
use Rattle.std.proofs.Common.{IsTrue, refl}
use Rattle.interaction.specs.{declared.answer.Reason.TheVariants.{NoUnit}, declared.request.Act.{Act}, declared.request.Request.{Request}, Fitting.{fits, Fits}}
use Rattle.interaction.specs.declared.{request.Act.TheVariants.{Read, Write, Endfile, Rewind}, answer.Answer.{Answer}}
use Rattle.interaction.specs.declared.answer.Answer.TheVariants.{Denied}

may_be_denied : (act : Act) → IsTrue (fits act (Denied NoUnit))
may_be_denied (Read u) = refl
may_be_denied (Write u line) = refl
may_be_denied (Endfile u) = refl
may_be_denied (Rewind u) = refl

pub some_answer : (request : Request) → (answer : Answer) × Fits request answer
some_answer request = (Denied NoUnit, may_be_denied request.act)
