-- A call that lacked memory was broken off.
use Rattle.std.proofs.Common.{Result, Ok, Err}
use Rattle.std.specs.Result.{IsErr}
use Rattle.interaction.specs.{declared.request.Request.{Request}, declared.answer.Answer.{Answer}, Asking.{Asking, StopsIn, Executes}}

pub broken : {S A R E : Type 0} (answers : S → Request → Answer → S → Type 0) (t : Asking A) (s : S) (r : Result R E) (after : R → A) (s' : S) → IsErr r → StopsIn answers t s s' → Executes answers t s r after s'
broken answers t s (Ok x) after s' i c = cc
broken answers t s (Err e) after s' i c = c
