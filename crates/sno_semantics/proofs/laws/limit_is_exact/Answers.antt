use Rattle.sno_semantics.proofs.Depth.{exact_run, exact_turn}
use Rattle.sno_semantics.proofs.laws.limit_is_exact.Goals as goal

pub returns : goal.returns
returns g c = λ keeping allowed counts program n m p st le more. (exact_run allowed keeping counts program n m p st le more, exact_turn allowed keeping counts program n m p st le more)
