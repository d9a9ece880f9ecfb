-- How a service answers whose exchanges are put to an audit (own): as the units answer, and each exchange has its line.
use Rattle.std.specs.Prelude.{◌≡◌, ℕ}
use Rattle.interaction.specs.declared.request.Request.{Request}
use Rattle.interaction.specs.declared.answer.Answer.{Answer}
use Rattle.mon_device.specs.Putting.{Standing, Puts}
use Rattle.mon_unit.specs.declared.service.UnitService.{UnitService}
use Rattle.mon_unit.specs.Lent.{UnitAnswers, reach_of}
pub use Rattle.audit.specs.Requests.{exchange_line}

-- the units answered a request, and its line was put to a sink that stood so before and stands so then
pub record Audited (n : ℕ) (s : UnitService) (a : Standing) (q : Request) (answer : Answer) (m : ℕ) (t : UnitService) (b : Standing) : Type 0 where
  pub served : UnitAnswers s q answer t
  pub number : m ≡ n
  pub put : Puts a b (exchange_line n s.account.now (reach_of s) q answer)
