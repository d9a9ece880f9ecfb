-- What an answer that is no value tells: a refusal tells why, and that memory ran out tells nothing.
use Rattle.mon_text.specs.declared.stop.Stop.{Stop}
use Rattle.mon_text.specs.declared.stop.Stop.TheVariants.{Refused, Memory}

-- what holds of the refusal
abbrev pub IfRefused : {R : Type 0} → (R → Type 0) → Stop R → Type 0
IfRefused P (Refused refusal) = P refusal
IfRefused P Memory = Unit {0}
