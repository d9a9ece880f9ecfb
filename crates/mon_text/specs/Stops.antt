-- What a call says that may stop: for a refusal, or because memory was short.
use Rattle.std.specs.Prelude.{◌≡◌, Option, None, Some, Result, Ok, Err}
use Rattle.mon_text.specs.declared.stop.Stop.{Stop}
use Rattle.mon_text.specs.declared.stop.Stop.TheVariants.{Refused, Memory}

-- what an answer refuses for; that memory is short is no refusal
abbrev pub refused_as : {A R : Type 0} → Result A (Stop R) → Option R
refused_as (Ok _) = None
refused_as (Err (Refused refusal)) = Some refusal
refused_as (Err Memory) = None

-- an answer is what is said of the input, seen through its model, unless memory was short
abbrev pub Gives : {A B R : Type 0} → (A → B) → Result A (Stop R) → Result B R → Type 0
Gives seen (Ok x) said = said ≡ Ok (seen x)
Gives seen (Err (Refused refusal)) said = said ≡ Err refusal
Gives seen (Err Memory) said = Unit {0}
