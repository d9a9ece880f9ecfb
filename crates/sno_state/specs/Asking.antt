-- What statements ask of a service, and what they come to then (own).
use Rattle.std.specs.Prelude.{Result, Ok, Err}
use Rattle.interaction.specs.Interactions.{Returns, ask, ◌>>=◌}
use Rattle.interaction.specs.Asking.{Asking}
use Rattle.interaction.specs.declared.request.Act.{Act}
use Rattle.interaction.specs.declared.request.Request.{Request}
use Rattle.interaction.specs.declared.answer.Answer.{Answer}
use Rattle.interaction.specs.declared.answer.Answer.TheVariants as answer
use Rattle.sno_text.specs.declared.fault.Fault.{Fault as AFault}
use Rattle.sno_value.specs.declared.value.Value.{Value}
use Rattle.sno_value.specs.Values.{null}
use Rattle.sno_semantics.specs.declared.got.Halt.TheVariants.{Fault}
use Rattle.sno_semantics.specs.declared.got.Evaluated.{Evaluated}
use Rattle.sno_semantics.specs.declared.got.Evaluated.TheVariants.{Gives, Fails, Halts}
use Rattle.sno_store.specs.declared.store.Store.{Store as State}

-- asked by the statement at hand
abbrev pub request : Act → State → Request
request act s = record { statement = s.keywords.statement; act = act }

-- goes on where it is done, and fails where it is not
abbrev pub if_done : Answer → State → Asking (Evaluated × State) → Asking (Evaluated × State)
if_done told s go = elim told [ answer.Done ↦ go | _ ↦ Returns (Fails, s) ]

-- an act that gives null where it is done
abbrev pub asked : Act → State → Asking (Evaluated × State)
asked act s = ask (request act s) >>= λ answer. if_done answer s (Returns (Gives null, s))

-- this value, in the state that there is then; or a fault, and nothing has changed
abbrev pub changed_by : Value → Result State AFault → State → Evaluated × State
changed_by v (Ok after) s = (Gives v, after)
changed_by v (Err f) s = (Halts (Fault f), s)
