-- Keywords in programs (the SNOBOL4 book, chapter 4; faults and their order are own).
use Rattle.std.specs.Prelude.{List, ℕ, length}
use Rattle.std.specs.Option.{option_map_or}
use Rattle.sno_text.specs.declared.fault.Fault.TheVariants as fault
use Rattle.sno_value.specs.declared.value.Value.{Value}
use Rattle.sno_value.specs.declared.value.Value.TheVariants.{Integer}
use Rattle.sno_value.specs.Values.{null}
use Rattle.sno_value.specs.declared.outcome.Outcome.{Outcome}
use Rattle.sno_value.specs.declared.outcome.Outcome.TheVariants as outcome
use Rattle.sno_semantics.specs.declared.got.Halt.TheVariants.{Fault}
use Rattle.sno_semantics.specs.declared.got.Evaluated.{Evaluated}
use Rattle.sno_semantics.specs.declared.got.Evaluated.TheVariants.{Halts}
use Rattle.sno_store.specs.declared.store.Store.{Store as State}
use Rattle.sno_store.specs.Keywords.{keyword_named, keyword_value}
use Rattle.sno_store.specs.States.{with_keyword_set}
use Rattle.sno_state.specs.Asking.{changed_by}

-- the value of the keyword of a name
abbrev pub keyword : List ℕ → State → Outcome
keyword name s = option_map_or (λ k. outcome.Gives (Integer (keyword_value k (length s.levels) s.keywords))) (keyword_named name) (outcome.Faults fault.Keyword)

-- an assignment to it: that there is such a keyword is tried before the value is looked at
abbrev pub keyword_set : List ℕ → Value → State → Evaluated × State
keyword_set name v s = option_map_or (λ k. changed_by null (with_keyword_set k v s) s) (keyword_named name) (Halts (Fault fault.Keyword), s)
