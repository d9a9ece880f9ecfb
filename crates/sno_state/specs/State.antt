-- The state of a job as what programs rest on (own): all that statements do to it, and that they begin.
use Rattle.std.specs.Prelude.{ℕ, ◌-◌}
use Rattle.interaction.specs.Interactions.{Returns, Asks}
use Rattle.interaction.specs.Counting.{Moment, Beginning, lifted}
use Rattle.interaction.specs.declared.answer.Answer.{Answer}
use Rattle.sno_semantics.specs.Keeping.{Keeping}
use Rattle.sno_store.specs.declared.store.Store.{Store as State}
use Rattle.sno_store.specs.Calls.{given_back, call_left}
use Rattle.sno_cards.specs.declared.limits.Limits.{Limits}
use Rattle.sno_state.specs.Using.{used, assigned}
use Rattle.sno_state.specs.Items.{item, item_set}
use Rattle.sno_state.specs.Keywords.{keyword, keyword_set}
use Rattle.sno_state.specs.Matching.{matched}
use Rattle.sno_state.specs.Calling.{begun, entered}
use Rattle.sno_state.specs.Primitives.{primitive}

-- in a job of these limits
abbrev pub keeping : Limits → Keeping Moment Answer State
keeping limits = record {
  used = λ name s. lifted (used name s);
  assigned = λ name v s. lifted (assigned name v s);
  item = item;
  item_set = item_set;
  keyword = keyword;
  keyword_set = keyword_set;
  most = λ s. s.keywords.maximum_length;
  matched = λ text p s. lifted (matched limits.steps text p s);
  begun = begun limits.statements;
  noted = Asks Beginning (λ _. Returns tt);
  entered = entered;
  left = λ s. (given_back s, call_left s);
  primitive = λ f vs s. lifted (primitive f vs s);
}

-- how many statements the job's own limit still lets begin, whatever &STLIMIT says
abbrev pub allowed : Limits → State → ℕ
allowed limits s = limits.statements - s.keywords.begun
