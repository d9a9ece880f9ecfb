-- What statements do leaves the number of statements that were begun, but for the beginning of one.
use Rattle.std.proofs.Common.{◌≡◌, ℕ, ℤ, pos, negsuc, ◌≤◌, ◌<◌, Bool, true, false, List, [], ◌∷◌, length, Option, Some, None, Result, Ok, Err, refl, subst, arith, nat_le, nat_lt, ◌&&◌}
use Rattle.std.{specs.Prelude.{ok_or, if◌then◌else◌}, specs.Option.{option_map_or}, proofs.lemmas.Bool.Decides.{nat_tests}}
use Rattle.interaction.specs.{Interactions.{Returns, interpreted}, Endings.{EndsIn}, Asking.{Asking}, Counting.{lifted}, declared.request.Act.{Act}}
use Rattle.interaction.specs.declared.answer.Answer.{Answer}
use Rattle.interaction.proofs.{Enough.{ends_in_then, ends_in_weaker}, Hosts.{through_ends}, Counting.{lifted_ends}}
use Rattle.interaction.specs.declared.request.Act.TheVariants as act
use Rattle.interaction.specs.declared.answer.Answer.TheVariants as answer
use Rattle.sno_text.specs.declared.fault.Fault.{Fault as AFault, TheVariants.{WrongType}}
use Rattle.sno_text.specs.declared.fault.Fault.TheVariants as fault
use Rattle.sno_value.specs.{declared.value.Value.{Value}, Values.{null, pattern_of, text_of, number_of}, Primitives.{argument, primitive_named}}
use Rattle.sno_value.specs.{declared.primitive.Primitive.{Primitive}, Keys.{place_of}, Tables.{with_table, with_item}}
use Rattle.sno_pattern.specs.{Looks.{Look, LookUp, Assign, Told, Given}, Steps.{match_of}}
use Rattle.sno_pattern.specs.declared.ending.MatchEnd.TheVariants as end
use Rattle.sno_declarations.specs.{Arguments.{go_on, name_in, input_in, output_in, unit_in}, Definitions.{definition_in}, Formats.{records}}
use Rattle.sno_declarations.specs.declared.{association.Input.{Input}, association.Output.{Output}, definition.Definition.{Definition}}
use Rattle.sno_semantics.specs.declared.got.{Evaluated.{Evaluated}, Evaluated.TheVariants.{Halts}, Halt.TheVariants.{Fault}}
use Rattle.sno_semantics.specs.{Keeping.{Entered, Undefined, Enters, Refused}, Limits.{Counts}}
use Rattle.sno_store.{specs.declared.keyword.Keyword.{Keyword}, specs.declared.keyword.Keywords.{Keywords}, specs.CallFrames.{CallFrame}, proofs.Left.{left_by}}
use Rattle.sno_store.specs.{declared.store.Store.{Store as State}, Keywords.{keyword_named, with_keyword, is_settable}}
use Rattle.sno_store.specs.States.{with_value_of, with_keyword_set, function_of, may_begin, with_statement, new_table, with_new_table, with_item_set}
use Rattle.sno_store.specs.Callees.{state_function_named}
use Rattle.sno_store.specs.declared.callee.Change.{Change, TheVariants.{Define, Input as Reads, Output as Writes, Detach}}
use Rattle.sno_store.specs.declared.callee.StateFunction.{StateFunction, TheVariants.{Changes, Endfile, Rewind, NewTable}}
use Rattle.sno_store.specs.declared.keyword.Keyword.TheVariants.{Anchor, FullScan, Trim, StatementLimit, MaximumLength, StatementCount, StatementNumber, FunctionLevel}
use Rattle.sno_variables.specs.Variables as variables
use Rattle.sno_variables.specs.Variables.{Use, use_of, variable_of}
use Rattle.sno_store.specs.Calls as calls
use Rattle.sno_text.specs.Patterns as patterns
use Rattle.sno_state.specs.{Items.{item_set}, Asking.{if_done, asked, changed_by}, Keywords.{keyword_set}, Calling.{begun, entered}, State.{keeping, allowed}}
use Rattle.sno_state.specs.{Using.{stored_of, used_by, used, write_all, written, assigned}, Matching.{value_taken, looked_at, told_by, looking, matched}}
use Rattle.sno_state.specs.{inner.Parts.{is_anchored, write_text, called, on_values}, Primitives.{state_changed, on_unit, state_function_done, primitive}}
use Rattle.sno_cards.specs.declared.limits.Limits.{Limits}

module _ (n : ℕ) where
  -- so many were begun
  abbrev pub Stays : State → Type 0
  Stays s = s.keywords.begun ≡ n

  abbrev pub After : {A : Type 0} → A × State → Type 0
  After r = Stays r.1

  abbrev pub Changed : Result State AFault → Type 0
  Changed (Ok s) = Stays s
  Changed (Err f) = Unit {0}

  -- ASKING

  if_done_stays : (r : Answer) (s : State) (go : Asking (Evaluated × State)) → Stays s → EndsIn After go → EndsIn After (if_done r s go)
  if_done_stays answer.Done s go h g = g
  if_done_stays (answer.Got line) s go h g = h
  if_done_stays answer.EndOfFile s go h g = h
  if_done_stays (answer.Denied reason) s go h g = h
  if_done_stays answer.Full s go h g = h

  asked_stays : (a : Act) (s : State) → Stays s → EndsIn After (asked a s)
  asked_stays a s h = λ r. if_done_stays r s _ h h

  by_changed : (v : Value) (r : Result State AFault) (s : State) → Stays s → Changed r → Stays (changed_by v r s).1
  by_changed v (Ok after) s h g = g
  by_changed v (Err f) s h g = h

  -- VARIABLES

  stored_stays : (name : List ℕ) (input : Input) (r : Answer) (s : State) → Stays s → Stays (stored_of name input r s).1
  stored_stays name input (answer.Got line) s h = h
  stored_stays name input answer.Done s h = h
  stored_stays name input answer.EndOfFile s h = h
  stored_stays name input (answer.Denied reason) s h = h
  stored_stays name input answer.Full s h = h

  used_by_stays : (name : List ℕ) (u : Use) (s : State) → Stays s → EndsIn After (used_by name u s)
  used_by_stays name (variables.Gives v) s h = h
  used_by_stays name (variables.Reads input) s h = λ r. stored_stays name input r s h

  pub used_stays : (name : List ℕ) (s : State) → Stays s → EndsIn After (used name s)
  used_stays name s h = used_by_stays name (use_of (variable_of name s.variables)) s h

  write_all_stays : (unit : ℕ) (lines : List (List ℕ)) (s : State) → Stays s → EndsIn After (write_all unit lines s)
  write_all_stays unit [] s h = h
  write_all_stays unit (line ∷ lines) s h = λ r. if_done_stays r s (write_all unit lines s) h (write_all_stays unit lines s h)

  write_text_stays : (output : Output) (text : Option (List ℕ)) (s : State) → Stays s → EndsIn After (write_text output text s)
  write_text_stays output None s h = h
  write_text_stays output (Some text) s h = write_all_stays output.unit (records output.format text) s h

  written_stays : (output : Option Output) (v : Value) (s : State) → Stays s → EndsIn After (written output v s)
  written_stays None v s h = h
  written_stays (Some output) v s h = write_text_stays output (text_of v) s h

  pub assigned_stays : (name : List ℕ) (v : Value) (s : State) → Stays s → EndsIn After (assigned name v s)
  assigned_stays name v s h = written_stays (variable_of name s.variables).output v (with_value_of name v s) h

  -- MATCHES

  looking_stays : (q : Look) (s : State) → Stays s → EndsIn (λ (r : Told × State). Stays r.1) (looking q s)
  looking_stays (LookUp variable) s h =
      ends_in_then (λ (r : Evaluated × State). Stays r.1) (λ (r : Told × State). Stays r.1) (used variable s) (λ got. Returns (told_by looked_at got.0, got.1)) (used_stays variable s h) (λ r g. g)
  looking_stays (Assign variable taken) s h =
      ends_in_then (λ (r : Evaluated × State). Stays r.1) (λ (r : Told × State). Stays r.1) (assigned variable (value_taken taken) s) (λ got. Returns (told_by (λ _. Given) got.0, got.1))
      (assigned_stays variable (value_taken taken) s h) (λ r g. g)

  matched_by_stays : (steps : ℕ) (text : List ℕ) (o : Option patterns.Pattern) (s : State) → Stays s
      → EndsIn After (option_map_or (λ p. interpreted looking (match_of text p (is_anchored s) steps) s) o (Returns (end.Fault WrongType, s)))
  matched_by_stays steps text None s h = h
  matched_by_stays steps text (Some p) s h = through_ends Stays looking looking_stays (match_of text p (is_anchored s) steps) s h

  pub matched_stays : (steps : ℕ) (text : List ℕ) (p : Value) (s : State) → Stays s → EndsIn After (matched steps text p s)
  matched_stays steps text p s h = matched_by_stays steps text (pattern_of p) s h

  -- CHANGES

  go_on_changed : {A : Type 0} (r : Result A AFault) (go : A → Result State AFault) → ((a : A) → Changed (go a)) → Changed (go_on r go)
  go_on_changed (Ok a) go h = h a
  go_on_changed (Err f) go h = tt

  pub changed_stays : (which : Change) (a b c : Value) (s : State) → Stays s → Changed (state_changed which a b c s)
  changed_stays Define a b c s h = go_on_changed (definition_in a b) _ (λ d. h)
  changed_stays Reads a b c s h = go_on_changed (name_in a) _ (λ name. go_on_changed (input_in b c) _ (λ i. h))
  changed_stays Writes a b c s h = go_on_changed (name_in a) _ (λ name. go_on_changed (output_in b c) _ (λ o. h))
  changed_stays Detach a b c s h = go_on_changed (name_in a) _ (λ name. h)

  -- TABLES

  table_changed : (s : State) → Stays s → Changed (with_new_table s)
  table_changed s h = go_on_changed (with_table s.tables) _ (λ ts. h)

  pub item_stays : (t k v : Value) (s : State) → Stays s → Stays (item_set t k v s).1
  item_stays t k v s h = by_changed null (with_item_set t k v s) s h (go_on_changed (ok_or (place_of t k) _) _ (λ p. go_on_changed (with_item p v s.tables) _ (λ ts. h)))

  -- KEYWORDS

  abbrev Kept : Result Keywords AFault → Type 0
  Kept (Ok k) = k.begun ≡ n
  Kept (Err f) = Unit {0}

  limit_kept : (z : ℤ) (k : Keywords) → k.begun ≡ n → Kept (with_keyword StatementLimit z k)
  limit_kept (pos m) k h = h
  limit_kept (negsuc m) k h = tt

  if_kept : (b : Bool) (k : Keywords) (f : AFault) → k.begun ≡ n → Kept (if b then Ok k else Err f)
  if_kept true k f h = h
  if_kept false k f h = tt

  length_kept : (z : ℤ) (k : Keywords) → k.begun ≡ n → Kept (with_keyword MaximumLength z k)
  length_kept (pos m) k h = if_kept (nat_le m 100000) (record k { maximum_length = m }) _ h
  length_kept (negsuc m) k h = tt

  keyword_kept : (keyword : Keyword) (z : ℤ) (k : Keywords) → k.begun ≡ n → Kept (with_keyword keyword z k)
  keyword_kept Anchor z k h = h
  keyword_kept FullScan z k h = h
  keyword_kept Trim z k h = h
  keyword_kept StatementLimit z k h = limit_kept z k h
  keyword_kept MaximumLength z k h = length_kept z k h
  keyword_kept StatementCount z k h = tt
  keyword_kept StatementNumber z k h = tt
  keyword_kept FunctionLevel z k h = tt

  kept_changed : (r : Result Keywords AFault) (s : State) → Kept r → Changed (go_on r (λ k. Ok (record s { keywords = k })))
  kept_changed (Ok k) s h = h
  kept_changed (Err f) s h = tt

  if_changed : (b : Bool) (r : Result State AFault) (f : AFault) → Changed r → Changed (if b then r else Err f)
  if_changed true r f h = h
  if_changed false r f h = tt

  keyword_changed : (keyword : Keyword) (v : Value) (s : State) → Stays s → Changed (with_keyword_set keyword v s)
  keyword_changed keyword v s h = if_changed (is_settable keyword) _ _ (go_on_changed (ok_or (number_of v) _) _ (λ z. kept_changed (with_keyword keyword z s.keywords) s (keyword_kept keyword z s.keywords h)))

  set_by_stays : (k : Option Keyword) (v : Value) (s : State) → Stays s
      → Stays (option_map_or (λ k'. changed_by null (with_keyword_set k' v s) s) k (Halts (Fault fault.Keyword), s)).1
  set_by_stays None v s h = h
  set_by_stays (Some k) v s h = by_changed null (with_keyword_set k v s) s h (keyword_changed k v s h)

  pub keyword_stays : (name : List ℕ) (v : Value) (s : State) → Stays s → Stays (keyword_set name v s).1
  keyword_stays name v s h = set_by_stays (keyword_named name) v s h

  -- PRIMITIVES

  unit_stays : (acts : ℕ → Act) (r : Result ℕ AFault) (s : State) → Stays s → EndsIn After (on_unit acts r s)
  unit_stays acts (Ok unit) s h = asked_stays (acts unit) s h
  unit_stays acts (Err f) s h = h

  done_stays : (which : StateFunction) (a b c : Value) (s : State) → Stays s → EndsIn After (state_function_done which a b c s)
  done_stays (Changes which) a b c s h = by_changed null (state_changed which a b c s) s h (changed_stays which a b c s h)
  done_stays Endfile a b c s h = unit_stays act.Endfile (unit_in a) s h
  done_stays Rewind a b c s h = unit_stays act.Rewind (unit_in a) s h
  done_stays NewTable a b c s h = by_changed (new_table s) (with_new_table s) s h (table_changed s h)

  values_stay : (p : Option Primitive) (vs : List Value) (s : State) → Stays s → EndsIn After (on_values p vs s)
  values_stay None vs s h = h
  values_stay (Some p) vs s h = h

  by_stays : (which : Option StateFunction) (f : List ℕ) (vs : List Value) (s : State) → Stays s
      → EndsIn After (option_map_or (λ w. state_function_done w (argument 0 vs) (argument 1 vs) (argument 2 vs) s) which (on_values (primitive_named f) vs s))
  by_stays (Some which) f vs s h = done_stays which (argument 0 vs) (argument 1 vs) (argument 2 vs) s h
  by_stays None f vs s h = values_stay (primitive_named f) vs s h

  pub primitive_stays : (f : List ℕ) (vs : List Value) (s : State) → Stays s → EndsIn After (primitive f vs s)
  primitive_stays f vs s h = by_stays (state_function_named f) f vs s h

  -- CALLS

  abbrev pub Inside : Entered State → Type 0
  Inside Undefined = Unit {0}
  Inside (Enters entry s) = Stays s
  Inside (Refused f) = Unit {0}

  if_inside : (b : Bool) (entry : List ℕ) (s : State) (f : AFault) → Stays s → Inside (if b then Enters entry s else Refused f)
  if_inside true entry s f h = h
  if_inside false entry s f h = tt

  entered_by_stays : (d : Option Definition) (vs : List Value) (s : State) → Stays s → Inside (option_map_or (λ d'. called d' vs s) d Undefined)
  entered_by_stays None vs s h = tt
  entered_by_stays (Some d) vs s h = if_inside (nat_lt (length s.levels) 200) d.entry (calls.call_entered d vs s) _ h

  pub entered_stays : (f : List ℕ) (vs : List Value) (s : State) → Stays s → Inside (entered f vs s)
  entered_stays f vs s h = entered_by_stays (function_of f s) vs s h

  left_by_stays : (levels : List CallFrame) (s : State) → Stays s → Stays (left_by levels s)
  left_by_stays [] s h = h
  left_by_stays (level ∷ levels) s h = h

  pub left_stays : (s : State) → Stays s → Stays (calls.call_left s)
  left_stays s h = left_by_stays s.levels s h

-- what a change, or an assignment to a keyword, leaves
pub changed_counts : (which : Change) (a b c : Value) (s t : State) → state_changed which a b c s ≡ Ok t → t.keywords.begun ≡ s.keywords.begun
changed_counts which a b c s t is = subst (λ (r : Result State AFault). Changed s.keywords.begun r) is (changed_stays s.keywords.begun which a b c s refl)

pub keyword_counts : (keyword : Keyword) (v : Value) (s t : State) → with_keyword_set keyword v s ≡ Ok t → t.keywords.begun ≡ s.keywords.begun
keyword_counts keyword v s t is = subst (λ (r : Result State AFault). Changed s.keywords.begun r) is (keyword_changed s.keywords.begun keyword v s refl)

-- STATEMENTS

-- after a statement that begins fewer may
abbrev Fewer : Limits → State → Option State → Type 0
Fewer limits s None = Unit {0}
Fewer limits s (Some after) = allowed limits after < allowed limits s

both_true : (a b : Bool) → (a && b) ≡ true → b ≡ true
both_true true b h = h
both_true false b h = cc

begun_fewer : (limits : Limits) (number : ℕ) (s : State) → Fewer limits s (begun limits.statements number s)
begun_fewer limits number s = by (may_begin limits.statements s) refl
  where
    by : (b : Bool) → may_begin limits.statements s ≡ b → Fewer limits s (if b then Some (with_statement number s) else None)
    by true h =
        let below : nat_lt s.keywords.begun limits.statements ≡ true = both_true (nat_lt s.keywords.begun s.keywords.statement_limit) (nat_lt s.keywords.begun limits.statements) h in
        grind (arith, nat_tests)
    by false h = tt

fewer_of : (limits : Limits) (s after : State) (o : Option State) → Fewer limits s o → o ≡ Some after → allowed limits after < allowed limits s
fewer_of limits s after o h e = subst (λ (x : Option State). Fewer limits s x) e h

inside_of : (n : ℕ) (entry : List ℕ) (inside : State) (e : Entered State) → Inside n e → e ≡ Enters entry inside → Stays n inside
inside_of n entry inside e h is = subst (λ (x : Entered State). Inside n x) is h

within : (limits : Limits) (s t : State) → Stays s.keywords.begun t → allowed limits t ≤ allowed limits s
within limits s t h = rw h (omega arith)

all_within : {A : Type 0} (limits : Limits) (s : State) (t : Asking (A × State)) → EndsIn (λ (r : A × State). Stays s.keywords.begun r.1) t
    → EndsIn (λ (r : A × State). allowed limits r.1 ≤ allowed limits s) (lifted t)
all_within {A} limits s t h =
    lifted_ends (λ (r : A × State). allowed limits r.1 ≤ allowed limits s) t
    (ends_in_weaker (λ (r : A × State). Stays s.keywords.begun r.1) (λ (r : A × State). allowed limits r.1 ≤ allowed limits s) t (λ r g. within limits s r.1 g) h)

pub state_counts : (limits : Limits) → Counts (keeping limits) (allowed limits)
state_counts limits = record {
  used = λ name s. all_within limits s (used name s) (used_stays s.keywords.begun name s refl);
  assigned = λ name v s. all_within limits s (assigned name v s) (assigned_stays s.keywords.begun name v s refl);
  keyword_set = λ name v s. within limits s (keyword_set name v s).1 (keyword_stays s.keywords.begun name v s refl);
  item_set = λ t k v s. within limits s (item_set t k v s).1 (item_stays s.keywords.begun t k v s refl);
  matched = λ text p s. all_within limits s (matched limits.steps text p s) (matched_stays s.keywords.begun limits.steps text p s refl);
  begun = λ number s after e. fewer_of limits s after (begun limits.statements number s) (begun_fewer limits number s) e;
  entered = λ f vs entry s inside e. within limits s inside (inside_of s.keywords.begun entry inside (entered f vs s) (entered_stays s.keywords.begun f vs s refl) e);
  left = λ s. within limits s (calls.call_left s) (left_stays s.keywords.begun s refl);
  primitive = λ f vs s. all_within limits s (primitive f vs s) (primitive_stays s.keywords.begun f vs s refl);
}
