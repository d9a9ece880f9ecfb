-- The records of a text, written one after the other.
use Rattle.std.proofs.Common.{◌≡◌, ℕ, ◌+◌, ◌-◌, ◌≤◌, ◌<◌, Bool, true, false, List, [], ◌∷◌, length, take, drop, nat_le, refl, sym, ap, ◌∙◌, subst, arith, length-drop, drop-drop, le-leb}
use Rattle.std.{specs.Prelude.{if◌then◌else◌}, proofs.lemmas.Bool.Decides.{nat_tests}}
use Rattle.interaction.{specs.Interactions.{Returns, ask}, proofs.Held.{held_then, cut_then}, specs.Asking.{Asking, RunsTo, StopsIn}, specs.Fitting.{Fits}}
use Rattle.interaction.specs.declared.{request.Act.TheVariants.{Write}, request.Request.{Request}, answer.Answer.{Answer}}
use Rattle.interaction.specs.declared.answer.Answer.TheVariants as answer
use Rattle.sno_value.specs.Values.{null}
use Rattle.sno_semantics.specs.declared.got.Evaluated.{Evaluated, TheVariants.{Gives, Fails}}
use Rattle.sno_declarations.specs.{Formats.{RecordFormat, IsFormat, most_characters, laid_out, records}, Laws.{RecordsFollow}}
use Rattle.sno_store.specs.declared.store.Store.{Store as State}
use Rattle.sno_state.specs.{Asking.{request, if_done}, Using.{write_all}}

pub is_format : (format : RecordFormat) (m : ℕ) → m ≡ format.characters → 1 ≤ m → m ≤ most_characters format.blank → IsFormat format
is_format format m same positive fits = (subst (λ (x : ℕ). 1 ≤ x) same positive, subst (λ (x : ℕ). x ≤ most_characters format.blank) same fits)

not_done : (r : Answer) (s : State) (go : Asking (Evaluated × State)) → (r ≡ answer.Done → ⊥) → Returns (Fails, s) ≡ if_done r s go
not_done answer.Done s go other = absurd (other refl)
not_done (answer.Got line) s go other = refl
not_done answer.EndOfFile s go other = refl
not_done (answer.Denied reason) s go other = refl
not_done answer.Full s go other = refl

within : (a b : ℕ) → a ≤ b → nat_le a b ≡ true
within a b h = le-leb a b h

beyond : (a b : ℕ) → b < a → nat_le a b ≡ false
beyond a b h = grind (arith, nat_tests)

module _ {S : Type 0} (answers : S → Request → Answer → S → Type 0) (follow : RecordsFollow) (unit : ℕ) (format : RecordFormat) (is : IsFormat format) (text : List ℕ) (s : State) where
  abbrev Rest : ℕ → List (List ℕ)
  Rest from = if nat_le (length (drop from text)) format.characters then [] else records format (drop format.characters (drop from text))

  abbrev First : ℕ → List ℕ
  First from = laid_out format (take format.characters (drop from text))

  -- what is left is the next record, and the rest
  more : (from : ℕ) → First from ∷ Rest from ≡ records format (drop from text)
  more from = sym (follow format (drop from text) is)

  asked_first : (from : ℕ) (line : List ℕ) (r : Answer) (a b : S) → line ≡ First from → RunsTo answers (ask (request (Write unit line) s)) a r b
      → RunsTo answers (ask (request (Write unit (First from)) s)) a r b
  asked_first from line r a b laid h = subst (λ (l : List ℕ). RunsTo answers (ask (request (Write unit l) s)) a r b) laid h

  held_first : (from : ℕ) (line : List ℕ) (r : Answer) (a b : S) (p : Evaluated × State) (c : S) → line ≡ First from → RunsTo answers (ask (request (Write unit line) s)) a r b
      → RunsTo answers (if_done r s (write_all unit (Rest from) s)) b p c → RunsTo answers (write_all unit (records format (drop from text)) s) a p c
  held_first from line r a b p c laid h g =
      subst (λ (lines : List (List ℕ)). RunsTo answers (write_all unit lines s) a p c) (more from)
      (held_then answers Fits (ask (request (Write unit (First from)) s)) (λ r'. if_done r' s (write_all unit (Rest from) s)) a r b p c (asked_first from line r a b laid h) g)

  cut_first_of : (from : ℕ) (line : List ℕ) (r : Answer) (a b c : S) → line ≡ First from → RunsTo answers (ask (request (Write unit line) s)) a r b
      → StopsIn answers (if_done r s (write_all unit (Rest from) s)) b c → StopsIn answers (write_all unit (records format (drop from text)) s) a c
  cut_first_of from line r a b c laid h g =
      subst (λ (lines : List (List ℕ)). StopsIn answers (write_all unit lines s) a c) (more from)
      (cut_then answers Fits (λ _ _ _. ⊥) (ask (request (Write unit (First from)) s)) (λ r'. if_done r' s (write_all unit (Rest from) s)) a r b c (asked_first from line r a b laid h) g)

  -- it was not written
  pub fails_at : (from : ℕ) (line : List ℕ) (r : Answer) (a b : S) → line ≡ First from → RunsTo answers (ask (request (Write unit line) s)) a r b
      → (r ≡ answer.Done → ⊥) → RunsTo answers (write_all unit (records format (drop from text)) s) a (Fails, s) b
  fails_at from line r a b laid h other =
      held_first from line r a b (Fails, s) b laid h
      (subst (λ (t : Asking (Evaluated × State)). RunsTo answers t b (Fails, s) b) (not_done r s (write_all unit (Rest from) s) other) (refl, refl))

  none_left : (from m : ℕ) → m ≡ format.characters → length text - from ≤ m → Rest from ≡ []
  none_left from m same last =
      let long : length (drop from text) ≡ length text - from = length-drop from text in
      let short : length (drop from text) ≤ format.characters = omega (arith, long, same, last) in
      ap (λ (b : Bool). if b then [] else records format (drop format.characters (drop from text))) (within (length (drop from text)) format.characters short)

  some_left : (from m : ℕ) → m ≡ format.characters → m < length text - from → Rest from ≡ records format (drop (from + m) text)
  some_left from m same far =
      let long : length (drop from text) ≡ length text - from = length-drop from text in
      let more_than : format.characters < length (drop from text) = omega (arith, long, same, far) in
      ap (λ (b : Bool). if b then [] else records format (drop format.characters (drop from text))) (beyond (length (drop from text)) format.characters more_than)
      ∙ (ap (records format) (drop-drop format.characters from text) ∙ ap (λ (k : ℕ). records format (drop (from + k) text)) (sym same))

  -- it was the last
  pub ends_at : (from m : ℕ) (line : List ℕ) (r : Answer) (a b : S) → m ≡ format.characters → line ≡ First from → RunsTo answers (ask (request (Write unit line) s)) a r b
      → r ≡ answer.Done → length text - from ≤ m → RunsTo answers (write_all unit (records format (drop from text)) s) a (Gives null, s) b
  ends_at from m line r a b same laid h is_done last =
      held_first from line r a b (Gives null, s) b laid h
      (subst (λ (x : Answer). RunsTo answers (if_done x s (write_all unit (Rest from) s)) b (Gives null, s) b) (sym is_done)
      (subst (λ (lines : List (List ℕ)). RunsTo answers (write_all unit lines s) b (Gives null, s) b) (sym (none_left from m same last)) (refl, refl)))

  -- others follow
  pub goes_at : (from m : ℕ) (line : List ℕ) (r : Answer) (a b : S) → m ≡ format.characters → line ≡ First from → RunsTo answers (ask (request (Write unit line) s)) a r b
      → r ≡ answer.Done → m < length text - from → (p : Evaluated × State) (c : S)
      → RunsTo answers (write_all unit (records format (drop (from + m) text)) s) b p c → RunsTo answers (write_all unit (records format (drop from text)) s) a p c
  goes_at from m line r a b same laid h is_done far p c g =
      held_first from line r a b p c laid h
      (subst (λ (x : Answer). RunsTo answers (if_done x s (write_all unit (Rest from) s)) b p c) (sym is_done)
      (subst (λ (lines : List (List ℕ)). RunsTo answers (write_all unit lines s) b p c) (sym (some_left from m same far)) g))

  pub cuts_at : (from m : ℕ) (line : List ℕ) (r : Answer) (a b : S) → m ≡ format.characters → line ≡ First from → RunsTo answers (ask (request (Write unit line) s)) a r b
      → r ≡ answer.Done → m < length text - from → (c : S)
      → StopsIn answers (write_all unit (records format (drop (from + m) text)) s) b c → StopsIn answers (write_all unit (records format (drop from text)) s) a c
  cuts_at from m line r a b same laid h is_done far c g =
      cut_first_of from line r a b c laid h
      (subst (λ (x : Answer). StopsIn answers (if_done x s (write_all unit (Rest from) s)) b c) (sym is_done)
      (subst (λ (lines : List (List ℕ)). StopsIn answers (write_all unit lines s) b c) (sym (some_left from m same far)) g))
