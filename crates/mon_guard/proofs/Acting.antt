-- What acts on records come to, and what they leave of the catalogue.
use Rattle.std.proofs.Common.{◌≡◌, ℕ, Bool, true, false, cond, nat_eq, List, [], ◌∷◌, Option, None, Some, refl, sym, ap, ◌∙◌, inl, inr, ◌⊎◌, slice_get}
use Rattle.mon_access.specs.declared.{account.Account.{Account}, access.Decision.{Decision}}
use Rattle.mon_access.specs.declared.access.Decision.TheVariants as decision
use Rattle.mon_catalogue.specs.declared.{data_set.SetFull.{SetFull}, mode.Mode.{Mode}, mode.Mode.TheVariants.{Seq, Append}}
use Rattle.mon_catalogue.specs.{Writing.{Change, writing, change_refusal, recorded}, declared.data_set.DataSet.{DataSet}, Sets.{Sets, find_set}}
use Rattle.mon_catalogue.{specs.Changes.{with_changed}, proofs.Changing.{changed_there}}
use Rattle.interaction.specs.declared.answer.{Reason.{Reason}, Reason.TheVariants.{NoSet, Mode as WrongMode}, Answer.{Answer}}
use Rattle.interaction.specs.declared.answer.Answer.TheVariants as answer
use Rattle.mon_guard.{specs.Deciding.{decision_on}, specs.inner.Parts.{by_decision, or_denied, ended}, proofs.Shorthand.{made}}
use Rattle.mon_guard.specs.{Reasons.{reason_of}, Laws.{IsThere, IsGranted, IsFor, WhyNotAct, ActsWhereGranted}}
use Rattle.mon_guard.specs.Acting.{Act, Read, Write, End, Acted, asks, done, acted_on, acted, only_answered, read_at, left, changed}
use Rattle.std.specs.Cmp.Lexicographic.{pointwise}

-- a set that is lent and left so
pub left_so : (name : List ℕ) (change : Option Change) (sets : Sets) (set : DataSet) → Some set ≡ find_set name sets
    → with_changed name (λ _. left change set) sets ≡ changed name change sets
left_so name (Some change) sets set at = changed_there name (recorded change) sets set at
left_so name None [] set at = refl
left_so name None (named ∷ sets) set at = by (pointwise nat_eq name named.0) at (left_so name None sets set)
  where
    by : (same : Bool) → Some set ≡ cond same (Some named.1) (find_set name sets)
        → (Some set ≡ find_set name sets → with_changed name (λ _. set) sets ≡ sets)
        → cond same ((named.0, set) ∷ sets) (named ∷ with_changed name (λ _. set) sets) ≡ named ∷ sets
    by true at rest = let same : set ≡ named.1 = cc in rw same refl
    by false at rest = ap (λ (l : Sets). named ∷ l) (rest at)

-- a set that is lent and left as it was
pub left_as_it_was : (name : List ℕ) (sets : Sets) (set : DataSet) → Some set ≡ find_set name sets → with_changed name (λ _. set) sets ≡ sets
left_as_it_was name sets set at = left_so name None sets set at

pub ruleset changes = (left_as_it_was)

-- what is done is no denial
abbrev is_denial : Answer → Bool
is_denial answer.Done = false
is_denial (answer.Got line) = false
is_denial answer.EndOfFile = false
is_denial (answer.Denied reason) = true
is_denial answer.Full = false

read_is_none : (p : ℕ) (o : Option (List ℕ)) → is_denial (read_at p o).answer ≡ false
read_is_none p None = refl
read_is_none p (Some line) = refl

made_is_none : (change : Change) (records : List (List ℕ)) (o : Option SetFull) → is_denial (made change records o).answer ≡ false
made_is_none change records None = refl
made_is_none change records (Some full) = refl

-- what sets of this mode have is done, or not, but is not denied
done_is_none : (act : Act) (set : DataSet) → IsFor act set.mode → is_denial (done act set).answer ≡ false
done_is_none (Read p) set for = read_is_none p (slice_get set.records p)
done_is_none (Write p line) set for =
    let change = writing set.mode p line in
    made_is_none change set.records (change_refusal change set.records)
done_is_none (End p) set for = by set.mode for
  where
    by : (mode : Mode) → IsFor (End p) mode → is_denial (ended mode p set.records).answer ≡ false
    by Seq for = refl
    by Append never = absurd never

-- what they do not have is denied
none_for : (act : Act) (set : DataSet) → (¬ IsFor act set.mode) → done act set ≡ only_answered (answer.Denied WrongMode)
none_for (Read p) set never = absurd (never tt)
none_for (Write p line) set never = absurd (never tt)
none_for (End p) set never = by set.mode never
  where
    by : (mode : Mode) → (¬ IsFor (End p) mode) → ended mode p set.records ≡ only_answered (answer.Denied WrongMode)
    by Seq never = absurd (never tt)
    by Append never = refl

-- sets have an act, or not
for_or_not : (act : Act) (mode : Mode) → IsFor act mode ⊎ (¬ IsFor act mode)
for_or_not (Read p) mode = inl tt
for_or_not (Write p line) mode = inl tt
for_or_not (End p) Seq = inl tt
for_or_not (End p) Append = inr (λ never. never)

module _ (account : Account) (act : Act) (sets : Sets) (name : List ℕ) where
  abbrev by : DataSet → Decision → Acted
  by set d = or_denied (by_decision set.acl d (done act set))

  abbrev Either : Type 0
  Either = ((set : DataSet) × IsThere name sets set × IsGranted account set (asks act) × IsFor act set.mode) ⊎ ((reason : Reason) × WhyNotAct account act sets name reason)

  either_by : (set : DataSet) → find_set name sets ≡ Some set → (d : Decision) → decision_on account set (asks act) ≡ d → Either
  either_by set there decision.Granted is = elim (for_or_not act set.mode) [
    | inl for ↦ inl (set, there, is, for)
    | inr never ↦ inr (WrongMode, inr (inr (set, there, (is, never, refl))))
  ]
  either_by set there (decision.Denied decider) is = inr (reason_of set.acl decider, inr (inl (set, there, (decider, is, refl))))

  either : (o : Option DataSet) → find_set name sets ≡ o → Either
  either None is = inr (NoSet, inl (is, refl))
  either (Some set) is = either_by set is (decision_on account set (asks act)) refl

  why_by : (reason : Reason) (set : DataSet) → find_set name sets ≡ Some set → (d : Decision) → decision_on account set (asks act) ≡ d
      → by set d ≡ only_answered (answer.Denied reason) → WhyNotAct account act sets name reason
  why_by reason set there decision.Granted is h = elim (for_or_not act set.mode) [
    | inl for ↦ absurd (let no : false ≡ true = sym (done_is_none act set for) ∙ ap (λ (a : Acted). is_denial a.answer) h in cc)
    | inr never ↦
        let same : answer.Denied WrongMode ≡ answer.Denied reason = ap (λ (a : Acted). a.answer) (sym (none_for act set never) ∙ h) in
        inr (inr (set, there, (is, never, cc (same))))
  ]
  why_by reason set there (decision.Denied decider) is h =
      inr (inl (set, there, (decider, is, let same : answer.Denied (reason_of set.acl decider) ≡ answer.Denied reason = ap (λ (a : Acted). a.answer) h in cc)))

  why : (reason : Reason) (o : Option DataSet) → find_set name sets ≡ o → acted_on account act o ≡ only_answered (answer.Denied reason)
      → WhyNotAct account act sets name reason
  why reason None is h = inl (is, let same : answer.Denied NoSet ≡ answer.Denied reason = ap (λ (a : Acted). a.answer) h in cc)
  why reason (Some set) is h = why_by reason set is (decision_on account set (asks act)) refl h

  denied_so : (reason : Reason) → WhyNotAct account act sets name reason → acted account act sets name ≡ only_answered (answer.Denied reason)
  denied_so reason (inl h) = ap (acted_on account act) h.0 ∙ ap (λ (r : Reason). only_answered (answer.Denied r)) (sym h.1)
  denied_so reason (inr (inl h)) =
      ap (acted_on account act) h.1 ∙ ap (by h.0) h.2.1 ∙ ap (λ (r : Reason). only_answered (answer.Denied r)) (sym h.2.2)
  denied_so reason (inr (inr h)) =
      ap (acted_on account act) h.1 ∙ ap (by h.0) h.2.0 ∙ none_for act h.0 h.2.1 ∙ ap (λ (r : Reason). only_answered (answer.Denied r)) (sym h.2.2)

pub acts_where_granted : ActsWhereGranted
acts_where_granted account act sets name = record {
  done_where = λ set there granted for. ap (acted_on account act) there ∙ ap (by account act sets name set) granted;
  denied_where = λ reason. (why account act sets name reason (find_set name sets) refl, denied_so account act sets name reason);
  one_of_both = either account act sets name (find_set name sets) refl;
}
