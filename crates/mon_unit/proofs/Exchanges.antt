-- What is changed, and why something is denied, case by case.
use Rattle.std.proofs.Common.{◌≡◌, ℕ, List, Option, None, Some, refl, ap, sym, ◌∙◌, subst, inl, inr, ◌⊎◌, slice_get}
use Rattle.mon_access.specs.declared.{account.Account.{Account}, access.Decision.{Decision}}
use Rattle.mon_access.specs.declared.access.Decision.TheVariants as decision
use Rattle.mon_catalogue.specs.declared.{mode.Mode.{Mode}, mode.Mode.TheVariants.{Seq, Append}, data_set.DataSet.{DataSet}}
use Rattle.mon_catalogue.specs.{declared.data_set.SetFull.{SetFull}, Sets.{Sets, find_set}, Writing.{Change, Cut, writing, change_refusal}}
use Rattle.interaction.specs.declared.{answer.Reason.{Reason}, answer.Reason.TheVariants.{NoUnit, InStream, SpoolUnit}, request.Act.{Act}}
use Rattle.interaction.specs.declared.{request.Act.TheVariants.{Read, Write, Endfile, Rewind}, answer.Answer.TheVariants.{Done, Denied}}
use Rattle.mon_guard.specs.{Deciding.{decision_on, to_write}, inner.Parts.{by_decision, position_after, ended, or_denied}}
use Rattle.mon_guard.specs.{Acting.{Acted, only_answered, read_at, changing, acted_on, acted, changed}, Laws.{IsThere, IsGranted, IsFor, WhyNotAct}}
use Rattle.mon_guard.proofs.{Acting.{acts_where_granted}, Shorthand.{made}}
use Rattle.mon_guard.specs.Acting as acting
use Rattle.mon_unit.specs.{declared.tie.Target.{Target}, declared.tie.Target.TheVariants.{Untied, Data, Spool, Set}, State.{UnitState}}
use Rattle.mon_unit.{specs.Serving.{acted_at, set_at}, proofs.Changed.{changed_at}, proofs.Acting.{acted_cases, is_plain}, proofs.Shorthand.{looked}}
use Rattle.mon_unit.specs.Laws.{AsksChange, AsksGuard, IsOfData, IsOfSpool, ChangedWhereGranted, DenialsSayWhy, target_of, position_of}

module _ (account : Account) (units : UnitState) (sets : Sets) (p : ℕ) where
  -- what an act comes to at a unit that is tied so
  abbrev came : Act → Target → Acted
  came act target = acted_at account act units p target (looked (set_at act target) sets)

  abbrev after : Act → Target → Sets
  after act target = changed_at (set_at act target) (came act target).change sets

  -- the change that is asked of the set of this name, where that is granted
  abbrev Asked : Act → Target → List ℕ → Change → Type 0
  Asked act target name change = (set : DataSet) × (target ≡ Set name)
      × IsThere name sets set × IsGranted account set to_write × AsksChange act p set change

  abbrev Made : Act → Target → List ℕ → Change → Type 0
  Made act target name change = ((came act target).answer ≡ Done) × (after act target ≡ changed name (Some change) sets)

  -- what is granted is what is done
  granted_is : (act : acting.Act) (name : List ℕ) (set : DataSet) → IsThere name sets set → IsGranted account set (acting.asks act) → IsFor act set.mode
      → acted account act sets name ≡ acting.done act set
  granted_is act name set there granted for = (acts_where_granted account act sets name).done_where set there granted for

  made_by : (act : Act) (name : List ℕ) (change : Change) (position : Option ℕ) → set_at act (Set name) ≡ Some name
      → came act (Set name) ≡ record { answer = Done; position = position; change = Some change } → Made act (Set name) name change
  made_by act name change position looks e = (
    ap (λ (a : Acted). a.answer) e,
    ap (λ (a : Acted). changed_at (set_at act (Set name)) a.change sets) e ∙ ap (λ (o : Option (List ℕ)). changed_at o (Some change) sets) looks,
  )

  asked_is_made : (act : Act) (target : Target) (name : List ℕ) (change : Change) → Asked act target name change → Made act target name change
  asked_is_made act target name change h = subst (λ (t : Target). Made act t name change) (sym h.1) (by act h.4)
    where
      by : (a : Act) → AsksChange a p h.0 change → Made a (Set name) name change
      by (Read u) never = absurd never
      by (Rewind u) never = absurd never
      by (Write u line) is =
          let change = writing h.0.mode p line in
          subst (λ (c : Change). Made (Write u line) (Set name) name c) (sym is.1)
          (made_by (Write u line) name change (position_after change h.0.records) refl
          (granted_is (acting.Write p line) name h.0 h.2 h.3 tt ∙ ap (made change h.0.records) is.0))
      by (Endfile u) is =
          subst (λ (c : Change). Made (Endfile u) (Set name) name c) (sym is.1)
          (made_by (Endfile u) name (Cut p) _ refl
          (granted_is (acting.End p) name h.0 h.2 h.3 (subst (IsFor (acting.End p)) (sym is.0) tt) ∙ ap (λ (m : Mode). ended m p h.0.records) is.0))

  abbrev Either : Act → Target → Type 0
  Either act target = (after act target ≡ sets) ⊎ ((name : List ℕ) × (change : Change) × Asked act target name change)

  unread : (u : ℕ) (name : List ℕ) → (came (Read u) (Set name)).change ≡ None
  unread u name = acted_cases (λ a. a.change ≡ None) account (acting.Read p) (λ reason. refl) (λ set. by (slice_get set.records p)) (find_set name sets)
    where
      by : (o : Option (List ℕ)) → (read_at p o).change ≡ None
      by None = refl
      by (Some line) = refl

  wrote : (u : ℕ) (line name : List ℕ) → Either (Write u line) (Set name)
  wrote u line name = by (find_set name sets) refl
    where
      room : (set : DataSet) → find_set name sets ≡ Some set → decision_on account set to_write ≡ decision.Granted → (o : Option SetFull)
          → change_refusal (writing set.mode p line) set.records ≡ o
          → (changed name (made (writing set.mode p line) set.records o).change sets ≡ sets) ⊎ ((n : List ℕ) × (change : Change) × Asked (Write u line) (Set name) n change)
      room set there granted None is = inr (name, writing set.mode p line, (set, refl, there, granted, (is, refl)))
      room set there granted (Some full) is = inl refl

      decided : (set : DataSet) → find_set name sets ≡ Some set → (d : Decision) → decision_on account set to_write ≡ d
          → (changed name (or_denied (by_decision set.acl d (acting.done (acting.Write p line) set))).change sets ≡ sets)
          ⊎ ((n : List ℕ) × (change : Change) × Asked (Write u line) (Set name) n change)
      decided set there decision.Granted is = room set there is (change_refusal (writing set.mode p line) set.records) refl
      decided set there (decision.Denied decider) is = inl refl

      by : (o : Option DataSet) → find_set name sets ≡ o
          → (changed name (acted_on account (acting.Write p line) o).change sets ≡ sets) ⊎ ((n : List ℕ) × (change : Change) × Asked (Write u line) (Set name) n change)
      by None is = inl refl
      by (Some set) is = decided set is (decision_on account set to_write) refl

  finished : (u : ℕ) (name : List ℕ) → Either (Endfile u) (Set name)
  finished u name = by (find_set name sets) refl
    where
      decided : (set : DataSet) → find_set name sets ≡ Some set → (d : Decision) → decision_on account set to_write ≡ d
          → (changed name (or_denied (by_decision set.acl d (acting.done (acting.End p) set))).change sets ≡ sets)
          ⊎ ((n : List ℕ) × (change : Change) × Asked (Endfile u) (Set name) n change)
      decided set there decision.Granted is = mode set.mode refl
        where
          mode : (m : Mode) → set.mode ≡ m → (changed name (ended m p set.records).change sets ≡ sets) ⊎ ((n : List ℕ) × (change : Change) × Asked (Endfile u) (Set name) n change)
          mode Seq at = inr (name, Cut p, (set, refl, there, is, (at, refl)))
          mode Append at = inl refl
      decided set there (decision.Denied decider) is = inl refl

      by : (o : Option DataSet) → find_set name sets ≡ o
          → (changed name (acted_on account (acting.End p) o).change sets ≡ sets) ⊎ ((n : List ℕ) × (change : Change) × Asked (Endfile u) (Set name) n change)
      by None is = inl refl
      by (Some set) is = decided set is (decision_on account set to_write) refl

  either : (act : Act) (target : Target) → Either act target
  either act Untied = inl refl
  either act Data = inl refl
  either act Spool = inl refl
  either (Read u) (Set name) = inl (ap (λ (c : Option Change). changed name c sets) (unread u name))
  either (Write u line) (Set name) = wrote u line name
  either (Endfile u) (Set name) = finished u name
  either (Rewind u) (Set name) = inl refl

  -- why something is denied
  abbrev Why : Act → Target → Reason → Type 0
  Why act target reason =
      ((target ≡ Untied) × (reason ≡ NoUnit))
      ⊎ (((target ≡ Data) × (¬ IsOfData act) × (reason ≡ InStream))
      ⊎ (((target ≡ Spool) × (¬ IsOfSpool act) × (reason ≡ SpoolUnit))
      ⊎ ((name : List ℕ) × (a : acting.Act) × (target ≡ Set name) × AsksGuard act p a × WhyNotAct account a sets name reason)))

  abbrev IsDenied : Act → Target → Reason → Type 0
  IsDenied act target reason = (came act target).answer ≡ Denied reason

  same_reason : (one other : Reason) → Denied one ≡ Denied other → other ≡ one
  same_reason one other h = cc (h)

  read_is_none : (reason : Reason) (o : Option (List ℕ)) → ¬ ((read_at p o).answer ≡ Denied reason)
  read_is_none reason None h = absurd cc
  read_is_none reason (Some line) h = absurd cc

  by_guard : (act : Act) (name : List ℕ) (reason : Reason) (a : acting.Act) → AsksGuard act p a → came act (Set name) ≡ acted account a sets name
      → IsDenied act (Set name) reason → Why act (Set name) reason
  by_guard act name reason a asks same h =
      inr (inr (inr (
        name,
        a,
        refl,
        asks,
        ((acts_where_granted account a sets name).denied_where reason).0
            (sym same ∙ (is_plain account units p (looked (set_at act (Set name)) sets) act (Set name)).denied reason h),
      )))

  why : (act : Act) (target : Target) (reason : Reason) → IsDenied act target reason → Why act target reason
  why act Untied reason h = inl (refl, same_reason NoUnit reason h)
  why (Read u) Data reason h = absurd (read_is_none reason (slice_get units.deck p) h)
  why (Write u line) Data reason h = inr (inl (refl, (λ never. never), same_reason InStream reason h))
  why (Endfile u) Data reason h = inr (inl (refl, (λ never. never), same_reason InStream reason h))
  why (Rewind u) Data reason h = absurd cc
  why (Read u) Spool reason h = inr (inr (inl (refl, (λ never. never), same_reason SpoolUnit reason h)))
  why (Write u line) Spool reason h = absurd cc
  why (Endfile u) Spool reason h = inr (inr (inl (refl, (λ never. never), same_reason SpoolUnit reason h)))
  why (Rewind u) Spool reason h = absurd cc
  why (Read u) (Set name) reason h = by_guard (Read u) name reason (acting.Read p) refl refl h
  why (Write u line) (Set name) reason h = by_guard (Write u line) name reason (acting.Write p line) refl refl h
  why (Endfile u) (Set name) reason h = by_guard (Endfile u) name reason (acting.End p) refl refl h
  why (Rewind u) (Set name) reason h = absurd cc

  on_deck : (act : Act) → (¬ IsOfData act) → IsDenied act Data InStream
  on_deck (Read u) never = absurd (never tt)
  on_deck (Write u line) never = refl
  on_deck (Endfile u) never = refl
  on_deck (Rewind u) never = absurd (never tt)

  on_the_spool : (act : Act) → (¬ IsOfSpool act) → IsDenied act Spool SpoolUnit
  on_the_spool (Read u) never = refl
  on_the_spool (Write u line) never = absurd (never tt)
  on_the_spool (Endfile u) never = refl
  on_the_spool (Rewind u) never = absurd (never tt)

  abbrev Answers : List ℕ → Reason → acting.Act → Type 0
  Answers name reason b = (acted account b sets name).answer ≡ Denied reason

  on_the_set : (act : Act) (name : List ℕ) (reason : Reason) (a : acting.Act) → AsksGuard act p a → WhyNotAct account a sets name reason
      → IsDenied act (Set name) reason
  on_the_set act name reason a asks never = by act asks (ap (λ (x : Acted). x.answer) (((acts_where_granted account a sets name).denied_where reason).1 never))
    where
      by : (act : Act) → AsksGuard act p a → Answers name reason a → IsDenied act (Set name) reason
      by (Read u) is h = subst (Answers name reason) is h
      by (Write u line) is h = subst (Answers name reason) is h
      by (Endfile u) is h = subst (Answers name reason) is h
      by (Rewind u) is h = absurd is

  denied_so : (act : Act) (target : Target) (reason : Reason) → Why act target reason → IsDenied act target reason
  denied_so act target reason (inl h) =
      subst (λ (t : Target). IsDenied act t reason) (sym h.0) (ap (λ (r : Reason). Denied r) (sym h.1))
  denied_so act target reason (inr (inl h)) =
      subst (λ (t : Target). IsDenied act t reason) (sym h.0) (on_deck act h.1 ∙ ap (λ (r : Reason). Denied r) (sym h.2))
  denied_so act target reason (inr (inr (inl h))) =
      subst (λ (t : Target). IsDenied act t reason) (sym h.0) (on_the_spool act h.1 ∙ ap (λ (r : Reason). Denied r) (sym h.2))
  denied_so act target reason (inr (inr (inr h))) =
      subst (λ (t : Target). IsDenied act t reason) (sym h.2) (on_the_set act h.0 reason h.1 h.3 h.4)

pub changed_where_granted : ChangedWhereGranted
changed_where_granted account reach q = record {
  where_asked = λ name change h. asked_is_made account reach.units reach.sets (position_of reach.units q) q.act (target_of reach.units q) name change h;
  else_none = either account reach.units reach.sets (position_of reach.units q) q.act (target_of reach.units q);
}

pub denials_say_why : DenialsSayWhy
denials_say_why account reach q reason = (
  why account reach.units reach.sets (position_of reach.units q) q.act (target_of reach.units q) reason,
  denied_so account reach.units reach.sets (position_of reach.units q) q.act (target_of reach.units q) reason,
)
