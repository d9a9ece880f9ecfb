-- What acts come to, case by case.
use Rattle.std.proofs.Common.{◌≡◌, ℕ, ◌+◌, List, Option, None, Some, refl, ap, slice_get}
use Rattle.mon_access.specs.declared.{account.Account.{Account}, access.Decision.{Decision}}
use Rattle.mon_access.specs.declared.access.Decision.TheVariants as decision
use Rattle.mon_catalogue.specs.declared.{mode.Mode.{Mode}, mode.Mode.TheVariants.{Seq, Append}, data_set.DataSet.{DataSet}}
use Rattle.mon_catalogue.specs.{declared.data_set.SetFull.{SetFull}, Writing.{Change, writing, change_refusal}}
use Rattle.interaction.specs.declared.answer.Reason.{Reason, TheVariants.{NoSet, NoUnit, InStream, SpoolUnit, Mode as WrongMode}}
use Rattle.interaction.specs.declared.request.Act.{Act, TheVariants.{Read, Write, Endfile, Rewind}}
use Rattle.mon_guard.specs.{Deciding.{decision_on}, inner.Parts.{by_decision, position_after, ended, or_denied}, Reasons.{reason_of}}
use Rattle.mon_guard.{specs.Acting.{Acted, only_answered, read_at, changing, asks, done, acted_on}, proofs.Shorthand.{made}}
use Rattle.mon_guard.specs.Acting as acting
use Rattle.interaction.specs.declared.answer.Answer.TheVariants as answer
use Rattle.mon_unit.specs.{declared.tie.Target.{Target}, declared.tie.Target.TheVariants.{Untied, Data, Spool, Set}, State.{UnitState}}
use Rattle.mon_unit.{specs.Tying.{tie_at}, specs.Serving.{acted_at, moved}, specs.inner.Settling.{placed_by}, proofs.Ties.{still_placed}}

-- it is denied, or what is granted is done
pub acted_cases : (P : Acted → Type 0) (account : Account) (act : acting.Act)
    → ((reason : Reason) → P (only_answered (answer.Denied reason))) → ((set : DataSet) → P (done act set))
    → (set : Option DataSet) → P (acted_on account act set)
acted_cases P account act denied doing None = denied NoSet
acted_cases P account act denied doing (Some set) = by (decision_on account set (asks act))
  where
    by : (d : Decision) → P (or_denied (by_decision set.acl d (done act set)))
    by decision.Granted = doing set
    by (decision.Denied decider) = denied (reason_of set.acl decider)

-- what anything done can come to
pub record Outcomes (P : Acted → Type 0) : Type 0 where
  pub past : P (only_answered answer.EndOfFile)
  pub full : P (only_answered answer.Full)
  pub mode : P (only_answered (answer.Denied WrongMode))
  pub got : (line : List ℕ) (position : ℕ) → P (record { answer = answer.Got line; position = Some position; change = None })
  pub changes : (position : Option ℕ) (change : Change) → P (record { answer = answer.Done; position = position; change = Some change })

pub changing_cases : (P : Acted → Type 0) → Outcomes P → (change : Change) (records : List (List ℕ)) → P (changing change records)
changing_cases P all change records = by (change_refusal change records)
  where
    by : (o : Option SetFull) → P (made change records o)
    by None = all.changes (position_after change records) change
    by (Some full) = all.full

pub done_cases : (P : Acted → Type 0) → Outcomes P → (act : acting.Act) (set : DataSet) → P (done act set)
done_cases P all (acting.Read p) set = by (slice_get set.records p)
  where
    by : (o : Option (List ℕ)) → P (read_at p o)
    by None = all.past
    by (Some line) = all.got line (p + 1)
done_cases P all (acting.Write p line) set = changing_cases P all (writing set.mode p line) set.records
done_cases P all (acting.End p) set = by set.mode
  where
    by : (mode : Mode) → P (ended mode p set.records)
    by Seq = all.changes _ _
    by Append = all.mode

-- what is denied, what has no room and what is past the end comes to nothing else
pub record IsPlain (a : Acted) : Type 0 where
  pub denied : (reason : Reason) → a.answer ≡ answer.Denied reason → a ≡ only_answered (answer.Denied reason)
  pub full : a.answer ≡ answer.Full → a ≡ only_answered answer.Full
  pub past : a.answer ≡ answer.EndOfFile → a ≡ only_answered answer.EndOfFile

plain_denied : (why : Reason) → IsPlain (only_answered (answer.Denied why))
plain_denied why = record {
  denied = λ reason h. ap (λ (r : Reason). only_answered (answer.Denied r)) (cc (h));
  full = λ h. absurd cc;
  past = λ h. absurd cc;
}

plain_full : IsPlain (only_answered answer.Full)
plain_full = record { denied = λ reason h. absurd cc; full = λ h. refl; past = λ h. absurd cc }

plain_past : IsPlain (only_answered answer.EndOfFile)
plain_past = record { denied = λ reason h. absurd cc; full = λ h. absurd cc; past = λ h. refl }

plain_got : (line : List ℕ) (position : ℕ) → IsPlain (record { answer = answer.Got line; position = Some position; change = None })
plain_got line position = record { denied = λ reason h. absurd cc; full = λ h. absurd cc; past = λ h. absurd cc }

plain_done : (position : Option ℕ) (change : Option Change) → IsPlain (record { answer = answer.Done; position = position; change = change })
plain_done position change = record { denied = λ reason h. absurd cc; full = λ h. absurd cc; past = λ h. absurd cc }

plain_on : (account : Account) (act : acting.Act) (set : Option DataSet) → IsPlain (acted_on account act set)
plain_on account act set = acted_cases IsPlain account act plain_denied (done_cases IsPlain (record {
  past = plain_past;
  full = plain_full;
  mode = plain_denied WrongMode;
  got = plain_got;
  changes = λ position change. plain_done position (Some change);
}) act) set

plain_read : (p : ℕ) (o : Option (List ℕ)) → IsPlain (read_at p o)
plain_read p None = plain_past
plain_read p (Some line) = plain_got line (p + 1)

module _ (account : Account) (units : UnitState) (p : ℕ) (set : Option DataSet) where
  pub is_plain : (act : Act) (target : Target) → IsPlain (acted_at account act units p target set)
  is_plain act Untied = plain_denied NoUnit
  is_plain (Read u) Data = plain_read p (slice_get units.deck p)
  is_plain (Write u line) Data = plain_denied InStream
  is_plain (Endfile u) Data = plain_denied InStream
  is_plain (Rewind u) Data = plain_done (Some 0) None
  is_plain (Read u) Spool = plain_denied SpoolUnit
  is_plain (Write u line) Spool = plain_done None None
  is_plain (Endfile u) Spool = plain_denied SpoolUnit
  is_plain (Rewind u) Spool = plain_done None None
  is_plain (Read u) (Set name) = plain_on account (acting.Read p) set
  is_plain (Write u line) (Set name) = plain_on account (acting.Write p line) set
  is_plain (Endfile u) (Set name) = plain_on account (acting.End p) set
  is_plain (Rewind u) (Set name) = plain_done (Some 0) None

-- what the guard told is kept as it moved
abbrev Kept : UnitState → ℕ → Acted → Type 0
Kept units u a = placed_by a.answer u (acting.moved (tie_at units u).position a.position) units ≡ moved u a.position units

done_kept : (units : UnitState) (u : ℕ) (position : Option ℕ) (change : Change) → Kept units u (record { answer = answer.Done; position = position; change = Some change })
done_kept units u None change = still_placed units u
done_kept units u (Some position) change = refl

pub settles : (account : Account) (units : UnitState) (u : ℕ) (act : acting.Act) (set : Option DataSet) → Kept units u (acted_on account act set)
settles account units u act set = acted_cases (Kept units u) account act (λ reason. refl) (done_cases (Kept units u) (record {
  past = refl;
  full = refl;
  mode = refl;
  got = λ line position. refl;
  changes = λ position change. done_kept units u position change;
}) act) set
