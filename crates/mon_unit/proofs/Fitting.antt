-- Each answer of a service fits what was asked.
use Rattle.std.proofs.Common.{ℕ, List, Option, Some, None, refl, slice_get}
use Rattle.std.specs.Prelude.{IsTrue}
use Rattle.interaction.specs.{Fitting.{fits, Fits}, declared.request.Act.{Act}, declared.request.Act.TheVariants.{Read, Write, Endfile, Rewind}}
use Rattle.interaction.specs.declared.{request.Request.{Request}, answer.Answer.TheVariants.{Denied}, answer.Reason.{Reason}}
use Rattle.interaction.specs.declared.answer.Reason.TheVariants.{InStream}
use Rattle.mon_acl.specs.declared.entries.Entry as acl
use Rattle.mon_access.specs.declared.{account.Account.{Account}, access.Decision.{Decision}}
use Rattle.mon_access.specs.declared.access.Decision.TheVariants as decision
use Rattle.mon_catalogue.specs.declared.{mode.Mode.{Mode}, mode.Mode.TheVariants.{Seq, Append}, data_set.DataSet.{DataSet}}
use Rattle.mon_catalogue.specs.{declared.data_set.SetFull.{SetFull}, Writing.{Change, writing, change_refusal}}
use Rattle.mon_guard.specs.{Deciding.{decision_on, to_read, to_write}, inner.Parts.{by_decision, ended, or_denied}, Acting.{Acted, read_at, only_answered}}
use Rattle.mon_guard.proofs.Shorthand.{made}
use Rattle.mon_guard.specs.Acting as acting
use Rattle.mon_unit.specs.{declared.tie.Target.{Target}, declared.tie.Target.TheVariants.{Untied, Data, Spool, Set}, State.{UnitState}}
use Rattle.mon_unit.{specs.Serving.{Reach, serve, rewound, acted_at, on_set, set_of}, specs.Laws.{target_of, position_of}, proofs.Shorthand.{looked}}

denied_fits : (act : Act) (reason : Reason) → IsTrue (fits act (Denied reason))
denied_fits (Read u) reason = refl
denied_fits (Write u line) reason = refl
denied_fits (Endfile u) reason = refl
denied_fits (Rewind u) reason = refl

abbrev FitsAct : Act → Acted → Type 0
FitsAct act a = IsTrue (fits act a.answer)

decided_fits : (act : Act) (a : Acted) → FitsAct act a → (entries : List acl.Entry) (d : Decision) → FitsAct act (or_denied (by_decision entries d a))
decided_fits act a h entries decision.Granted = h
decided_fits act a h entries (decision.Denied decider) = denied_fits act _

read_fits : (u p : ℕ) (o : Option (List ℕ)) → FitsAct (Read u) (read_at p o)
read_fits u p None = refl
read_fits u p (Some line) = refl

write_fits : (u : ℕ) (line : List ℕ) (change : Change) (records : List (List ℕ)) (o : Option SetFull) → FitsAct (Write u line) (made change records o)
write_fits u line change records None = refl
write_fits u line change records (Some full) = refl

end_fits : (u p : ℕ) (records : List (List ℕ)) (mode : Mode) → FitsAct (Endfile u) (ended mode p records)
end_fits u p records Seq = refl
end_fits u p records Append = refl

set_fits : (account : Account) (act : Act) (p : ℕ) (set : Option DataSet) → FitsAct act (on_set account act p set)
set_fits account (Read u) p None = refl
set_fits account (Write u line) p None = refl
set_fits account (Endfile u) p None = refl
set_fits account (Rewind u) p None = refl
set_fits account (Read u) p (Some set) =
    decided_fits (Read u) (acting.done (acting.Read p) set) (read_fits u p (slice_get set.records p)) set.acl (decision_on account set to_read)
set_fits account (Write u line) p (Some set) =
    let change = writing set.mode p line in
    decided_fits (Write u line) (acting.done (acting.Write p line) set) (write_fits u line change set.records (change_refusal change set.records)) set.acl (decision_on account set to_write)
set_fits account (Endfile u) p (Some set) =
    decided_fits (Endfile u) (acting.done (acting.End p) set) (end_fits u p set.records set.mode) set.acl (decision_on account set to_write)
set_fits account (Rewind u) p (Some set) = refl

abbrev on_data : Act → ℕ → List (List ℕ) → Acted
on_data act position deck = elim act [ Read u ↦ read_at position (slice_get deck position) | Rewind u ↦ rewound | other ↦ only_answered (Denied InStream) ]

data_fits : (act : Act) (p : ℕ) (deck : List (List ℕ)) → FitsAct act (on_data act p deck)
data_fits (Read u) p deck = read_fits u p (slice_get deck p)
data_fits (Write u line) p deck = refl
data_fits (Endfile u) p deck = refl
data_fits (Rewind u) p deck = refl

acts_fit : (account : Account) (act : Act) (units : UnitState) (p : ℕ) (target : Target) (set : Option DataSet) → FitsAct act (acted_at account act units p target set)
acts_fit account act units p Untied set = denied_fits act _
acts_fit account act units p Data set = data_fits act p units.deck
acts_fit account (Read u) units p Spool set = refl
acts_fit account (Write u line) units p Spool set = refl
acts_fit account (Endfile u) units p Spool set = refl
acts_fit account (Rewind u) units p Spool set = refl
acts_fit account act units p (Set name) set = set_fits account act p set

pub serve_fits : (account : Account) (reach : Reach) (q : Request) → Fits q (serve account reach q).0
serve_fits account reach q =
    acts_fit account q.act reach.units (position_of reach.units q) (target_of reach.units q) (looked (set_of reach.units q) reach.sets)
