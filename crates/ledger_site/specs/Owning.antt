-- Whose the boxes are (own): each user of the tables has one, and may hand in what the limits say.
use Rattle.std.specs.Prelude.{ℕ, List, []}
use Rattle.preflight.specs.declared.quota.Quota.{Quota}
use Rattle.preflight.specs.declared.tally.Tally.{Tally}
use Rattle.preflight.specs.Tallies.{tally_of}
use Rattle.site_plan.specs.declared.users.User.{User}
use Rattle.ledger_tables.specs.declared.limits.Limits.{Limits}
use Rattle.ledger_boxes.specs.declared.admission.Owner.{Owner}

-- whose a box is, what may be handed in there, and what was
pub record Served : Type 0 where
  pub account : List ℕ
  pub uid : ℕ
  pub quota : Quota
  pub texts : ℕ
  pub tally : Tally

abbrev pub seen_owner : Owner → Served
seen_owner owner = record { account = owner.account; uid = owner.uid; quota = owner.quota; texts = owner.handed.texts; tally = owner.handed.tally }

-- of a user, before anything is handed in
abbrev pub served_for : Limits → User → Served
served_for limits user = record { account = user.account; uid = user.uid; quota = limits.quota; texts = 0; tally = tally_of [] 0 }
