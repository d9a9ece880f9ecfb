-- The data sets change exactly where a change is asked and granted, and no other set than the one that is named.
use Rattle.std.proofs.Common.{◌≡◌, ◌≢◌, ℕ, List, [], Option, Some, None, Result, Ok, Err, refl, sym, ap, ◌∙◌}
use Rattle.mon_access.specs.{declared.account.Account.{Account}, Accounts.{find_account}}
use Rattle.mon_catalogue.specs.{declared.catalogue.CreateError.{CreateError}, Sets.{Sets, find_set}}
use Rattle.mon_catalogue.specs.declared.catalogue.CreateError.TheVariants as create
use Rattle.interaction.specs.declared.answer.Reason.{Reason}
use Rattle.mon_guard.specs.{declared.answer.AclAnswer.{AclAnswer}, Views.{records_lent, acl_lent, names_lent}, Owning.{removed, acl_set, created}}
use Rattle.mon_guard.specs.declared.answer.AclAnswer.TheVariants as acl
use Rattle.acl_text.specs.declared.text.AclText.{AclText, TheVariants.{Short}}
use Rattle.mon_guard.specs.Laws as guard
use Rattle.deck_lines.specs.{declared.command.Command.{Command}, Commands.{account_of}}
use Rattle.deck_lines.specs.declared.command.Command.TheVariants.{Create, Delete, SetAcl, ShowAcl, List as Listing, Catalog}
use Rattle.mon_command.specs.declared.reply.Reply.{Reply, TheVariants.{Done, Denied, NameTaken, CatalogueFull, BadList}}
use Rattle.mon_command.{specs.Laws.{IsKnown, Changes, done, ChangesWhereGranted, IsNamed, OtherSetsStay}, proofs.Shorthand.{served_if_known}}
use Rattle.mon_command.specs.Commanded.{Answer, Told, Records, Shown, Names, Served, told_by, creation_reply, removal_reply, acl_reply, shown_as, served, answered}

pub answered_known : (accounts : List Account) (sets : Sets) (command : Command) (account : Account) → IsKnown accounts command account
    → answered accounts sets command ≡ served account command sets
answered_known accounts sets command account known = ap (λ o. served_if_known o command sets) known

-- an act is told that it is done exactly where it is
module _ {A : Type 0} (reply : A → Reply) (act : A) (is_done : reply act ≡ Done) (only : (other : A) → reply other ≡ Done → other ≡ act) where
  told_done : (outcome : A × Sets) (after : Sets) → outcome ≡ (act, after) → told_by reply outcome ≡ done after
  told_done outcome after h = ap (told_by reply) h ∙ ap (λ r. record { answer = Told r; sets = after }) is_done

  done_told : (outcome : A × Sets) (after : Sets) → told_by reply outcome ≡ done after → outcome ≡ (act, after)
  done_told (other, left) after h =
      let told : Told (reply other) ≡ Told Done = ap (λ (s : Served). s.answer) h in
      let same : reply other ≡ Done = cc in
      ap (λ x. (x, left)) (only other same) ∙ ap (λ s. (act, s)) (ap (λ (s : Served). s.sets) h)

  kept_told : (outcome : A × Sets) (sets : Sets) → (outcome.0 ≢ act → outcome.1 ≡ sets) → (told_by reply outcome).answer ≢ Told Done → outcome.1 ≡ sets
  kept_told outcome sets kept not = kept (λ same. not (ap (λ x. Told (reply x)) same ∙ ap Told is_done))

only_created : (r : Result (Unit {0}) CreateError) → creation_reply r ≡ Done → r ≡ Ok tt
only_created (Ok u) h = refl
only_created (Err create.NameTaken) h = absurd (let no : NameTaken ≡ Done = h in cc)
only_created (Err create.CatalogueFull) h = absurd (let no : CatalogueFull ≡ Done = h in cc)

only_removed : (r : Result (Unit {0}) Reason) → removal_reply r ≡ Done → r ≡ Ok tt
only_removed (Ok u) h = refl
only_removed (Err reason) h = absurd (let no : Denied reason ≡ Done = h in cc)

only_set : (a : AclAnswer) → acl_reply a ≡ Done → a ≡ acl.Done
only_set acl.Done h = refl
only_set (acl.Denied reason) h = absurd (let no : Denied reason ≡ Done = h in cc)
only_set (acl.BadList error) h = absurd (let no : BadList error ≡ Done = h in cc)

-- what is shown is not told to be done
shown_not : {A : Type 0} (show : A → Answer) (r : Result A Reason) → ((x : A) → show x ≢ Told Done) → shown_as show r ≢ Told Done
shown_not show (Ok lent) not h = not lent h
shown_not show (Err reason) not h = let no : Told (Denied reason) ≡ Told Done = h in cc

module _ (removes : guard.OwnersRemove) (sets_lists : guard.OwnersSetLists) (creates : guard.MakersOwn) (account : Account) (sets : Sets) where
  list_not : (name : List ℕ) → shown_as Shown (acl_lent account sets name) ≢ Told Done
  list_not name = shown_not Shown (acl_lent account sets name) (λ list h. let no : Shown list ≡ Told Done = h in cc)

  records_not : (name : List ℕ) → shown_as Records (records_lent account sets name) ≢ Told Done
  records_not name = shown_not Records (records_lent account sets name) (λ records h. let no : Records records ≡ Told Done = h in cc)

  names_not : Names (names_lent account sets) ≢ Told Done
  names_not h = let no : Names (names_lent account sets) ≡ Told Done = h in cc

  changed : (command : Command) (after : Sets) → Changes account command sets after → served account command sets ≡ done after
  changed (Create _ name mode) after h = told_done creation_reply (Ok tt) refl only_created (created account sets name mode) after (((creates account sets name mode).done_where after).1 h)
  changed (Delete _ name) after h = told_done removal_reply (Ok tt) refl only_removed (removed account sets name) after (((removes account sets name).done_where after).1 h)
  changed (SetAcl _ name text) after h =
      told_done acl_reply acl.Done refl only_set (acl_set account sets name text) after (((sets_lists account sets name text).done_where after).1 h)
  changed (ShowAcl _ name) after h = absurd h
  changed (Listing _ name) after h = absurd h
  changed (Catalog _) after h = absurd h

  asked : (command : Command) (after : Sets) → served account command sets ≡ done after → Changes account command sets after
  asked (Create _ name mode) after h = ((creates account sets name mode).done_where after).0 (done_told creation_reply (Ok tt) refl only_created (created account sets name mode) after h)
  asked (Delete _ name) after h = ((removes account sets name).done_where after).0 (done_told removal_reply (Ok tt) refl only_removed (removed account sets name) after h)
  asked (SetAcl _ name text) after h =
      ((sets_lists account sets name text).done_where after).0 (done_told acl_reply acl.Done refl only_set (acl_set account sets name text) after h)
  asked (ShowAcl _ name) after h = list_not name (ap (λ (s : Served). s.answer) h)
  asked (Listing _ name) after h = records_not name (ap (λ (s : Served). s.answer) h)
  asked (Catalog _) after h = names_not (ap (λ (s : Served). s.answer) h)

  kept : (command : Command) → (served account command sets).answer ≢ Told Done → (served account command sets).sets ≡ sets
  kept (Create _ name mode) not = kept_told creation_reply (Ok tt) refl only_created (created account sets name mode) sets (creates account sets name mode).kept not
  kept (Delete _ name) not = kept_told removal_reply (Ok tt) refl only_removed (removed account sets name) sets (removes account sets name).kept not
  kept (SetAcl _ name text) not = kept_told acl_reply acl.Done refl only_set (acl_set account sets name text) sets (sets_lists account sets name text).kept not
  kept (ShowAcl _ name) not = refl
  kept (Listing _ name) not = refl
  kept (Catalog _) not = refl

pub changes_where_granted : guard.OwnersRemove → guard.OwnersSetLists → guard.MakersOwn → ChangesWhereGranted
changes_where_granted removes sets_lists creates accounts sets command = record {
  changed = λ account after known. (
    (λ h. asked removes sets_lists creates account sets command after (sym (answered_known accounts sets command account known) ∙ h)),
    (λ h. answered_known accounts sets command account known ∙ changed removes sets_lists creates account sets command after h),
  );
  kept = by (find_account accounts (account_of command));
  unknown = λ none. ap (λ o. served_if_known o command sets) none;
}
  where
    by : (o : Option Account) → (served_if_known o command sets).answer ≢ Told Done → (served_if_known o command sets).sets ≡ sets
    by None not = refl
    by (Some account) not = kept removes sets_lists creates account sets command not

module _ (stays : guard.OtherSetsStay) (account : Account) (sets : Sets) (other : List ℕ) where
  -- a text, where the law speaks of one
  short : AclText
  short = Short []

  others : (command : Command) → (¬ IsNamed command other) → find_set other (served account command sets).sets ≡ find_set other sets
  others (Create _ name mode) not = (stays account sets name other short not).2 mode
  others (Delete _ name) not = (stays account sets name other short not).0
  others (SetAcl _ name text) not = (stays account sets name other text not).1
  others (ShowAcl _ name) not = refl
  others (Listing _ name) not = refl
  others (Catalog _) not = refl

pub other_sets_stay : guard.OtherSetsStay → OtherSetsStay
other_sets_stay stays accounts sets command other not = by (find_account accounts (account_of command))
  where
    by : (o : Option Account) → find_set other (served_if_known o command sets).sets ≡ find_set other sets
    by None = refl
    by (Some account) = others stays account sets other command not
