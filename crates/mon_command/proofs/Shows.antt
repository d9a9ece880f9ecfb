-- Records, lists and names are shown exactly where they may be, and every denial says why.
use Rattle.std.proofs.Common.{◌≡◌, ◌≢◌, ◌++◌, ◌∷◌, ℕ, List, Option, Some, None, Result, Ok, Err, sym, ap, ◌∙◌}
use Rattle.mon_access.specs.{declared.account.Account.{Account}, Accounts.{find_account}}
use Rattle.mon_acl.specs.declared.{refusals.AclError.{AclError}, entries.Entry.{Entry}}
use Rattle.mon_catalogue.specs.{declared.catalogue.CreateError.{CreateError}, Sets.{Sets}}
use Rattle.mon_catalogue.specs.declared.catalogue.CreateError.TheVariants as create
use Rattle.interaction.specs.declared.answer.Reason.{Reason}
use Rattle.acl_text.specs.{declared.text.AclText.{AclText}, Forms.{list_of_text}}
use Rattle.mon_guard.specs.{Views.{AclPart, records_lent, acl_lent, names_lent}, Owning.{owner_denial, created}, inner.Parts.{given, acl_set_unless}}
use Rattle.mon_guard.proofs.Shorthand.{removed_unless}
use Rattle.mon_guard.specs.Laws as guard
use Rattle.deck_lines.specs.declared.command.Command.{Command, TheVariants.{Create, Delete, SetAcl, ShowAcl, List as Listing, Catalog}}
use Rattle.mon_command.{specs.declared.reply.Reply.TheVariants.{Done, Denied, NameTaken, CatalogueFull, BadList}, proofs.Changed.{answered_known}}
use Rattle.mon_command.{specs.Laws.{ShowsWhereGranted, HiddenSetsHaveNoEffect, IsWhy, DenialsSayWhy}, proofs.Shorthand.{served_if_known, printed_as}}
use Rattle.mon_command.specs.Commanded.{Answer, Told, Records, Shown, Names, Served, creation_reply, removal_reply, acl_reply, shown_as, served, printed, commanded}

records_from : (r : Result (List (List ℕ)) Reason) (records : List (List ℕ)) → shown_as Records r ≡ Records records → r ≡ Ok records
records_from (Ok lent) records h = let same : Records lent ≡ Records records = h in cc
records_from (Err reason) records h = absurd (let no : Told (Denied reason) ≡ Records records = h in cc)

list_from : (r : Result AclPart Reason) (list : AclPart) → shown_as Shown r ≡ Shown list → r ≡ Ok list
list_from (Ok lent) list h = let same : Shown lent ≡ Shown list = h in cc
list_from (Err reason) list h = absurd (let no : Told (Denied reason) ≡ Shown list = h in cc)

pub shows_where_granted : guard.LendsWhereGranted → ShowsWhereGranted
shows_where_granted lends accounts sets account by name known = record {
  records = λ records. (
    (λ h. ((lends account sets name).records records).0 (records_from (records_lent account sets name) records (sym (at (Listing by name)) ∙ h))),
    (λ h. at (Listing by name) ∙ ap (shown_as Records) (((lends account sets name).records records).1 h)),
  );
  list = λ list. (
    (λ h. ((lends account sets name).list list).0 (list_from (acl_lent account sets name) list (sym (at (ShowAcl by name)) ∙ h))),
    (λ h. at (ShowAcl by name) ∙ ap (shown_as Shown) (((lends account sets name).list list).1 h)),
  );
  names = at (Catalog by);
}
  where
    at : (command : Command) → (served_if_known (find_account accounts by) command sets).answer ≡ (served account command sets).answer
    at command = ap (λ o. (served_if_known o command sets).answer) known

pub hidden_sets_have_no_effect : guard.HiddenSetsLeaveNoTrace → HiddenSetsHaveNoEffect
hidden_sets_have_no_effect no_trace accounts by account known = record {
  alike = alike;
  left_out = λ before after hidden not. alike (before ++ hidden ∷ after) (before ++ after) (no_trace account before after hidden not);
}
  where
    printed_for : (sets : Sets) → (commanded accounts sets (Catalog by)).printout ≡ printed (Catalog by) (Names (names_lent account sets))
    printed_for sets = ap (λ o. (printed_as (Catalog by) (served_if_known o (Catalog by) sets)).printout) known

    alike : (sets others : Sets) → names_lent account sets ≡ names_lent account others
        → (commanded accounts sets (Catalog by)).printout ≡ (commanded accounts others (Catalog by)).printout
    alike sets others same = printed_for sets ∙ ap (λ names. printed (Catalog by) (Names names)) same ∙ sym (printed_for others)

module _ (reason : Reason) where
  created_not : (r : Result (Unit {0}) CreateError) → Told (creation_reply r) ≢ Told (Denied reason)
  created_not (Ok u) h = let no : Told Done ≡ Told (Denied reason) = h in cc
  created_not (Err create.NameTaken) h = let no : Told NameTaken ≡ Told (Denied reason) = h in cc
  created_not (Err create.CatalogueFull) h = let no : Told CatalogueFull ≡ Told (Denied reason) = h in cc

  removal_denied : (r : Option Reason) (sets : Sets) (name : List ℕ) → Told (removal_reply (removed_unless r sets name).0) ≡ Told (Denied reason) → r ≡ Some reason
  removal_denied (Some other) sets name h = let same : Told (Denied other) ≡ Told (Denied reason) = h in cc
  removal_denied None sets name h = absurd (let no : Told Done ≡ Told (Denied reason) = h in cc)

  given_not : (l : Result (List Entry) AclError) (sets : Sets) (name : List ℕ) → Told (acl_reply (given l sets name).0) ≢ Told (Denied reason)
  given_not (Ok list) sets name h = let no : Told Done ≡ Told (Denied reason) = h in cc
  given_not (Err error) sets name h = let no : Told (BadList error) ≡ Told (Denied reason) = h in cc

  list_denied : (r : Option Reason) (sets : Sets) (name : List ℕ) (text : AclText) → Told (acl_reply (acl_set_unless r sets name text).0) ≡ Told (Denied reason) → r ≡ Some reason
  list_denied (Some other) sets name text h = let same : Told (Denied other) ≡ Told (Denied reason) = h in cc
  list_denied None sets name text h = absurd (given_not (list_of_text text) sets name h)

  shown_denied : {A : Type 0} (show : A → Answer) → ((x : A) → show x ≢ Told (Denied reason)) → (r : Result A Reason)
      → shown_as show r ≡ Told (Denied reason) → r ≡ Err reason
  shown_denied show not (Ok lent) h = absurd (not lent h)
  shown_denied show not (Err other) h = let same : Told (Denied other) ≡ Told (Denied reason) = h in cc

  module _ (says : guard.DenialsSayWhy) (account : Account) (sets : Sets) where
    from : (command : Command) → (served account command sets).answer ≡ Told (Denied reason) → IsWhy account command sets reason
    from (Create _ name mode) h = created_not (created account sets name mode).0 h
    from (Delete _ name) h = (says account sets name reason).owner.0 (removal_denied (owner_denial account sets name) sets name h)
    from (SetAcl _ name text) h = (says account sets name reason).owner.0 (list_denied (owner_denial account sets name) sets name text h)
    from (ShowAcl _ name) h =
        (says account sets name reason).list.0
        (shown_denied Shown (λ list e. let no : Shown list ≡ Told (Denied reason) = e in cc) (acl_lent account sets name) h)
    from (Listing _ name) h =
        (says account sets name reason).records.0
        (shown_denied Records (λ records e. let no : Records records ≡ Told (Denied reason) = e in cc) (records_lent account sets name) h)
    from (Catalog _) h = let no : Names (names_lent account sets) ≡ Told (Denied reason) = h in cc

    so : (command : Command) → IsWhy account command sets reason → (served account command sets).answer ≡ Told (Denied reason)
    so (Create _ name mode) h = absurd h
    so (Delete _ name) h = ap (λ r. Told (removal_reply (removed_unless r sets name).0)) ((says account sets name reason).owner.1 h)
    so (SetAcl _ name text) h = ap (λ r. Told (acl_reply (acl_set_unless r sets name text).0)) ((says account sets name reason).owner.1 h)
    so (ShowAcl _ name) h = ap (shown_as Shown) ((says account sets name reason).list.1 h)
    so (Listing _ name) h = ap (shown_as Records) ((says account sets name reason).records.1 h)
    so (Catalog _) h = absurd h

pub denials_say_why : guard.DenialsSayWhy → DenialsSayWhy
denials_say_why says accounts sets command account reason known =
    let same = ap (λ (s : Served). s.answer) (answered_known accounts sets command account known) in
    ((λ h. from reason says account sets command (sym same ∙ h)), (λ h. same ∙ so reason says account sets command h))
