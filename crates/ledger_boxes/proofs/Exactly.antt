-- A file is taken exactly where it is one of its user alone, within the limit, of whole cards of his account, and light enough.
use Rattle.std.proofs.Common.{◌≡◌, ◌≤◌, ◌<◌, ℕ, Bool, true, false, not, nat_lt, List, [], ◌∷◌, length, Option, Some, None, if◌then◌else◌, refl, sym, ap, ◌∙◌, subst, true≢false, arith}
use Rattle.std.{specs.Option.{option_map_or}, specs.Str.Lines.{lines}, proofs.lemmas.Bool.Decides.{nat_tests}}
use Rattle.deck_syntax.specs.Decks.{Asked}
use Rattle.preflight.specs.{declared.tally.Tally.{Tally}, Examined.{IsSubmission, Verdict, Admits, Refuses as RefusesLine, IsVerdict}, Laws.{OneVerdict}}
use Rattle.preflight.specs.Tallies.{tally_of}
use Rattle.site_plan.specs.{declared.reason.Reason.{Reason}, Tables.{ended_lines}, Weighing.{weighed}}
use Rattle.site_plan.specs.declared.reason.Reason.TheVariants as reason
use Rattle.ledger_boxes.specs.declared.{look.Look.{Look}, admission.Owner.{Owner}}
use Rattle.ledger_boxes.specs.Admission.{Decided, Takes, Refuses, is_own, why_unread, text_for, refused, weighed_text, decided_by, decided_on, decision, IsSaidOf, IsTaken, TakesExactly}

-- ---- what is taken is not refused

abbrev taken_text : Decided → List ℕ
taken_text (Takes text tally) = text
taken_text (Refuses reply) = []

abbrev taken_tally : Tally → Decided → Tally
taken_tally other (Takes text tally) = tally
taken_tally other (Refuses reply) = other

abbrev takes : Decided → Bool
takes (Takes text tally) = true
takes (Refuses reply) = false

module _ (owner : Owner) (name : List ℕ) (text : List ℕ) (tally : Tally) where
  abbrev IsIt : Decided → Type 0
  IsIt decided = decided ≡ Takes text tally

  never : {A : Type 0} (reply : List ℕ) → IsIt (Refuses reply) → A
  never reply is = absurd (true≢false (sym (ap takes is)))

  -- of what was examined
  light : (bytes : List ℕ) (its : Tally) (why : Option Reason) → weighed owner.quota owner.handed its ≡ why
      → IsIt (option_map_or (refused owner name bytes) why (Takes (text_for owner.account (lines bytes)) its))
      → (weighed owner.quota owner.handed its ≡ None) × ((tally ≡ its) × (text ≡ text_for owner.account (lines bytes)))
  light bytes its None e is = (e, (sym (ap (taken_tally its) is), sym (ap taken_text is)))
  light bytes its (Some why) e is = never _ is

  read_so : (bytes : List ℕ) (verdict : Verdict) → IsVerdict owner.account (lines bytes) verdict → IsIt (decided_by owner name bytes verdict)
      → (asked : List Asked) × (IsSubmission owner.account (lines bytes) asked
      × ((weighed owner.quota owner.handed (tally_of asked (length (ended_lines (lines bytes)))) ≡ None)
      × ((tally ≡ tally_of asked (length (ended_lines (lines bytes)))) × (text ≡ text_for owner.account (lines bytes)))))
  read_so bytes (RefusesLine n why) e is = never _ is
  read_so bytes (Admits asked) e is =
      let its = tally_of asked (length (ended_lines (lines bytes))) in (asked, (e, light bytes its (weighed owner.quota owner.handed its) refl is))

  at_most : (m n : ℕ) → nat_lt m n ≡ false → n ≤ m
  at_most m n e = grind (arith, nat_tests, e)

  -- of what stood there
  module _ (one : OneVerdict) (verdict : Verdict) where
    taken_by : (file : Look) (content : List ℕ) → IsVerdict owner.account (lines content) verdict → is_own owner.uid file ≡ true → file.size ≤ owner.quota.bytes → (long : Bool) → nat_lt owner.quota.bytes (length content) ≡ long
        → IsIt (if long then refused owner name [] reason.TooLong else decided_by owner name content verdict)
        → IsTaken owner (Some file) (Some content) text tally
    taken_by file content said own small true long is = never _ is
    taken_by file content said own small false long is =
        let so = read_so content verdict said is in record {
          file = file;
          is_there = refl;
          own = own;
          small = small;
          content = content;
          is_read = refl;
          short = at_most owner.quota.bytes (length content) long;
          asked = so.0;
          are_cards = so.1.0;
          tally_is = so.1.1.1.0;
          is_light = ap (weighed owner.quota owner.handed) so.1.1.1.0 ∙ so.1.1.0;
          text_is = so.1.1.1.1;
        }

    read_by : (file : Look) (bytes : Option (List ℕ)) → IsSaidOf owner bytes verdict → is_own owner.uid file ≡ true → file.size ≤ owner.quota.bytes
        → IsIt (decided_on owner name bytes verdict) → IsTaken owner (Some file) bytes text tally
    read_by file None said own small is = never _ is
    read_by file (Some content) said own small is = taken_by file content said own small (nat_lt owner.quota.bytes (length content)) refl is

    small_by : (file : Look) (bytes : Option (List ℕ)) → IsSaidOf owner bytes verdict → is_own owner.uid file ≡ true → (long : Bool) → nat_lt owner.quota.bytes file.size ≡ long
        → IsIt (option_map_or (refused owner name []) (if long then Some reason.TooLong else None) (decided_on owner name bytes verdict))
        → IsTaken owner (Some file) bytes text tally
    small_by file bytes said own true long is = never _ is
    small_by file bytes said own false long is = read_by file bytes said own (at_most owner.quota.bytes file.size long) is

    own_by : (file : Look) (bytes : Option (List ℕ)) → IsSaidOf owner bytes verdict → (own : Bool) → is_own owner.uid file ≡ own
        → IsIt (option_map_or (refused owner name []) (if not own then Some reason.NotOwn else if nat_lt owner.quota.bytes file.size then Some reason.TooLong else None)
        (decided_on owner name bytes verdict))
        → IsTaken owner (Some file) bytes text tally
    own_by file bytes said false own is = never _ is
    own_by file bytes said true own is = small_by file bytes said own (nat_lt owner.quota.bytes file.size) refl is

    is_taken : (look : Option Look) (bytes : Option (List ℕ)) → IsSaidOf owner bytes verdict → decision owner name look bytes verdict ≡ Takes text tally
        → IsTaken owner look bytes text tally
    is_taken None bytes said is = never _ is
    is_taken (Some file) bytes said is = own_by file bytes said (is_own owner.uid file) refl is

    -- ---- and such a file is taken

    not_above : (m n : ℕ) → n ≤ m → nat_lt m n ≡ false
    not_above m n less = grind (arith, nat_tests, less)

    -- nothing else is said of a text that the account may hand in
    admitted : (asked : List Asked) (content : List ℕ) → IsSubmission owner.account (lines content) asked → IsSaidOf owner (Some content) verdict → verdict ≡ Admits asked
    admitted asked content good said =
        let its = one owner.account (lines content) in its.only verdict said ∙ sym (its.only (Admits asked) good)

    is_decided : (look : Option Look) (bytes : Option (List ℕ)) → IsSaidOf owner bytes verdict → IsTaken owner look bytes text tally
        → decision owner name look bytes verdict ≡ Takes text tally
    is_decided look bytes said t =
        ap (λ (l : Option Look). decision owner name l bytes verdict) t.is_there
        ∙ ap (λ (b : Option (List ℕ)). decision owner name (Some t.file) b verdict) t.is_read
        ∙ ap (λ (b : Bool). option_map_or (refused owner name []) (if not b then Some reason.NotOwn else if nat_lt owner.quota.bytes t.file.size then Some reason.TooLong else None)
        (decided_on owner name (Some t.content) verdict)) t.own
        ∙ ap (λ (b : Bool). option_map_or (refused owner name []) (if b then Some reason.TooLong else None) (decided_on owner name (Some t.content) verdict))
        (not_above owner.quota.bytes t.file.size t.small)
        ∙ ap (λ (b : Bool). if b then refused owner name [] reason.TooLong else decided_by owner name t.content verdict)
        (not_above owner.quota.bytes (length t.content) t.short)
        ∙ ap (decided_by owner name t.content) (admitted t.asked t.content t.are_cards (subst (λ (b : Option (List ℕ)). IsSaidOf owner b verdict) t.is_read said))
        ∙ ap (weighed_text owner name t.content) (sym t.tally_is)
        ∙ ap (λ (o : Option Reason). option_map_or (refused owner name t.content) o (Takes (text_for owner.account (lines t.content)) tally)) t.is_light
        ∙ ap (λ (x : List ℕ). Takes x tally) (sym t.text_is)

pub takes_exactly : OneVerdict → TakesExactly
takes_exactly one owner name look bytes verdict text tally said =
    (is_taken owner name text tally one verdict look bytes said, is_decided owner name text tally one verdict look bytes said)
