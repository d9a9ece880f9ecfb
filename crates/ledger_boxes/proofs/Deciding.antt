-- What is decided of a claimed file, by what was seen of it.
use Rattle.std.proofs.Common.{◌≡◌, ℕ, Bool, true, false, nat_lt, List, [], ◌∷◌, ◌++◌, length, Option, Some, None, if◌then◌else◌, refl, sym, ap, subst, ◌∙◌, append_assoc, Result, Ok, Err, IfOk}
use Rattle.std.specs.{Prelude.{is_none}, Option.{option_map_or}, Str.Lines.{lines}}
use Rattle.deck_syntax.specs.Decks.{Asked}
use Rattle.preflight.specs.{declared.submission.Submission.{Submission}, declared.why.Refusal.{Refusal}, Submissions.{IsAdmitted, lines_of}, Tallies.{tally_of}}
use Rattle.preflight.{specs.Examined.{IsSubmission, IsFirstWrong, Verdict, Admits, Refuses as RefusesLine, IsVerdict}, proofs.FirstWrong.{one_verdict}}
use Rattle.site_plan.specs.{declared.reason.Reason.{Reason}, Tables.{ended_lines}}
use Rattle.site_plan.specs.declared.reason.Reason.TheVariants as reason
use Rattle.ledger_boxes.specs.{declared.look.Look.{Look}, declared.admission.Owner.{Owner}, Sights.{Sight, Looked, Held}}
use Rattle.ledger_boxes.specs.Admission.{Decided, why_unread, text_for, refused, weighed_text, decided_by, decided_on, decision, IsSaidOf, IsDecidedOn, DecidesBy}

-- what holds where there is an answer
pub each_ok : {T E : Type 0} {P Q : T → Type 0} (r : Result T E) → ((x : T) → P x → Q x) → IfOk r P → IfOk r Q
each_ok (Ok x) so held = so x held
each_ok (Err e) so held = tt

-- ---- a text that its account may hand in

module _ (owner : Owner) (name bytes : List ℕ) (kept : Submission) (asked : List Asked) (admitted : IsAdmitted kept asked) (own : kept.account ≡ owner.account)
    (same : lines_of kept ≡ lines bytes) where
  is_submission : IsSubmission owner.account (lines bytes) asked
  is_submission = subst (λ (ls : List (List ℕ)). IsSubmission owner.account ls asked) same (subst (λ (a : List ℕ). IsSubmission a (lines_of kept) asked) own admitted.is)

  ended : ended_lines (lines bytes) ≡ kept.text.items
  ended = ap ended_lines (sym same) ∙ sym admitted.text_is

  pub its_text : text_for owner.account (lines bytes) ≡ owner.account ++ 10 ∷ kept.text.items
  its_text = ap (λ (t : List ℕ). owner.account ++ 10 ∷ t) ended

  pub is_weighed : decided_by owner name bytes (Admits asked) ≡ weighed_text owner name bytes kept.tally
  is_weighed = ap (λ (n : ℕ). weighed_text owner name bytes (tally_of asked n)) (ap length ended) ∙ ap (weighed_text owner name bytes) (sym admitted.tally_is)

  pub by_submission : (decided : Decided) → decided ≡ weighed_text owner name bytes kept.tally
      → (verdict : Verdict) × IsVerdict owner.account (lines bytes) verdict × (decided ≡ decided_by owner name bytes verdict)
  by_submission decided is = (Admits asked, is_submission, is ∙ sym is_weighed)

-- a text of which a line is wrong
pub by_refusal : (owner : Owner) (name bytes : List ℕ) (refusal : Refusal) (decided : Decided) → IsFirstWrong owner.account refusal.line (lines bytes) refusal.why
    → decided ≡ refused owner name bytes (reason.Line refusal) → (verdict : Verdict) × IsVerdict owner.account (lines bytes) verdict × (decided ≡ decided_by owner name bytes verdict)
by_refusal owner name bytes refusal decided wrong is = (RefusesLine refusal.line refusal.why, wrong, is)

-- ---- what was read

module _ (owner : Owner) (name : List ℕ) (decided : Decided) where
  some_verdict : (bytes : List ℕ) → (verdict : Verdict) × IsVerdict owner.account (lines bytes) verdict
  some_verdict bytes = let one = one_verdict owner.account (lines bytes) in (one.verdict, one.is)

  pub on_none : decided ≡ refused owner name [] reason.NotReadable → IsDecidedOn owner name None decided
  on_none is = record { verdict = Admits []; is_said = tt; is = is }

  pub on_long : (bytes : List ℕ) → nat_lt owner.quota.bytes (length bytes) ≡ true → decided ≡ refused owner name [] reason.TooLong → IsDecidedOn owner name (Some bytes) decided
  on_long bytes long is =
      let one = some_verdict bytes in
      record {
        verdict = one.0;
        is_said = one.1;
        is = is ∙ ap (λ (b : Bool). if b then refused owner name [] reason.TooLong else decided_by owner name bytes one.0) (sym long);
      }

  pub on_bytes : (bytes : List ℕ) → nat_lt owner.quota.bytes (length bytes) ≡ false
      → ((verdict : Verdict) × IsVerdict owner.account (lines bytes) verdict × (decided ≡ decided_by owner name bytes verdict)) → IsDecidedOn owner name (Some bytes) decided
  on_bytes bytes short (verdict, said, is) = record {
    verdict = verdict;
    is_said = said;
    is = is ∙ ap (λ (b : Bool). if b then refused owner name [] reason.TooLong else decided_by owner name bytes verdict) (sym short);
  }

-- ---- what was seen

module _ {B : Type 0} (seen : B → List Sight) (owner : Owner) (name : List ℕ) (number : ℕ) (decided : Decided) (old mid new : B) (look : Option Look)
    (looked : seen mid ≡ seen old ++ Looked number look ∷ []) where
  -- it is not read
  pub at_once : (why : Reason) → why_unread owner look ≡ Some why → decided ≡ refused owner name [] why → DecidesBy seen owner name number decided old mid
  at_once why e is = record {
    look = look;
    bytes = None;
    verdict = Admits [];
    is_said = tt;
    saw = looked ∙ ap (λ (o : Option Reason). seen old ++ Looked number look ∷ (if is_none o then Held number None ∷ [] else [])) (sym e);
    is = is ∙ ap (λ (o : Option Reason). option_map_or (refused owner name []) o (decided_on owner name None (Admits []))) (sym e);
  }

  -- it is read
  pub by_bytes : (bytes : Option (List ℕ)) → why_unread owner look ≡ None → seen new ≡ seen mid ++ Held number bytes ∷ [] → IsDecidedOn owner name bytes decided
      → DecidesBy seen owner name number decided old new
  by_bytes bytes e held so = record {
    look = look;
    bytes = bytes;
    verdict = so.verdict;
    is_said = so.is_said;
    saw = held ∙ ap (λ (l : List Sight). l ++ Held number bytes ∷ []) looked ∙ append_assoc (seen old) (Looked number look ∷ []) (Held number bytes ∷ [])
        ∙ ap (λ (o : Option Reason). seen old ++ Looked number look ∷ (if is_none o then Held number bytes ∷ [] else [])) (sym e);
    is = so.is ∙ ap (λ (o : Option Reason). option_map_or (refused owner name []) o (decided_on owner name bytes so.verdict)) (sym e);
  }
