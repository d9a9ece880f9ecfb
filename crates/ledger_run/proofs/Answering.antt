-- The first text that waits is answered.
use Rattle.std.proofs.Common.{◌≡◌, ℕ, List, [], ◌∷◌, Some, None, refl, ap, ◌∙◌}
use Rattle.ledger_text.specs.Records as said
use Rattle.ledger_laws.specs.Course as course
use Rattle.ledger_run.specs.{declared.event.Event.{Event as Made}, Meaning.{Event}, Runs.{Seen}, Attempts.{Recorded, FirstAnswered}}
use Rattle.ledger_run.specs.Following.{seen_event, first_number, first_answered, after_event, with_commit}
use Rattle.ledger_run.specs.declared.event.Event.TheVariants as code

pub none_waits : (waiting : List (ℕ × List ℕ)) → None ≡ first_number waiting → waiting ≡ []
none_waits [] e = refl
none_waits (one ∷ waiting) e = absurd (cc (e))

inside : (a b : Event) → Some a ≡ Some b → a ≡ b
inside a b e = cc (e)

pub first_dropped : (n : ℕ) (reason reply change : List ℕ) (seen new_seen : Seen) → first_number seen.waiting ≡ Some n → Recorded (said.Dropped n reason reply) change seen new_seen
    → FirstAnswered reply seen new_seen
first_dropped n reason reply change seen new_seen first done = by done.event (inside (course.Dropped n reply) (seen_event done.event) done.is) done.ledger
  where
    by : (event : Made) → course.Dropped n reply ≡ seen_event event → new_seen ≡ with_commit done.digest (after_event event seen) → FirstAnswered reply seen new_seen
    by (code.Dropped m r) e is = record {
      number = n;
      first = first;
      digest = done.digest;
      ledger =
          is ∙ ap (λ (k : ℕ). with_commit done.digest (first_answered k r.now seen)) number
          ∙ ap (λ (t : List ℕ). with_commit done.digest (first_answered n t seen)) text;
    }
      where
        number : m ≡ n
        number = cc (e)

        text : r.now ≡ reply
        text = cc (e)
    by (code.Took file text) e is = absurd (cc (e))
    by (code.Refused file other) e is = absurd (cc (e))
    by (code.Ran m printout other) e is = absurd (cc (e))
    by (code.Edited other) e is = absurd (cc (e))
    by code.Gave e is = absurd (cc (e))
    by code.Noted e is = absurd (cc (e))
