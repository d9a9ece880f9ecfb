-- What is opened from a checkpoint is what was.
use Rattle.std.proofs.Common.{◌≡◌, ◌⊎◌, inl, inr, ℕ, List, [], ◌∷◌, ◌++◌, Option, Some, sym, ap, ◌∙◌, subst}
use Rattle.std.specs.Option.{option_map_or}
use Rattle.ledger_text.specs.{Text.{Collide}, Digests.{digest_of}}
use Rattle.ledger_index.specs.{Index.{Index}, Course.{course_text}, Laws.{OpensOne}}
use Rattle.ledger_sets.specs.Applying.{Site, no_site, after_changes}
use Rattle.ledger_checkpoint.specs.{Checkpoints.{index_for, rest_of}, Laws.{OpensTheSame}}
use Rattle.ledger_run.specs.declared.ledger.Ledger.{Ledger}
use Rattle.ledger_run.specs.{Runs.{Seen, AreAlike, IsKept, seen_ledger, state_of}, Following.{IsOfChain}, Known.{course_by, IsKnown, KnownAsItWas}}
use Rattle.ledger_machine.specs.Steps.{nothing, step_at, site_step}
use Rattle.checkpoint_laws.specs.Laws.{ChangesAreAlike, IsWritten, IsTaken, OpensFromIt}

pub changes_are_alike : ChangesAreAlike
changes_are_alike one other same more text = ap (λ (o : Option Site). option_map_or (step_at text) o nothing) (same more)

module _ (was now : Ledger) (behind behind' : List (List ℕ)) (front : List (List ℕ)) where
  goes_on : seen_ledger now ≡ seen_ledger was → AreAlike site_step behind' behind → IsOfChain (seen_ledger was) behind site_step front
      → IsOfChain (seen_ledger now) behind' site_step front
  goes_on same alike of = subst (λ (seen : Seen). IsOfChain seen behind' site_step front) (sym same) record {
    events = of.events;
    is = record {
      commits = of.is.commits;
      last = of.is.last;
      says = of.is.says;
      kept = record {
        state = λ more text. alike more text ∙ of.is.kept.state more text;
        waiting = of.is.kept.waiting;
        next = of.is.kept.next;
        given = of.is.kept.given;
        answers = of.is.kept.answers;
      };
      senders = of.is.senders;
    };
  }

pub opens_from_it : ChangesAreAlike → OpensOne → OpensTheSame → KnownAsItWas → OpensFromIt
opens_from_it alike one same known was now behind site text index texts front written taken of =
    first (one (index_for was.commits was.last.items (course_text (course_by was)) site) index was.commits was.last.items text written.writable.small taken.open_is)
    (same behind site was.commits was.last.items (course_text (course_by was)) text index texts written.came written.writable taken.open_is taken.fit)
  where
    first : (index ≡ index_for was.commits was.last.items (course_text (course_by was)) site) ⊎ Collide digest_of
        → ((more : List (List ℕ)) → after_changes ((texts ++ rest_of index.head ∷ []) ++ more) no_site ≡ after_changes (behind ++ more) no_site) ⊎ Collide digest_of
        → IsOfChain (seen_ledger now) (texts ++ rest_of index.head ∷ []) site_step front ⊎ Collide digest_of
    first (inr collide) either = inr collide
    first (inl is) (inr collide) = inr collide
    first (inl is) (inl come) = inl
        (goes_on was now behind (texts ++ rest_of index.head ∷ []) front
        (known was now written.course (subst (λ (i : Index). IsKnown i.head.course i.head.count i.head.last now) is taken.known))
        (alike (texts ++ rest_of index.head ∷ []) behind come) of)
