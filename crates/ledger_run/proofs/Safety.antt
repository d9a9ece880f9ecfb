-- What a power cut leaves while one commit more is put.
use Rattle.std.proofs.Common.{◌≡◌, ◌⊎◌, inl, inr, ℕ, zero, suc, ◌+◌, true, List, [], ◌∷◌, ◌++◌, length, take, Option, Some, None, refl, sym, ap, ◌∙◌, subst, arith}
use Rattle.std.specs.{Prelude.{option_map}, List.{AllByRecursion}}
use Rattle.ledger_disk.specs.{declared.name.Name.TheVariants.{Answer}, Disks.{Disk, File, Slot, Files, Call, Leaves, AllOf, after_all}, Plans.{Did, Began}}
use Rattle.ledger_text.specs.{Text.{commit_of}, Digests.{digest_of}}
use Rattle.ledger_laws.specs.{Commits.{IsLedger, whole_file, commit_calls}, Answers.{AnswersFit, IsExpected}, Course.{Follows}}
use Rattle.ledger_laws.proofs.{Committing.{commits_whole}, Tracing.{standing, length_more}, Delivering.{read_fitting}, Passing.{cut_both}}
use Rattle.ledger_laws.proofs.Claiming.{after_both}
use Rattle.ledger_run.specs.{declared.event.Event.{Event as Made}, Meaning.{Step, Event, State, machine_of, event_behind, Says, end_of}}
use Rattle.ledger_run.specs.Runs.{Seen, IsKept, IsOf, Stood, IsSafe, AreSafe, IsOpen, GoesOnFrom, SafeFrom, CarriesOn, state_of, answer_in}
use Rattle.ledger_run.specs.Following.{seen_event, event_sent, first_number, may_follow, Tells, after_event, changed_by, with_commit}
use Rattle.ledger_run.specs.Senders.{Sent, Senders, no_senders, after_sent, sent_in, senders_behind, senders_of}
use Rattle.ledger_run.proofs.{Planned.{taken_twice}, Keeping.{becomes, follows, says_more, end_more, state_more, honest_more, answer_more}}
use Rattle.ledger_run.specs.declared.event.Event.TheVariants as code

in_row : {A : Type 0} (xs ys zs : List A) → (xs ++ ys) ++ zs ≡ xs ++ (ys ++ zs)
in_row [] ys zs = refl
in_row {A} (x ∷ xs) ys zs = ap (λ (l : List A). x ∷ l) (in_row xs ys zs)

none_behind : {A : Type 0} (xs : List A) → xs ++ [] ≡ xs
none_behind [] = refl
none_behind {A} (x ∷ xs) = ap (λ (l : List A). x ∷ l) (none_behind xs)

-- ---- where nothing is done

pub stood_safe : (step : Step) (chain : List (List ℕ)) (events : List Event) (disk : Disk) → Says [] chain events → Stood step chain events disk
    → (c : Files) → Leaves disk c → IsSafe step chain c
stood_safe step chain events disk says stood c leaves = record {
  more = [];
  events = events;
  ledger = subst (λ (l : List (List ℕ)). IsLedger l c) (sym (none_behind chain)) (standing chain disk stood.stands c leaves);
  says = subst (λ (l : List (List ℕ)). Says [] l events) (sym (none_behind chain)) says;
  honest = stood.honest;
  answers = read_fitting (answer_in step events) disk stood.answers c leaves;
}

-- ---- answers that are expected stay expected

module _ (old new : Option (List ℕ)) (stays : (bytes : List ℕ) → old ≡ Some bytes → new ≡ Some bytes) where
  file_more : (file : Option File) → IsExpected old file → IsExpected new file
  file_more file (inl none) = inl none
  file_more file (inr is) = by old refl is
    where
      by : (o : Option (List ℕ)) → old ≡ o → file ≡ option_map whole_file o → IsExpected new file
      by None e is = inl is
      by (Some bytes) e is = inr (is ∙ ap (option_map whole_file) (sym (stays bytes e)))

  files_more : (files : List (Option File)) → AllByRecursion (IsExpected old) files → AllByRecursion (IsExpected new) files
  files_more [] all = tt
  files_more (file ∷ files) all = (file_more file all.0, files_more files all.1)

  slot_more : (slot : Slot) → AllOf (IsExpected old) slot → AllOf (IsExpected new) slot
  slot_more slot all = (file_more slot.now all.0, files_more slot.others all.1)

  read_more : (read : Option (List ℕ)) → (read ≡ None) ⊎ (read ≡ old) → (read ≡ None) ⊎ (read ≡ new)
  read_more read (inl none) = inl none
  read_more read (inr is) = by old refl is
    where
      by : (o : Option (List ℕ)) → old ≡ o → read ≡ o → (read ≡ None) ⊎ (read ≡ new)
      by None e is = inl is
      by (Some bytes) e is = inr (is ∙ sym (stays bytes e))

-- ---- a commit

module _ (step : Step) (chain : List (List ℕ)) (events : List Event) (disk : Disk) (text : List ℕ) (event : Event)
    (says : Says [] chain events) (stood : Stood step chain events disk) (is : event_behind (end_of [] chain) (commit_of text) ≡ Some event)
    (follow : Follows (machine_of step) event (state_of step events)) where
  fit_at : (k : ℕ) → AnswersFit (answer_in step events) (after_all (take k (commit_calls (length chain) text)) disk)
  fit_at zero = λ m. stood.answers m
  fit_at (suc zero) = λ m. stood.answers m
  fit_at (suc (suc zero)) = λ m. stood.answers m
  fit_at (suc (suc (suc zero))) = λ m. stood.answers m
  fit_at (suc (suc (suc (suc zero)))) = λ m. stood.answers m
  fit_at (suc (suc (suc (suc (suc k))))) = λ m. stood.answers m

  pub commit_safe : (k : ℕ) (c : Files) → Leaves (after_all (take k (commit_calls (length chain) text)) disk) c → IsSafe step chain c
  commit_safe k c leaves = by ((commits_whole chain text disk stood.stands k).cut c leaves)
    where
      read : (m : ℕ) → (c (Answer m) ≡ None) ⊎ (c (Answer m) ≡ answer_in step events m)
      read = read_fitting (answer_in step events) (after_all (take k (commit_calls (length chain) text)) disk) (fit_at k) c leaves

      by : IsLedger chain c ⊎ IsLedger (chain ++ text ∷ []) c → IsSafe step chain c
      by (inl here) = record {
        more = [];
        events = events;
        ledger = subst (λ (l : List (List ℕ)). IsLedger l c) (sym (none_behind chain)) here;
        says = subst (λ (l : List (List ℕ)). Says [] l events) (sym (none_behind chain)) says;
        honest = stood.honest;
        answers = read;
      }
      by (inr here) = record {
        more = text ∷ [];
        events = events ++ event ∷ [];
        ledger = here;
        says = says_more [] chain events text event says is;
        honest = honest_more step events event stood.honest follow;
        answers = λ m. read_more (answer_in step events m) (answer_in step (events ++ event ∷ []) m) (λ bytes e. answer_more step events event m bytes e) (c (Answer m)) (read m);
      }

  pub commit_stood : Stood step (chain ++ text ∷ []) (events ++ event ∷ []) (after_all (commit_calls (length chain) text) disk)
  commit_stood = record {
    stands = (commits_whole chain text disk stood.stands 4).put (omega arith);
    honest = honest_more step events event stood.honest follow;
    answers = λ m. slot_more (answer_in step events m) (answer_in step (events ++ event ∷ []) m) (λ bytes e. answer_more step events event m bytes e) (disk (Answer m)) (stood.answers m);
  }

same_commits : (event : Made) (seen : Seen) → (after_event event seen).commits ≡ seen.commits
same_commits (code.Took file text) seen = refl
same_commits (code.Refused file reply) seen = refl
same_commits (code.Ran n printout change) seen = refl
same_commits (code.Dropped n reply) seen = refl
same_commits (code.Edited change) seen = refl
same_commits code.Gave seen = refl
same_commits code.Noted seen = refl

pub one_commit : (event : Made) (text : List ℕ) (seen new_seen : Seen) → new_seen ≡ with_commit (digest_of text) (after_event event seen) → new_seen.commits ≡ seen.commits + 1
one_commit event text seen new_seen is = ap (λ (s : Seen). s.commits) is ∙ ap suc (same_commits event seen) ∙ omega arith

of_commit : (step : Step) (text : List ℕ) (seen : Seen) (behind : List (List ℕ)) (kept : State) → IsKept step seen behind kept → IsKept step (with_commit (digest_of text) seen) behind kept
of_commit step text seen behind kept is = record { state = is.state; waiting = is.waiting; next = is.next; given = is.given; answers = is.answers }

same_sent : (event : Made) (seen : Seen) → (after_event event seen).senders ≡ after_sent (event_sent event) seen.senders
same_sent (code.Took file text) seen = refl
same_sent (code.Refused file reply) seen = refl
same_sent (code.Ran n printout change) seen = refl
same_sent (code.Dropped n reply) seen = refl
same_sent (code.Edited change) seen = refl
same_sent code.Gave seen = refl
same_sent code.Noted seen = refl

senders_more : (chain : List (List ℕ)) (text : List ℕ) (senders : Senders) → senders_behind (chain ++ text ∷ []) senders ≡ after_sent (sent_in (commit_of text)) (senders_behind chain senders)
senders_more [] text senders = refl
senders_more (t ∷ chain) text senders = senders_more chain text (after_sent (sent_in (commit_of t)) senders)

-- the ledger in memory, with one commit more
pub of_more : (step : Step) (seen : Seen) (behind : List (List ℕ)) (chain : List (List ℕ)) (events : List Event) (event : Made) (text : List ℕ) → IsOf seen behind step chain events
    → event_behind seen.last (commit_of text) ≡ Some (seen_event event) → event_sent event ≡ sent_in (commit_of text)
    → IsOf (with_commit (digest_of text) (after_event event seen)) (changed_by event behind) step (chain ++ text ∷ []) (events ++ seen_event event ∷ [])
of_more step seen behind chain events event text is one sent = record {
  commits = ap suc (same_commits event seen) ∙ ap suc is.commits ∙ sym (length_more chain text);
  last = sym (end_more [] chain text);
  says = says_more [] chain events text (seen_event event) is.says (subst (λ (last : List ℕ). event_behind last (commit_of text) ≡ Some (seen_event event)) is.last one);
  kept = of_commit step text (after_event event seen) (changed_by event behind) (state_of step (events ++ seen_event event ∷ []))
      (subst (λ (s : State). IsKept step (after_event event seen) (changed_by event behind) s) (sym (state_more step events (seen_event event)))
      (becomes step event seen behind (state_of step events) is.kept));
  senders =
      same_sent event seen ∙ ap (after_sent (event_sent event)) is.senders ∙ ap (λ (s : Sent). after_sent s (senders_of chain)) sent
      ∙ sym (senders_more chain text no_senders);
}

-- ---- over any disk

module _ {D : Type 0} (calls : D → List Call) (step : Step) where
  pub still_safe : (seen : Seen) (behind : List (List ℕ)) (old new : D) → calls new ≡ calls old → SafeFrom calls step seen behind old new
  still_safe seen behind old new same = record {
    each = λ first chain site. record {
      more = [];
      grows = same ∙ sym (none_behind (calls old));
      each = λ k c leaves. stood_safe step chain site.events (after_all (calls old) first) site.is.says site.stood c (by (after_all (calls old) first) k c leaves);
    };
  }
    where
      by : (d : Disk) (k : ℕ) (c : Files) → Leaves (after_all (take k []) d) c → Leaves d c
      by d zero c leaves = leaves
      by d (suc k) c leaves = leaves

  pub still_on : (seen : Seen) (behind : List (List ℕ)) (old new : D) → calls new ≡ calls old → CarriesOn calls step seen behind seen behind old new
  still_on seen behind old new same = record {
    on = λ first chain site. record {
      more = [];
      is = subst (λ (l : List (List ℕ)). IsOpen seen behind step l (after_all (calls new) first)) (sym (none_behind chain))
          (subst (λ (l : List Call). IsOpen seen behind step chain (after_all l first)) (sym same) site);
    };
  }

  module _ (seen : Seen) (behind : List (List ℕ)) (event : Made) (text : List ℕ) (found : Option Event) (old new : D)
      (may : may_follow seen.next (first_number seen.waiting) (seen_event event) ≡ true) (one : found ≡ Some (seen_event event))
      (is : event_behind seen.last (commit_of text) ≡ found) (told : Tells step found seen behind) where
    module _ (first : Disk) (chain : List (List ℕ)) (site : IsOpen seen behind step chain (after_all (calls old) first)) where
      here : event_behind (end_of [] chain) (commit_of text) ≡ Some (seen_event event)
      here = subst (λ (last : List ℕ). event_behind last (commit_of text) ≡ Some (seen_event event)) site.is.last (is ∙ one)

      follow : Follows (machine_of step) (seen_event event) (state_of step site.events)
      follow = follows step (seen_event event) seen behind (state_of step site.events) site.is.kept may (told.tells (seen_event event) one (state_of step site.events) site.is.kept)

      count : commit_calls seen.commits text ≡ commit_calls (length chain) text
      count = ap (λ (n : ℕ). commit_calls n text) site.is.commits

    pub commit_safe_from : Began calls (commit_calls seen.commits text) old new → SafeFrom calls step seen behind old new
    commit_safe_from began = record {
      each = λ first chain site. record {
        more = take began.count (commit_calls seen.commits text);
        grows = began.some;
        each = λ k c leaves.
            let (i, e) = taken_twice k began.count (commit_calls seen.commits text) in
            commit_safe step chain site.events (after_all (calls old) first) text (seen_event event) site.is.says site.stood (here first chain site) (follow first chain site) i c
            (subst (λ (l : List Call). Leaves (after_all l (after_all (calls old) first)) c) (e ∙ ap (take i) (count first chain site)) leaves);
      };
    }

    pub commit_carries_on : event_sent event ≡ sent_in (commit_of text) → Did calls (commit_calls seen.commits text) old new
        → CarriesOn calls step seen behind (with_commit (digest_of text) (after_event event seen)) (changed_by event behind) old new
    commit_carries_on sent did = record {
      on = λ first chain site. record {
        more = text ∷ [];
        is = record {
          events = site.events ++ seen_event event ∷ [];
          is = of_more step seen behind chain site.events event text site.is (is ∙ one) sent;
          stood = subst (λ (d : Disk). Stood step (chain ++ text ∷ []) (site.events ++ seen_event event ∷ []) d)
              (sym (ap (λ (l : List Call). after_all l first) (did.all ∙ ap (λ (l : List Call). calls old ++ l) (count first chain site)) ∙ after_both (calls old) (commit_calls (length chain) text) first))
              (commit_stood step chain site.events (after_all (calls old) first) text (seen_event event) site.is.says site.stood (here first chain site) (follow first chain site));
        };
      };
    }

  -- ---- one act behind the other

  pub safe_then : (seen mid : Seen) (behind mid_behind : List (List ℕ)) (old now new : D) → SafeFrom calls step seen behind old now → CarriesOn calls step seen behind mid mid_behind old now
      → SafeFrom calls step mid mid_behind now new → SafeFrom calls step seen behind old new
  safe_then seen mid behind mid_behind old now new a on b = record {
    each = λ first chain site.
        let p : AreSafe calls step chain first old now = a.each first chain site in
        let o : GoesOnFrom mid mid_behind step chain (after_all (calls now) first) = on.on first chain site in
        let q : AreSafe calls step (chain ++ o.more) first now new = b.each first (chain ++ o.more) o.is in
        record {
          more = p.more ++ q.more;
          grows = q.grows ∙ ap (λ (l : List Call). l ++ q.more) p.grows ∙ in_row (calls old) p.more q.more;
          each = λ k c leaves. by first chain o.more p q k c leaves (cut_both k p.more q.more);
        };
  }
    where
      farther : (chain more : List (List ℕ)) (c : Files) → IsSafe step (chain ++ more) c → IsSafe step chain c
      farther chain more c safe = record {
        more = more ++ safe.more;
        events = safe.events;
        ledger = subst (λ (l : List (List ℕ)). IsLedger l c) (in_row chain more safe.more) safe.ledger;
        says = subst (λ (l : List (List ℕ)). Says [] l safe.events) (in_row chain more safe.more) safe.says;
        honest = safe.honest;
        answers = safe.answers;
      }

      by : (first : Disk) (chain more : List (List ℕ)) (p : AreSafe calls step chain first old now) (q : AreSafe calls step (chain ++ more) first now new)
          → (k : ℕ) (c : Files) → Leaves (after_all (take k (p.more ++ q.more)) (after_all (calls old) first)) c
          → ((i : ℕ) × (take k (p.more ++ q.more) ≡ take i p.more)) ⊎ ((j : ℕ) × (take k (p.more ++ q.more) ≡ p.more ++ take j q.more)) → IsSafe step chain c
      by first chain more p q k c leaves (inl (i, e)) = p.each i c (subst (λ (l : List Call). Leaves (after_all l (after_all (calls old) first)) c) e leaves)
      by first chain more p q k c leaves (inr (j, e)) =
          farther chain more c (q.each j c (subst (λ (d : Disk). Leaves d c)
          (ap (λ (l : List Call). after_all l (after_all (calls old) first)) e ∙ after_both p.more (take j q.more) (after_all (calls old) first)
          ∙ ap (after_all (take j q.more)) (sym (ap (λ (l : List Call). after_all l first) p.grows ∙ after_both (calls old) p.more first))) leaves))

  pub on_then : (seen mid last : Seen) (behind mid_behind last_behind : List (List ℕ)) (old now new : D) → CarriesOn calls step seen behind mid mid_behind old now
      → CarriesOn calls step mid mid_behind last last_behind now new → CarriesOn calls step seen behind last last_behind old new
  on_then seen mid last behind mid_behind last_behind old now new a b = record {
    on = λ first chain site.
        let o : GoesOnFrom mid mid_behind step chain (after_all (calls now) first) = a.on first chain site in
        let p : GoesOnFrom last last_behind step (chain ++ o.more) (after_all (calls new) first) = b.on first (chain ++ o.more) o.is in
        record { more = o.more ++ p.more; is = subst (λ (l : List (List ℕ)). IsOpen last last_behind step l (after_all (calls new) first)) (in_row chain o.more p.more) p.is };
  }
