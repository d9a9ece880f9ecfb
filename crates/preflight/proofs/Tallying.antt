-- The tally of what is asked, with one card more.
use Rattle.std.proofs.Common.{◌≡◌, ℕ, ◌+◌, ◌*◌, ◌≤◌, max, Bool, true, false, cond, List, [], ◌∷◌, ◌++◌, length, refl, sym, ap, ◌∙◌, arith, append-nil, length-append, true≢false, subst, ◌⊎◌, inl, inr}
use Rattle.std.specs.Prelude.{fold, sum_by, count_by}
use Rattle.std.proofs.{lemmas.List.Sums.{sum_by-append, sum_by-cons, fold-append}, lemmas.Nat.{mul-le}, Math.Nat.{add-zero}}
use Rattle.sno_cards.specs.{declared.limits.Limits.{Limits}, Limits.{AreLimits}}
use Rattle.deck_lines.specs.declared.{command.Command.{Command}, turn.Turn.{Turn}}
use Rattle.deck_lines.specs.declared.command.Command.TheVariants as command
use Rattle.mon_catalogue.specs.declared.mode.Mode.{Mode}
use Rattle.deck_syntax.specs.{declared.job.OpenJob.{OpenJob}, Decks.{Asked, Commands, Enters, Gives, Drains}}
use Rattle.preflight.specs.{declared.tally.Tally.{Tally}, declared.intake.Counts.{Counts}, inner.Reading.{asks_of}}
use Rattle.preflight.specs.Tallies.{jobs_of, creates, statements_of, work_of, more_work, tally_of}
use Rattle.preflight.specs.inner.Counts.{IsBelow, Counted, one_line, one_creation, one_job}
use Rattle.deck_syntax.specs.declared.stream_reader.Event.{Event}
use Rattle.deck_syntax.specs.declared.stream_reader.Event.TheVariants as event

jobs_append : (xs ys : List Asked) → jobs_of (xs ++ ys) ≡ jobs_of xs ++ jobs_of ys
jobs_append [] ys = refl
jobs_append (Commands command ∷ xs) ys = jobs_append xs ys
jobs_append (Enters job ∷ xs) ys = ap (λ (js : List OpenJob). job ∷ js) (jobs_append xs ys)
jobs_append (Gives turn ∷ xs) ys = jobs_append xs ys
jobs_append (Drains ∷ xs) ys = jobs_append xs ys

-- the tally by its jobs, and how many cards make data sets
abbrev of_parts : List OpenJob → ℕ → Tally
of_parts jobs made = record {
  jobs = length jobs;
  statements = sum_by statements_of jobs;
  largest = fold more_work 0 jobs;
  work = sum_by work_of jobs;
  creates = made;
  bytes = 0;
}

made_append : (xs ys : List Asked) → count_by creates (xs ++ ys) ≡ count_by creates xs + count_by creates ys
made_append xs ys = sum_by-append (λ (one : Asked). cond (creates one) 1 0) xs ys

-- what is neither a job nor a `$CREATE` card
same : (front : List Asked) (one : Asked) → jobs_of (one ∷ []) ≡ [] → creates one ≡ false → tally_of (front ++ one ∷ []) 0 ≡ tally_of front 0
same front one none zero_more =
    let jobs : jobs_of (front ++ one ∷ []) ≡ jobs_of front = jobs_append front (one ∷ []) ∙ ap (λ (js : List OpenJob). jobs_of front ++ js) none ∙ append-nil (jobs_of front) in
    let single : count_by creates (one ∷ []) ≡ 0 = sum_by-cons (λ (x : Asked). cond (creates x) 1 0) one [] ∙ ap (λ (b : Bool). cond {A = ℕ} b 1 0 + 0) zero_more in
    let made : count_by creates (front ++ one ∷ []) ≡ count_by creates front = made_append front (one ∷ []) ∙ ap (λ (n : ℕ). count_by creates front + n) single ∙ add-zero (count_by creates front) in
    ap (λ (js : List OpenJob). of_parts js (count_by creates (front ++ one ∷ []))) jobs ∙ ap (of_parts (jobs_of front)) made

pub nothing_below : IsBelow 1 (tally_of [] 0)
nothing_below = record { jobs = omega arith; creates = omega arith; statements = omega arith; largest = omega arith; work = omega arith }

line_below : (counts : Counts) → IsBelow counts.number counts.tally → IsBelow (counts.number + 1) counts.tally
line_below counts is = record {
  jobs = (let few = is.jobs in omega (arith, few));
  creates = (let few = is.creates in omega (arith, few));
  statements = (let few = is.statements in omega (arith, few));
  largest = is.largest;
  work = (let few = is.work in omega (arith, few));
}

pub nothing_counted : (counts : Counts) → Counted counts (one_line counts) []
nothing_counted counts = record { number = refl; below = line_below counts; tally = λ front is. is ∙ ap (λ (asked : List Asked). tally_of asked 0) (sym (append-nil front)) }

uncounted : (counts : Counts) (one : Asked) → jobs_of (one ∷ []) ≡ [] → creates one ≡ false → Counted counts (one_line counts) (one ∷ [])
uncounted counts one none zero_more = record { number = refl; below = line_below counts; tally = λ front is. is ∙ sym (same front one none zero_more) }

pub turn_counted : (counts : Counts) (turn : Turn) → Counted counts (one_line counts) (Gives turn ∷ [])
turn_counted counts turn = uncounted counts (Gives turn) refl refl

pub drain_counted : (counts : Counts) → Counted counts (one_line counts) (Drains ∷ [])
drain_counted counts = uncounted counts Drains refl refl

pub command_counted : (counts : Counts) (command : Command) → creates (Commands command) ≡ false → Counted counts (one_line counts) (Commands command ∷ [])
command_counted counts command zero_more = uncounted counts (Commands command) refl zero_more

pub creation_counted : (counts : Counts) (account name : List ℕ) (mode : Mode) → Counted counts (one_creation counts) (Commands (command.Create account name mode) ∷ [])
creation_counted counts account name mode = record {
  number = refl;
  below = λ is. let line = line_below counts is in record {
    jobs = line.jobs;
    creates = (let few = is.creates in omega (arith, few));
    statements = line.statements;
    largest = line.largest;
    work = line.work;
  };
  tally = λ front is.
      let one : Asked = Commands (command.Create account name mode) in
      let jobs : jobs_of (front ++ one ∷ []) ≡ jobs_of front = jobs_append front (one ∷ []) ∙ append-nil (jobs_of front) in
      ap (λ (t : Tally). (let r : Tally = record t { creates = t.creates + 1 } in r)) is
      ∙ ap (of_parts (jobs_of front)) (sym (made_append front (one ∷ [])))
      ∙ ap (λ (js : List OpenJob). of_parts js (count_by creates (front ++ one ∷ []))) (sym jobs);
}

-- a command that makes a data set
pub made_counted : (counts : Counts) (command : Command) → creates (Commands command) ≡ true → Counted counts (one_creation counts) (Commands command ∷ [])
made_counted counts (command.Create account name mode) is = creation_counted counts account name mode
made_counted counts (command.Delete account name) is = absurd (true≢false (sym is))
made_counted counts (command.SetAcl account name text) is = absurd (true≢false (sym is))
made_counted counts (command.ShowAcl account name) is = absurd (true≢false (sym is))
made_counted counts (command.List account name) is = absurd (true≢false (sym is))
made_counted counts (command.Catalog account) is = absurd (true≢false (sym is))

abbrev with_work : Tally → Limits → Tally
with_work t limits = record t {
  jobs = t.jobs + 1;
  statements = t.statements + limits.statements;
  largest = max t.largest (limits.statements * limits.steps);
  work = t.work + limits.statements * limits.steps;
}

-- one job more
with_one : (jobs : List OpenJob) (job : OpenJob) (made : ℕ) → with_work (of_parts jobs made) job.limits ≡ of_parts (jobs ++ job ∷ []) made
with_one jobs job made =
    let number : length (jobs ++ job ∷ []) ≡ length jobs + 1 = length-append jobs (job ∷ []) in
    let statements : sum_by statements_of (jobs ++ job ∷ []) ≡ sum_by statements_of jobs + statements_of job = sum_by-append statements_of jobs (job ∷ []) ∙ omega arith in
    let largest : fold more_work 0 (jobs ++ job ∷ []) ≡ more_work (fold more_work 0 jobs) job = fold-append more_work 0 jobs (job ∷ []) in
    let work : sum_by work_of (jobs ++ job ∷ []) ≡ sum_by work_of jobs + work_of job = sum_by-append work_of jobs (job ∷ []) ∙ omega arith in
    sym (rw (number, statements, largest, work) refl)

-- a job has so much work at the most
work_below : (limits : Limits) → AreLimits limits → limits.statements * limits.steps ≤ 100000000000000
work_below limits within = mul-le limits.statements limits.steps 10000000 10000000 within.0.1 within.1.1

-- a job with its limits
limits_counted : (counts : Counts) (job : OpenJob) → AreLimits job.limits → Counted counts (one_job counts job.limits) (Enters job ∷ [])
limits_counted counts job within = record {
  number = refl;
  below = λ is. (
      let few = within.0.1 in
      let more = work_below job.limits within in
      record {
        jobs = (let before = is.jobs in omega (arith, before));
        creates = (let before = is.creates in omega (arith, before));
        statements = (let before = is.statements in omega (arith, before, few));
        largest = (let before = is.largest in omega (arith, before, more));
        work = (let before = is.work in omega (arith, before, more));
      });
  tally = λ front is.
      let made : count_by creates (front ++ Enters job ∷ []) ≡ count_by creates front = made_append front (Enters job ∷ []) ∙ omega arith in
      ap (λ (t : Tally). with_work t job.limits) is
      ∙ with_one (jobs_of front) job (count_by creates front)
      ∙ ap (of_parts (jobs_of front ++ job ∷ [])) (sym made)
      ∙ ap (λ (js : List OpenJob). of_parts js (count_by creates (front ++ Enters job ∷ []))) (sym (jobs_append front (Enters job ∷ [])));
}

pub job_counted : (counts : Counts) (job : OpenJob) (limits : Limits) → limits ≡ job.limits → AreLimits job.limits → Counted counts (one_job counts limits) (Enters job ∷ [])
job_counted counts job limits is within = subst (λ (l : Limits). Counted counts (one_job counts l) (Enters job ∷ [])) (sym is) (limits_counted counts job within)

-- the same, of what the code has
pub counted_at : (before after next : Counts) (e brings : Event) → e ≡ brings → after ≡ next → Counted before next (asks_of brings) → Counted before after (asks_of e)
counted_at before after next e brings is are counted =
    subst (λ (e : Event). Counted before after (asks_of e)) (sym is) (subst (λ (n : Counts). Counted before n (asks_of brings)) (sym are) counted)

-- a line that brings neither a command nor a job
pub plain_counted : (before after : Counts) (e : Event) → after ≡ one_line before
    → (e ≡ event.Nothing) ⊎ (((account : List ℕ) × (e ≡ event.Opens account)) ⊎ (((turn : Turn) × (e ≡ event.Turns turn)) ⊎ ((e ≡ event.Drains) ⊎ (e ≡ event.Stops))))
    → Counted before after (asks_of e)
plain_counted before after e are (inl is) = counted_at before after (one_line before) e event.Nothing is are (nothing_counted before)
plain_counted before after e are (inr (inl (account, is))) = counted_at before after (one_line before) e (event.Opens account) is are (nothing_counted before)
plain_counted before after e are (inr (inr (inl (turn, is)))) = counted_at before after (one_line before) e (event.Turns turn) is are (turn_counted before turn)
plain_counted before after e are (inr (inr (inr (inl is)))) = counted_at before after (one_line before) e event.Drains is are (drain_counted before)
plain_counted before after e are (inr (inr (inr (inr is)))) = counted_at before after (one_line before) e event.Stops is are (nothing_counted before)
