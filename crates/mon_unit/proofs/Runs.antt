-- What follows for a whole interaction from what holds of each question and its reply.
use Rattle.std.proofs.Common.{◌≡◌, ℕ, zero, suc, List, [], ◌∷◌, refl, ap, ◌∙◌, subst}
use Rattle.interaction.specs.{Interactions.{Interaction, Returns, Asks, ◌>>=◌}, declared.request.Request.{Request}, declared.answer.Answer.{Answer}}
use Rattle.interaction.specs.{declared.answer.Answer.TheVariants.{Done}, Fitting.{Fits}}
use Rattle.interaction.specs.Counting.{Moment, Beginning, Requesting, Counted, Passed, IsTracePrefix}
use Rattle.mon_unit.specs.Runs.{run, run_cut, passed}

-- one interaction after the other
pub run_bind : {S Q R A B : Type 0} (reply : S → Q → R × S) (t : Interaction Q R A) (k : A → Interaction Q R B) (s : S)
    → run reply (t >>= k) s ≡ run reply (k (run reply t s).0) (run reply t s).1
run_bind reply (Returns a) k s = refl
run_bind reply (Asks q f) k s = run_bind reply (f (reply s q).0) k (reply s q).1

-- what each reply keeps
pub run_keeps : {S Q R A : Type 0} (reply : S → Q → R × S) (P : S → Type 0) → ((s : S) (q : Q) → P s → P (reply s q).1)
    → (t : Interaction Q R A) (s : S) → P s → P (run reply t s).1
run_keeps reply P each (Returns a) s h = h
run_keeps reply P each (Asks q f) s h = run_keeps reply P each (f (reply s q).0) (reply s q).1 (each s q h)

pub run_cut_keeps : {S Q R A : Type 0} (reply : S → Q → R × S) (P : S → Type 0) → ((s : S) (q : Q) → P s → P (reply s q).1)
    → (k : ℕ) (t : Interaction Q R A) (s : S) → P s → P (run_cut reply k t s)
run_cut_keeps reply P each zero t s h = h
run_cut_keeps reply P each (suc k) (Returns a) s h = h
run_cut_keeps reply P each (suc k) (Asks q f) s h = run_cut_keeps reply P each k (f (reply s q).0) (reply s q).1 (each s q h)

-- two that reply alike from states that agree, and agree again after each reply
module _ {S T Q R : Type 0} (reply : S → Q → R × S) (reply' : T → Q → R × T) (agree : S → T → Type 0)
    (each : (s : S) (u : T) (q : Q) → agree s u → ((reply s q).0 ≡ (reply' u q).0) × agree (reply s q).1 (reply' u q).1) where
  pub run_alike : {A : Type 0} (t : Interaction Q R A) (s : S) (u : T) → agree s u
      → ((run reply t s).0 ≡ (run reply' t u).0) × agree (run reply t s).1 (run reply' t u).1
  run_alike (Returns a) s u h = (refl, h)
  run_alike {A} (Asks q f) s u h =
      let one = each s u q h in
      let rest = run_alike (f (reply s q).0) (reply s q).1 (reply' u q).1 one.1 in
      subst (λ (r : R). ((run reply (f (reply s q).0) (reply s q).1).0 ≡ (run reply' (f r) (reply' u q).1).0)
      × agree (run reply (f (reply s q).0) (reply s q).1).1 (run reply' (f r) (reply' u q).1).1) one.0 rest

  -- and so where both are broken off after as many replies
  pub run_cut_alike : {A : Type 0} (k : ℕ) (t : Interaction Q R A) (s : S) (u : T) → agree s u → agree (run_cut reply k t s) (run_cut reply' k t u)
  run_cut_alike zero t s u h = h
  run_cut_alike (suc k) (Returns a) s u h = h
  run_cut_alike (suc k) (Asks q f) s u h =
      let one = each s u q h in
      subst (λ (r : R). agree (run_cut reply k (f (reply s q).0) (reply s q).1) (run_cut reply' k (f r) (reply' u q).1)) one.0
      (run_cut_alike k (f (reply s q).0) (reply s q).1 (reply' u q).1 one.1)

-- a moment with its answer
abbrev pub passing : Moment → Answer → Passed
passing m r = record { asked = m; reply = r }

-- the same moments pass with two that reply alike
module _ {S T : Type 0} (reply : S → Request → Answer × S) (reply' : T → Request → Answer × T) (agree : S → T → Type 0)
    (each : (s : S) (u : T) (q : Request) → agree s u → ((reply s q).0 ≡ (reply' u q).0) × agree (reply s q).1 (reply' u q).1) where
  pub passed_alike : {A : Type 0} (k : ℕ) (t : Counted A) (s : S) (u : T) → agree s u → passed reply k t s ≡ passed reply' k t u
  passed_alike zero t s u h = refl
  passed_alike (suc k) (Returns a) s u h = refl
  passed_alike (suc k) (Asks Beginning f) s u h = ap (λ (x : List Passed). passing Beginning Done ∷ x) (passed_alike k (f Done) s u h)
  passed_alike (suc k) (Asks (Requesting q) f) s u h =
      let one = each s u q h in
      ap (λ (x : List Passed). passing (Requesting q) (reply s q).0 ∷ x) (passed_alike k (f (reply s q).0) (reply s q).1 (reply' u q).1 one.1)
      ∙ ap (λ (r : Answer). passing (Requesting q) r ∷ passed reply' k (f r) (reply' u q).1) one.0

-- the program begins with them, where each reply fits
pub passed_begins : {S A : Type 0} (reply : S → Request → Answer × S) → ((s : S) (q : Request) → Fits q (reply s q).0)
    → (k : ℕ) (t : Counted A) (s : S) → IsTracePrefix t (passed reply k t s)
passed_begins reply fit zero (Returns a) s = tt
passed_begins reply fit zero (Asks q f) s = tt
passed_begins reply fit (suc k) (Returns a) s = tt
passed_begins reply fit (suc k) (Asks Beginning f) s = (refl, refl, passed_begins reply fit k (f Done) s)
passed_begins reply fit (suc k) (Asks (Requesting q) f) s = (refl, fit s q, passed_begins reply fit k (f (reply s q).0) (reply s q).1)
