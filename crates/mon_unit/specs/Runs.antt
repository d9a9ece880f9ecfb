-- Interactions with who replies by a function (own).
use Rattle.std.specs.Prelude.{ℕ, suc, List, [], ◌∷◌}
use Rattle.interaction.specs.Interactions.{Interaction, Returns, Asks}
use Rattle.interaction.specs.Exchanges.{Exchange}
use Rattle.interaction.specs.declared.request.Request.{Request}
use Rattle.interaction.specs.declared.answer.Answer.{Answer}
use Rattle.interaction.specs.declared.answer.Answer.TheVariants.{Done}
use Rattle.interaction.specs.Counting.{Beginning, Requesting, Counted, Passed}

-- the whole interaction: what it ends with, and where it leaves the other
abbrev pub run : {S Q R A : Type 0} → (S → Q → R × S) → Interaction Q R A → S → A × S
run reply (Returns a) s = (a, s)
run reply (Asks q f) s = run reply (f (reply s q).0) (reply s q).1

-- where it leaves the other if it is broken off after so many replies
abbrev pub run_cut : {S Q R A : Type 0} → (S → Q → R × S) → ℕ → Interaction Q R A → S → S
run_cut reply (suc k) (Asks q f) s = run_cut reply k (f (reply s q).0) (reply s q).1
run_cut reply _ _ s = s

-- what was asked and replied
abbrev pub exchanges : {S Q R A : Type 0} → (S → Q → R × S) → Interaction Q R A → S → List (Exchange Q R)
exchanges reply (Returns a) s = []
exchanges reply (Asks q f) s = record { asked = q; reply = (reply s q).0 } ∷ exchanges reply (f (reply s q).0) (reply s q).1

-- the first moments of a program, at most so many: what it asks is replied to
abbrev pub passed : {S A : Type 0} → (S → Request → Answer × S) → ℕ → Counted A → S → List Passed
passed reply (suc k) (Asks Beginning f) s = record { asked = Beginning; reply = Done } ∷ passed reply k (f Done) s
passed reply (suc k) (Asks (Requesting q) f) s = record { asked = Requesting q; reply = (reply s q).0 } ∷ passed reply k (f (reply s q).0) (reply s q).1
passed reply _ _ s = []
