-- What holds of every interaction, whatever is asked and whoever replies.
use Rattle.std.specs.Prelude.{◌≡◌, ◌⊎◌, List, [], ◌∷◌, ◌++◌}
use Rattle.interaction.specs.Interactions.{Interaction, ◌>>=◌, interpreted}
use Rattle.interaction.specs.Exchanges.{Exchange, replies, IsTrace, IsTracePrefix, AnswersAll}
use Rattle.interaction.specs.Holding.{RunsTo, StopsIn}

-- of three interactions one after the other it does not matter which two are joined first
abbrev pub ThenThen : (Q R A B C : Type 0) → Type 0
ThenThen Q R A B C = (t : Interaction Q R A) (k : A → Interaction Q R B) (l : B → Interaction Q R C) → ((t >>= k) >>= l) ≡ (t >>= (λ a. k a >>= l))

module _ {Q R : Type 0} (fits : Q → R → Type 0) where
  -- two runs of an interaction whose replies begin alike ask the same and end alike: neither ends before the other
  abbrev pub RunsAlike : (A : Type 0) → Type 0
  RunsAlike A = (t : Interaction Q R A) (x y more others : List (Exchange Q R)) (a b : A)
      → IsTrace fits t x a → IsTrace fits t y b → replies (x ++ more) ≡ replies (y ++ others)
      → (x ≡ y) × (a ≡ b)

  -- what has begun goes on to some end, if each question has a reply that fits
  abbrev pub BegunGoesOn : (A : Type 0) → Type 0
  BegunGoesOn A = ((q : Q) → (r : R) × fits q r)
      → (t : Interaction Q R A) (x : List (Exchange Q R)) → IsTracePrefix fits t x
      → (y : List (Exchange Q R)) × (a : A) × IsTrace fits t (x ++ y) a

module _ {S Q R : Type 0} (meaning : S → Q → R → S → Type 0) (fits : Q → R → Type 0) where
  -- two interactions held one after the other are both of them held
  abbrev pub PartsRun : (A B : Type 0) → Type 0
  PartsRun A B = (t : Interaction Q R A) (k : A → Interaction Q R B) (s : S) (a : A) (m : S) (b : B) (s' : S)
      → RunsTo meaning fits t s a m → RunsTo meaning fits (k a) m b s' → RunsTo meaning fits (t >>= k) s b s'

  -- what was held was told, by some exchanges, and answered
  abbrev pub RunsAreTraced : (A : Type 0) → Type 0
  RunsAreTraced A = (t : Interaction Q R A) (s : S) (a : A) (s' : S) → RunsTo meaning fits t s a s'
      → (x : List (Exchange Q R)) × AnswersAll meaning s x s' × IsTrace fits t x a

  -- what was told and answered was held
  abbrev pub TracesAreRun : (A : Type 0) → Type 0
  TracesAreRun A = (t : Interaction Q R A) (s : S) (x : List (Exchange Q R)) (a : A) (s' : S)
      → AnswersAll meaning s x s' → IsTrace fits t x a → RunsTo meaning fits t s a s'

  -- where it was broken off between two questions, it had begun
  abbrev pub StopsHadBegun : (A : Type 0) → Type 0
  StopsHadBegun A = (t : Interaction Q R A) (s s' : S) → StopsIn meaning fits (λ _ _ _. ⊥) t s s'
      → (x : List (Exchange Q R)) × AnswersAll meaning s x s' × IsTracePrefix fits t x

  -- with who has one reply to each question there is one run
  abbrev pub OneRun : (A : Type 0) → Type 0
  OneRun A = ((s : S) (q : Q) (r r' : R) (m m' : S) → meaning s q r m → meaning s q r' m' → (r ≡ r') × (m ≡ m'))
      → (t : Interaction Q R A) (s : S) (x y : List (Exchange Q R)) (a b : A) (u v : S)
      → AnswersAll meaning s x u → IsTrace fits t x a → AnswersAll meaning s y v → IsTrace fits t y b
      → (x ≡ y) × (a ≡ b) × (u ≡ v)

module _ {S Q R : Type 0} (meaning : S → Q → R → S → Type 0) (fits : Q → R → Type 0) (broken : S → Q → S → Type 0) where
  -- what is broken off in one of two interactions, one after the other, is broken off in both together; and it can be at once
  abbrev pub PartsStop : (A B : Type 0) → Type 0
  PartsStop A B = (t : Interaction Q R A) (k : A → Interaction Q R B) (s s' : S)
      → StopsIn meaning fits broken t s s
      × (StopsIn meaning fits broken t s s' → StopsIn meaning fits broken (t >>= k) s s')
      × ((a : A) (m : S) → RunsTo meaning fits t s a m → StopsIn meaning fits broken (k a) m s' → StopsIn meaning fits broken (t >>= k) s s')

  -- after these exchanges, or while the question after them was put, which was not replied to
  abbrev pub StoppedAt : S → List (Exchange Q R) → List (Exchange Q R) → S → Type 0
  StoppedAt s x [] s' = AnswersAll meaning s x s'
  StoppedAt s x (e ∷ y) s' = AnswersAll meaning s x s' ⊎ ((m : S) × AnswersAll meaning s x m × broken m e.asked s')

  -- wherever it was broken off, what was asked begins a whole run of the interaction, if each question has a reply that fits
  abbrev pub BrokenGoesOn : (A : Type 0) → Type 0
  BrokenGoesOn A = ((q : Q) → (r : R) × fits q r)
      → (t : Interaction Q R A) (s s' : S) → StopsIn meaning fits broken t s s'
      → (x y : List (Exchange Q R)) × (a : A) × IsTrace fits t (x ++ y) a × StoppedAt s x y s'

-- a host that puts each question as an interaction with someone else, and has a state of its own, holds the whole as one such interaction
module _ {H P T S Q R : Type 0} (asked : H → P → T → H → Type 0) (suits : P → T → Type 0) (meaning : S → Q → R → S → Type 0) (fits : Q → R → Type 0) where
  abbrev pub RunsInterpreted : (K A : Type 0) → Type 0
  RunsInterpreted K A = (puts : P → K → Interaction Q R (T × K)) (state : H → K) (other : H → S)
      → ((a : H) (q : P) (r : T) (b : H) → asked a q r b → RunsTo meaning fits (puts q (state a)) (other a) (r, state b) (other b))
      → (t : Interaction P T A) (a : H) (v : A) (b : H)
      → RunsTo asked suits t a v b → RunsTo meaning fits (interpreted puts t (state a)) (other a) (v, state b) (other b)

  -- and where it is broken off, the other is broken off with it
  abbrev pub StopsInterpreted : (broken : S → Q → S → Type 0) (unasked : H → P → H → Type 0) (K A : Type 0) → Type 0
  StopsInterpreted broken unasked K A = (puts : P → K → Interaction Q R (T × K)) (state : H → K) (other : H → S)
      → ((a : H) (q : P) (r : T) (b : H) → asked a q r b → RunsTo meaning fits (puts q (state a)) (other a) (r, state b) (other b))
      → ((a : H) (q : P) (b : H) → unasked a q b → StopsIn meaning fits broken (puts q (state a)) (other a) (other b))
      → (t : Interaction P T A) (a b : H)
      → StopsIn asked suits unasked t a b → StopsIn meaning fits broken (interpreted puts t (state a)) (other a) (other b)
