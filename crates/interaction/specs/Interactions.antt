-- Interactions (own): what someone asks of another, told without the other. An interaction ends with a value, or puts a question and goes
-- on as the reply says. Such trees are known as interaction trees.

pub data Interaction (Q R A : Type 0) : Type 0 where
  Returns : A → Interaction Q R A
  Asks : Q → (R → Interaction Q R A) → Interaction Q R A

infixl 10 ◌>>=◌
-- the first interaction, and then the one that its value says
abbrev pub ◌>>=◌ : {Q R A B : Type 0} → Interaction Q R A → (A → Interaction Q R B) → Interaction Q R B
Returns a >>= k = k a
Asks q f >>= k = Asks q (λ r. f r >>= k)

-- puts one question, and ends with the reply
abbrev pub ask : {Q R : Type 0} → Q → Interaction Q R R
ask q = Asks q (λ r. Returns r)

-- an interaction each of whose questions is put as an interaction with someone else, by an asker that has a state of its own
abbrev pub interpreted : {Q R Q' R' K A : Type 0} → (Q → K → Interaction Q' R' (R × K)) → Interaction Q R A → K → Interaction Q' R' (A × K)
interpreted puts (Returns a) k = Returns (a, k)
interpreted puts (Asks q f) k = puts q k >>= (λ p. interpreted puts (f p.0) p.1)
