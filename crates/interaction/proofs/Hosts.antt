-- An interaction whose questions are put as interactions with someone else.
use Rattle.std.proofs.Common.{ap, sym, inl, inr, subst}
use Rattle.interaction.specs.{Interactions.{Interaction, Returns, Asks, interpreted}, Holding.{RunsTo, StopsIn}, Endings.{EndsIn}}
use Rattle.interaction.proofs.{Enough.{ends_in_then}, Held.{held_then, cut_here, cut_first, cut_then}}

-- a host that puts each question as an interaction with someone else holds the whole as one such interaction
module _ {H K S P T Q R : Type 0} (meaning : S → Q → R → S → Type 0) (fits : Q → R → Type 0)
    (puts : P → K → Interaction Q R (T × K)) (state : H → K) (other : H → S)
    (asked : H → P → T → H → Type 0) (suits : P → T → Type 0)
    (each : (a : H) (q : P) (r : T) (b : H) → asked a q r b → RunsTo meaning fits (puts q (state a)) (other a) (r, state b) (other b)) where
  pub held_through : {A : Type 0} (t : Interaction P T A) (a : H) (v : A) (b : H)
      → RunsTo asked suits t a v b → RunsTo meaning fits (interpreted puts t (state a)) (other a) (v, state b) (other b)
  held_through (Returns v') a v b g = (cc (g.0, ap state g.1), ap other g.1)
  held_through (Asks q f) a v b g =
      held_then meaning fits (puts q (state a)) (λ p. interpreted puts (f p.0) p.1) (other a) (g.0, state g.1) (other g.1) (v, state b) (other b)
      (each a q g.0 g.1 g.2) (held_through (f g.0) g.1 v b g.4)

  -- and so where it is broken off
  module _ (broken : S → Q → S → Type 0) (unasked : H → P → H → Type 0)
      (breaks : (a : H) (q : P) (b : H) → unasked a q b → StopsIn meaning fits broken (puts q (state a)) (other a) (other b)) where
    pub cut_through : {A : Type 0} (t : Interaction P T A) (a b : H)
        → StopsIn asked suits unasked t a b → StopsIn meaning fits broken (interpreted puts t (state a)) (other a) (other b)
    cut_through (Returns v') a b g = ap other g
    cut_through (Asks q f) a b (inl g) =
        subst (λ (x : H). StopsIn meaning fits broken (interpreted puts (Asks q f) (state a)) (other a) (other x)) (sym g) (cut_here meaning fits broken (interpreted puts (Asks q f) (state a)) (other a))
    cut_through (Asks q f) a b (inr (inl g)) =
        cut_first meaning fits broken (puts q (state a)) (λ p. interpreted puts (f p.0) p.1) (other a) (other b) (breaks a q b g)
    cut_through (Asks q f) a b (inr (inr g)) =
        cut_then meaning fits broken (puts q (state a)) (λ p. interpreted puts (f p.0) p.1) (other a) (g.0, state g.1) (other g.1) (other b)
        (each a q g.0 g.1 g.2) (cut_through (f g.0) g.1 b g.4)

-- what the state is like after each question, it is like after all of them
pub through_ends : {P T Q R K A : Type 0} (Good : K → Type 0) (puts : P → K → Interaction Q R (T × K))
    → ((q : P) (k : K) → Good k → EndsIn (λ p. Good p.1) (puts q k))
    → (t : Interaction P T A) (k : K) → Good k → EndsIn (λ p. Good p.1) (interpreted puts t k)
through_ends Good puts each (Returns a) k h = h
through_ends Good puts each (Asks q f) k h =
    ends_in_then (λ p. Good p.1) (λ p. Good p.1) (puts q k) (λ p. interpreted puts (f p.0) p.1) (each q k h) (λ p g. through_ends Good puts each (f p.0) p.1 g)
