-- A run on the stack, step by step, and a match, start by start.
use Rattle.std.proofs.Common.{◌≡◌, ℕ, suc, ◌+◌, ◌-◌, List, [], ◌∷◌, length, refl, sym, ap, ◌∙◌, subst, arith}
use Rattle.std.specs.Prelude.{Result, Ok, Err, OnErr, Bool, if◌then◌else◌}
use Rattle.interaction.specs.{Interactions.{Interaction, Returns, ◌>>=◌}, Holding.{RunsTo, StopsIn}}
use Rattle.interaction.proofs.{Held.{held_then, cut_here, cut_first, cut_then}, Binds.{then_then}}
use Rattle.sno_text.specs.Patterns.{Pattern}
use Rattle.sno_pattern.specs.{declared.ending.Pending.{Pending}, declared.ending.MatchEnd.{MatchEnd}, Looks.{Look, Told, Fits}, inner.Running.{finishing}}
use Rattle.sno_pattern.specs.Steps.{Goal, Meet, End, Success, Failure, Outcome, Trying, row, outcome, Finish, settle, from_starts, match_of}
use Rattle.sno_pattern.specs.inner.Stack.{Ahead, Choice, waiting_of, resume, turned, Entering, Moved}
use Rattle.sno_pattern.specs.declared.choice_points.Turn.{Turn, TheVariants.{Go}}
use Rattle.sno_pattern.proofs.{Table.{none_left}, Pushing.{resume_last, moved_as, cut_as}}
use Rattle.sno_pattern.specs.declared.ending.MatchEnd.TheVariants as end

-- what holds in any case holds on an error
pub err_holds : {T E P : Type 0} (r : Result T E) → P → OnErr r P
err_holds (Ok x) p = tt
err_holds (Err e) p = p

-- so far: whatever the turn comes out as, with the choices that are open, the whole comes out as
module _ {S : Type 0} (tells : S → Look → Told → S → Type 0) (broken : S → Look → S → Type 0) (text : List ℕ) (s : S) (whole : Trying) (limit : ℕ) where
  abbrev pub On : S → Turn → Ahead → ℕ → Type 0
  On t turn now n = Moved tells broken text s [] whole limit t turn now n

  module _ (t : S) (turn : Turn) (now : Ahead) (n : ℕ) (k : On t turn now n) where
    pub on_cut : StopsIn tells Fits broken whole s t
    on_cut = k.cut t (cut_here tells Fits broken (resume text now.opens (turned text now turn n)) t)

  pub on_success : (t : S) (c : ℕ) (now : Ahead) (n : ℕ) → now.goals ≡ [] → On t (Go c) now n
      → RunsTo tells Fits whole s (record { end = Success c (waiting_of text now.waits); left = n }) t
  on_success t c now n e k =
      let p = waiting_of text now.waits in
      let o : Outcome = record { end = Success c p; left = n } in
      k.held o t (subst (λ (z : Trying). RunsTo tells Fits z t o t)
      (sym (ap (λ gs. resume text now.opens (outcome text gs c p n)) e
      ∙ ap (resume text now.opens) (none_left text c p n) ∙ resume_last text now.opens (Success c p) n tt)) (refl, refl))

-- the same over choices that were open before: whatever the turn comes out as, an attempt with those comes out as
module _ {S : Type 0} (tells : S → Look → Told → S → Type 0) (broken : S → Look → S → Type 0) (text : List ℕ) (s : S) (old : List Choice)
    (whole : Trying) (limit : ℕ) where
  abbrev pub Since : S → Turn → Ahead → ℕ → Type 0
  Since t turn now n = Moved tells broken text s old whole limit t turn now n

  module _ (t : S) (turn : Turn) (now : Ahead) (n : ℕ) (k : Since t turn now n) where
    pub since_turn : {u : S} {next : Turn} {new : Ahead} {m : ℕ} → Moved tells broken text t now.opens (turned text now turn n) n u next new m
        → Since u next new m
    since_turn d = record {
      held = λ b v x. k.held b v (d.held b v x);
      cut = λ v x. k.cut v (d.cut v x);
      fewer = (let f = d.fewer in let g = k.fewer in omega arith);
      all = d.all;
      here = d.here;
    }

    pub since_cut : StopsIn tells Fits broken (resume text old whole) s t
    since_cut = k.cut t (cut_here tells Fits broken (resume text now.opens (turned text now turn n)) t)

    -- a part was gone down to, and met as it comes to
    module _ {p : Pattern} {r : List Goal} {c : ℕ} {w : List Pending} {new : List Choice} {m : ℕ}
        (i : Entering text now.opens (turned text now turn n) n p r c w new m) (t' : Trying) (same : row text (outcome text) (Meet p) r c w m ≡ t') where
      pub since_part : {u : S} {next : Turn} {newer : Ahead} {j : ℕ} → Moved tells broken text t new t' m u next newer j → Since u next newer j
      since_part d = since_turn (moved_as tells broken text t now.opens (turned text now turn n) n t' new m (i.comes ∙ ap (resume text new) same)
          (let f = i.fewer in omega arith) d)

      pub since_breaks : (u : S) → StopsIn tells Fits broken (resume text new t') t u → StopsIn tells Fits broken (resume text old whole) s u
      since_breaks u d = k.cut u (cut_as tells broken text t now.opens (turned text now turn n) n t' new u (i.comes ∙ ap (resume text new) same) d)

-- so far: whatever the starts that are left come to, the match comes to
pub record Came {S : Type 0} (tells : S → Look → Told → S → Type 0) (broken : S → Look → S → Type 0) (text : List ℕ) (a : Pattern) (s : S)
    (whole : Interaction Look Told MatchEnd) (t : S) (k at n : ℕ) : Type 0 where
  pub held : (b : MatchEnd) (v : S) → RunsTo tells Fits (finishing text a k at n) t b v → RunsTo tells Fits whole s b v
  pub cut : (v : S) → StopsIn tells Fits broken (finishing text a k at n) t v → StopsIn tells Fits broken whole s v

module _ {S : Type 0} (tells : S → Look → Told → S → Type 0) (broken : S → Look → S → Type 0) (text : List ℕ) (a : Pattern) (s : S)
    (whole : Interaction Look Told MatchEnd) where
  pub came_start : (k at n : ℕ) → whole ≡ finishing text a k at n → Came tells broken text a s whole s k at n
  came_start k at n e = record {
    held = λ b v h. subst (λ (z : Interaction Look Told MatchEnd). RunsTo tells Fits z s b v) (sym e) h;
    cut = λ v h. subst (λ (z : Interaction Look Told MatchEnd). StopsIn tells Fits broken z s v) (sym e) h;
  }

  -- starts that come to the same
  pub came_as : (t : S) (k at n k' at' n' : ℕ) → from_starts text a k at n ≡ from_starts text a k' at' n' → Came tells broken text a s whole t k at n
      → Came tells broken text a s whole t k' at' n'
  came_as t k at n k' at' n' e c =
      let same : finishing text a k at n ≡ finishing text a k' at' n' = ap (λ z. z >>= (λ f. Returns f.end)) e in
      record {
        held = λ b v h. c.held b v (subst (λ (z : Interaction Look Told MatchEnd). RunsTo tells Fits z t b v) (sym same) h);
        cut = λ v h. c.cut v (subst (λ (z : Interaction Look Told MatchEnd). StopsIn tells Fits broken z t v) (sym same) h);
      }

  pub came_end : (k at n : ℕ) (t : S) → k ≡ 0 → Came tells broken text a s whole t k at n → RunsTo tells Fits whole s end.NoMatch t
  came_end k at n t e c = c.held end.NoMatch t (subst (λ (j : ℕ). RunsTo tells Fits (finishing text a j at n) t end.NoMatch t) (sym e) (refl, refl))

  module _ (t : S) (k k' at n : ℕ) (more : k ≡ suc k') (came : Came tells broken text a s whole t k at n) where
    abbrev pub start : Trying
    start = outcome text (Meet a ∷ []) at [] n

    abbrev pub rest : Outcome → Interaction Look Told MatchEnd
    rest o = settle at o.end o.left (λ n'. from_starts text a k' (at + 1) n') >>= (λ f. Returns f.end)

    parts : finishing text a k at n ≡ (start >>= rest)
    parts = ap (λ j. finishing text a j at n) more ∙ then_then start (λ o. settle at o.end o.left (λ n'. from_starts text a k' (at + 1) n')) (λ f. Returns f.end)

    -- what is held of the start, and of what its end leaves
    then_held : (u : S) (o : Outcome) (b : MatchEnd) (v : S) → RunsTo tells Fits start t o u → RunsTo tells Fits (rest o) u b v → RunsTo tells Fits whole s b v
    then_held u o b v h g = came.held b v (subst (λ (z : Interaction Look Told MatchEnd). RunsTo tells Fits z t b v) (sym parts)
        (held_then tells Fits start rest t o u b v h g))

    then_cut : (u : S) (o : Outcome) (v : S) → RunsTo tells Fits start t o u → StopsIn tells Fits broken (rest o) u v → StopsIn tells Fits broken whole s v
    then_cut u o v h g = came.cut v (subst (λ (z : Interaction Look Told MatchEnd). StopsIn tells Fits broken z t v) (sym parts)
        (cut_then tells Fits broken start rest t o u v h g))

    pub came_next : {u : S} {m : ℕ} → RunsTo tells Fits start t (record { end = Failure; left = m }) u → Came tells broken text a s whole u k' (at + 1) m
    came_next {u} {m} h = record {
      held = λ b v g. then_held u (record { end = Failure; left = m }) b v h g;
      cut = λ v g. then_cut u (record { end = Failure; left = m }) v h g;
    }

    pub came_settles : (u : S) (e : End) (m : ℕ) (b : MatchEnd)
        → ((next : ℕ → Interaction Look Told Finish) → settle at e m next ≡ Returns (record { end = b; left = m }))
        → RunsTo tells Fits start t (record { end = e; left = m }) u → RunsTo tells Fits whole s b u
    came_settles u e m b settles h =
        then_held u (record { end = e; left = m }) b u h (subst (λ (z : Interaction Look Told Finish). RunsTo tells Fits (z >>= (λ f. Returns f.end)) u b u)
        (sym (settles (λ n'. from_starts text a k' (at + 1) n'))) (refl, refl))

    pub came_breaks : (u : S) → StopsIn tells Fits broken start t u → StopsIn tells Fits broken whole s u
    came_breaks u h = came.cut u (subst (λ (z : Interaction Look Told MatchEnd). StopsIn tells Fits broken z t u) (sym parts)
        (cut_first tells Fits broken start rest t u h))

    pub came_stops : (u : S) (o : Outcome) → RunsTo tells Fits start t o u → StopsIn tells Fits broken whole s u
    came_stops u o h = then_cut u o u h (cut_here tells Fits broken (rest o) u)

abbrev pub pending : List ℕ → List ℕ → Pending
pending v t = record { variable = v; text = t }

-- a match is what its starts come to, from the first that is not missed at once
pub match_is : (text : List ℕ) (a : Pattern) (anchored : Bool) (limit starts first left : ℕ) → (if anchored then 1 else (length text + 1)) ≡ starts
    → from_starts text a (starts - 0) 0 limit ≡ from_starts text a (starts - first) first left
    → match_of text a anchored limit ≡ finishing text a (starts - first) first left
match_is text a anchored limit starts first left all same =
    let all_of_them : starts ≡ starts - 0 = omega arith in
    ap (λ k. finishing text a k 0 limit) (all ∙ all_of_them) ∙ ap (λ z. z >>= (λ f. Returns f.end)) same

pub no_start : (text : List ℕ) (a : Pattern) (starts first left : ℕ) → first ≡ starts → finishing text a (starts - first) first left ≡ Returns end.NoMatch
no_start text a starts first left e = let none : starts - first ≡ 0 = omega arith in ap (λ k. finishing text a k first left) none
