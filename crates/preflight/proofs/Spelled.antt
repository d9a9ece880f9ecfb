-- Lines spell what they ask for exactly where they go with whatever follows them.
use Rattle.std.proofs.Common.{◌≡◌, ℕ, ◌⊎◌, inl, inr, List, [], ◌∷◌, ◌++◌, refl, sym, ap, subst, ◌∙◌, append_assoc, append-nil}
use Rattle.deck_lines.specs.declared.deck_error.DeckError.TheVariants.{Truncated}
use Rattle.deck_syntax.specs.{Decks.{Cards, Asked, Stopped}, Sections.{Closed, asked_then, stream_section}, Spelling.{SpellsStream}}
use Rattle.deck_syntax.proofs.{Complete.{stream_blanks, asked_taken, stream_taken}, Sound.{Stream, streams}}
use Rattle.preflight.proofs.{Goes.{stop, Goes}, Good.{not_stopped, goes_on_there}}

pub spelled_goes : (asked : List Asked) (ls : List (List ℕ)) (n : ℕ) → SpellsStream ls asked → Goes n Closed ls asked
spelled_goes [] ls n are = λ more. stream_blanks ls more n are
spelled_goes (one ∷ asked) ls n (blanks, line, behind, rest, are, blanks_are, is, others) = λ more.
    let first = stream_blanks blanks (line ∷ behind ++ (rest ++ more)) n blanks_are in
    let taken = asked_taken line behind one first.0 (rest ++ more) is in
    let later = spelled_goes asked rest taken.0 others more in
    let lines_are : ls ++ more ≡ blanks ++ (line ∷ behind ++ (rest ++ more)) =
    ap (λ (xs : List (List ℕ)). xs ++ more) are ∙ append_assoc blanks (line ∷ behind ++ rest) more
    ∙ ap (λ (xs : List (List ℕ)). blanks ++ (line ∷ xs)) (append_assoc behind rest more) in
    (later.0, ap (λ (xs : List (List ℕ)). stream_section n Closed xs) lines_are ∙ first.1 ∙ taken.1 ∙ ap (asked_then one) later.1)

-- where the last of some lines stands among others
last_of : (xs ys zs : List (List ℕ)) (x y : List ℕ) → xs ++ x ∷ [] ≡ ys ++ y ∷ zs
    → ((ys ≡ xs)) ⊎ ((more : List (List ℕ)) × (xs ≡ ys ++ y ∷ more))
last_of [] [] zs x y is = inl refl
last_of [] (a ∷ ys) zs x y is = absurd (too_many ys zs y (tail_of x a [] (ys ++ y ∷ zs) is))
  where
    tail_of : (b c : List ℕ) (bs cs : List (List ℕ)) → b ∷ bs ≡ c ∷ cs → bs ≡ cs
    tail_of b c bs cs e = cc

    too_many : (ys zs : List (List ℕ)) (y : List ℕ) → [] ≡ ys ++ y ∷ zs → ⊥
    too_many [] zs y e = cc
    too_many (b ∷ ys) zs y e = cc
last_of (a ∷ xs) [] zs x y is = inr (xs, ap (λ (l : List ℕ). l ∷ xs) (head_of a y (xs ++ x ∷ []) zs is))
  where
    head_of : (b c : List ℕ) (bs cs : List (List ℕ)) → b ∷ bs ≡ c ∷ cs → b ≡ c
    head_of b c bs cs e = cc
last_of (a ∷ xs) (b ∷ ys) zs x y is = by (last_of xs ys zs x y (tails a b (xs ++ x ∷ []) (ys ++ y ∷ zs) is)) (heads a b (xs ++ x ∷ []) (ys ++ y ∷ zs) is)
  where
    tails : (b c : List ℕ) (bs cs : List (List ℕ)) → b ∷ bs ≡ c ∷ cs → bs ≡ cs
    tails b c bs cs e = cc

    heads : (b c : List ℕ) (bs cs : List (List ℕ)) → b ∷ bs ≡ c ∷ cs → b ≡ c
    heads b c bs cs e = cc

    by : (ys ≡ xs) ⊎ ((more : List (List ℕ)) × (xs ≡ ys ++ y ∷ more)) → a ≡ b → ((b ∷ ys ≡ a ∷ xs)) ⊎ ((more : List (List ℕ)) × (a ∷ xs ≡ b ∷ ys ++ y ∷ more))
    by (inl e) h = inl (ap (λ (ls : List (List ℕ)). b ∷ ls) e ∙ ap (λ (l : List ℕ). l ∷ xs) (sym h))
    by (inr (more, e)) h = inr (more, ap (λ (ls : List (List ℕ)). a ∷ ls) e ∙ ap (λ (l : List ℕ). l ∷ (ys ++ y ∷ more)) h)

pub goes_spelled : (ls : List (List ℕ)) (n : ℕ) (asked : List Asked) → Goes n Closed ls asked → SpellsStream ls asked
goes_spelled ls n asked goes =
    let g = goes (stop ∷ []) in
    let whole : stream_section n Closed (ls ++ stop ∷ []) ≡ record { asked = asked; ending = Stopped } = g.1 ∙ ap (λ (xs : List Asked). (let r : Cards = record { asked = xs; ending = Stopped } in r)) (append-nil asked) in
    let s = streams (ls ++ stop ∷ []) n Closed (record { asked = asked; ending = Stopped }) refl whole in
    by s (last_of ls s.stream s.unread stop s.line s.are)
  where
    by : (s : Stream (ls ++ stop ∷ []) (record { asked = asked; ending = Stopped })) → (s.stream ≡ ls) ⊎ ((more : List (List ℕ)) × (ls ≡ s.stream ++ s.line ∷ more)) → SpellsStream ls asked
    by s (inl e) = subst (λ (xs : List (List ℕ)). SpellsStream xs asked) e s.stream_is
    by s (inr (more, e)) =
        let there = goes_on_there n Closed ls asked goes in
        let here : stream_section n Closed (ls ++ []) ≡ record { asked = asked; ending = Stopped } =
        ap (λ (xs : List (List ℕ)). stream_section n Closed (xs ++ [])) e ∙ ap (λ (xs : List (List ℕ)). stream_section n Closed xs) (append_assoc s.stream (s.line ∷ more) [])
        ∙ stream_taken asked s.stream s.line (more ++ []) n s.stream_is s.card_is in
        not_stopped there.0 Truncated (sym there.1 ∙ ap (λ (c : Cards). c.ending) here)
