-- A piece that ends with a line end, taken line by line.
use Rattle.std.proofs.Common.{◌≡◌, ◌⊎◌, ℕ, ◌+◌, ◌≤◌, ◌<◌, Bool, true, false, ◌&&◌, not, List, [], ◌∷◌, ◌++◌, length, take, drop, refl, sym, ap, ◌∙◌, true≢false, inl, inr, arith, length-append}
use Rattle.std.{specs.List.{list_all}, proofs.lemmas.Bool.{cases_lt}, proofs.lemmas.List.{take_all, drop_all, drop-append-le}}
use Rattle.mon_text.specs.{Characters.{is_line_feed}, Feeding.{has_no_end}}
use Rattle.deck_driver.specs.{declared.feed.DeckFeed.{DeckFeed}, Feeds.{EndsLine, is_reading}, inner.Pieces.{LeavesNothing}}

has_end : (front : List ℕ) → has_no_end (front ++ 10 ∷ []) ≡ false
has_end [] = refl
has_end (c ∷ front) = by (not (is_line_feed c)) (has_end front)
  where
    by : (b : Bool) → has_no_end (front ++ 10 ∷ []) ≡ false → (b && has_no_end (front ++ 10 ∷ [])) ≡ false
    by true later = later
    by false later = refl

-- all of it is left
pub all_left : (piece : List ℕ) (f : DeckFeed) → EndsLine piece → LeavesNothing piece f
all_left piece f ends = inl ends

-- a line of it was taken
pub line_taken : (rest : List ℕ) (used : ℕ) (f g : DeckFeed) → 0 < length rest
    → (is_reading g.state ≡ true → (has_no_end (take used rest) ≡ true) ⊎ (g.line ≡ []))
    → LeavesNothing rest f → LeavesNothing (drop used rest) g
line_taken rest used f g some kept (inr (none, nothing)) = absurd (omega (arith, ap length none, some))
line_taken rest used f g some kept (inl (front, is)) = by (cases_lt (length front) used)
  where
    by : (length front < used) ⊎ (used ≤ length front) → LeavesNothing (drop used rest) g
    by (inr less) = inl (drop used front, ap (λ (v : List ℕ). drop used v) is ∙ drop-append-le used front (10 ∷ []) less)
    by (inl more) =
        let long : length rest ≤ used = omega (arith, more, ap length is, length-append front (10 ∷ [])) in
        inr (drop_all used rest long, λ reading. whole (kept reading))
      where
        whole : (has_no_end (take used rest) ≡ true) ⊎ (g.line ≡ []) → g.line ≡ []
        whole (inr nothing) = nothing
        whole (inl none) =
            let long : length rest ≤ used = omega (arith, more, ap length is, length-append front (10 ∷ [])) in
            absurd (true≢false (sym none ∙ ap has_no_end (take_all used rest long ∙ is) ∙ has_end front))

-- nothing of it is left
pub none_left : (rest : List ℕ) (f : DeckFeed) → rest ≡ [] → LeavesNothing rest f → is_reading f.state ≡ true → f.line ≡ []
none_left rest f none (inl (front, is)) = absurd (omega (arith, ap length (sym none ∙ is), length-append front (10 ∷ [])))
none_left rest f none (inr (empty, nothing)) = nothing
