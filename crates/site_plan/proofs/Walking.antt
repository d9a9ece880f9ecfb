-- A text, read line by line: what is known so far, and the lines that are left, come to what the whole text comes to.
use Rattle.std.proofs.Common.{◌≡◌, ℕ, ◌+◌, List, [], ◌∷◌, Result, Ok, Err, sym, ap, ◌∙◌}
use Rattle.std.specs.Str.Lines.{lines}
use Rattle.mon_text.specs.{declared.stop.Stop.{Stop}, declared.stop.Stop.TheVariants.{Refused, Memory}, Stops.{Gives}}
use Rattle.preflight.specs.Submissions.{IfStopped}
use Rattle.site_plan.specs.Walks.{and_then, at_line, walked, stop_at}

module _ {S W : Type 0} (after : S → List ℕ → Result S W) where
  -- one line more
  pub walk_on : (n : ℕ) (known next : S) (rest line behind : List ℕ) (all : Result S (ℕ × W)) → walked after n known (lines rest) ≡ all → lines rest ≡ line ∷ lines behind
      → after known line ≡ Ok next → walked after (n + 1) next (lines behind) ≡ all
  walk_on n known next rest line behind all so_far parts good =
      sym (ap (λ r. and_then (at_line n r) (λ known. walked after (n + 1) known (lines behind))) good) ∙ (sym (ap (walked after n known) parts) ∙ so_far)

  -- a line that is wrong
  pub walk_stops : (n : ℕ) (known : S) (rest line behind : List ℕ) (all : Result S (ℕ × W)) (why : W) → walked after n known (lines rest) ≡ all → lines rest ≡ line ∷ lines behind
      → after known line ≡ Err why → all ≡ Err (n, why)
  walk_stops n known rest line behind all why so_far parts bad =
      sym so_far ∙ (ap (walked after n known) parts ∙ ap (λ r. and_then (at_line n r) (λ known. walked after (n + 1) known (lines behind))) bad)

  -- a call that stopped there
  stopped : {A : Type 0} (seen : A → S) (n : ℕ) (known : S) (rest line behind : List ℕ) (all : Result S (ℕ × W)) (stop : Stop W) → walked after n known (lines rest) ≡ all
      → lines rest ≡ line ∷ lines behind → IfStopped (λ why. after known line ≡ Err why) stop → Gives seen (Err (stop_at n stop)) all
  stopped seen n known rest line behind all (Refused why) so_far parts bad = walk_stops n known rest line behind all why so_far parts bad
  stopped seen n known rest line behind all Memory so_far parts bad = tt
