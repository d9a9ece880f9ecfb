-- Lines that are written one after another, each ended by LF, are cut at each LF into the same lines, where neither LF nor CR is a
-- character of theirs.
use Rattle.std.proofs.Common.{◌≡◌, ℕ, ◌-◌, ◌<◌, Bool, true, false, if◌then◌else◌, List, [], ◌∷◌, ◌++◌, length, take, get_or, refl, sym, ap, ◌∙◌, true≢false, arith, append_assoc, ◌==◌}
use Rattle.std.specs.{List.{list_all, flat_map, slice_split, AllByRecursion}, Str.Lines.{lines, lines_of_parts, strip_carriage_return}}
use Rattle.std.proofs.lemmas.List.{Folds.{list_all_at}, Splits.{slice_split_at}}
use borrow.Author.Tests.{eqb-true}

abbrev is_line_feed : ℕ → Bool
is_line_feed c = c == 10

abbrev written : List (List ℕ) → List ℕ
written ls = flat_map (λ line. line ++ 10 ∷ []) ls

module _ (is_good : ℕ → Bool) (no_feed : is_good 10 ≡ false) (no_return : is_good 13 ≡ false) where
  abbrev IsGood : List ℕ → Type 0
  IsGood line = list_all is_good line ≡ true

  -- what is no such character stands nowhere in a line
  nowhere : (line : List ℕ) (c : ℕ) → IsGood line → is_good c ≡ false → (k d : ℕ) → k < length line → (get_or line k d == c) ≡ false
  nowhere line c good not k d below = by (get_or line k d == c) refl
    where
      by : (b : Bool) → (get_or line k d == c) ≡ b → b ≡ false
      by false e = refl
      by true e = absurd (true≢false (sym good ∙ list_all_at is_good line k d below (ap is_good (eqb-true (get_or line k d) c e) ∙ not)))

  -- no line ends with CR
  strips_nothing : (line : List ℕ) → IsGood line → strip_carriage_return line ≡ line
  strips_nothing [] good = refl
  strips_nothing (c ∷ cs) good =
      ap (λ (b : Bool). if b then take (length (c ∷ cs) - 1) (c ∷ cs) else (c ∷ cs))
      (nowhere (c ∷ cs) 13 good no_return (length (c ∷ cs) - 1) 0 (omega arith))

  -- the pieces between LF are the lines, and nothing after the last LF
  parts_are : (ls : List (List ℕ)) → AllByRecursion IsGood ls → slice_split is_line_feed (written ls) ≡ ls ++ [] ∷ []
  parts_are [] are = refl
  parts_are (line ∷ ls) (is, are) =
      ap (slice_split is_line_feed) (append_assoc line (10 ∷ []) (written ls))
      ∙ slice_split_at is_line_feed line 10 (written ls) (nowhere line 10 is no_feed) refl
      ∙ ap (λ (parts : List (List ℕ)). line ∷ parts) (parts_are ls are)

  -- of these pieces each but the last is a line
  lines_kept : (ls : List (List ℕ)) → AllByRecursion IsGood ls → lines_of_parts (ls ++ [] ∷ []) ≡ ls
  lines_kept [] are = refl
  lines_kept (line ∷ []) (is, are) = ap (λ (l : List ℕ). l ∷ []) (strips_nothing line is)
  lines_kept (line ∷ next ∷ ls) (is, are) =
      ap (λ (l : List ℕ). l ∷ lines_of_parts (next ∷ (ls ++ [] ∷ []))) (strips_nothing line is)
      ∙ ap (λ (others : List (List ℕ)). line ∷ others) (lines_kept (next ∷ ls) are)

  pub lines_written : (ls : List (List ℕ)) → AllByRecursion IsGood ls → lines (written ls) ≡ ls
  lines_written ls are = ap {B = List (List ℕ)} lines_of_parts (parts_are ls are) ∙ lines_kept ls are
