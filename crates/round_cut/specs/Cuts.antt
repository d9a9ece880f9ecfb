-- Splits of the texts of a round as they were handed in (own).
use Rattle.std.specs.Prelude.{◌≡◌, ℕ, suc, nat_eq, List, [], ◌∷◌, ◌++◌, length}
use Rattle.std.specs.List.{IsDistinct, sum_by}
use Rattle.std.specs.Map.{keys_of}
use Rattle.std.specs.Str.Lines.{lines}
use Rattle.std.specs.Cmp.Lexicographic.{pointwise}
use Rattle.mon_access.specs.declared.account.Account.{Account}
use Rattle.mon_catalogue.specs.Sets.{Sets}
use Rattle.scheduler.specs.Marks.{Marks}
use Rattle.deck_syntax.specs.Decks.{Asked}
use Rattle.preflight.specs.declared.submission.Submission.{Submission}
use Rattle.preflight.specs.Examined.{IsSubmission}
use Rattle.preflight.specs.Rounds.{Handed}
use Rattle.preflight.specs.Submissions.{IsAdmitted}
use Rattle.text_names.specs.Names.{Speaks}
use Rattle.parts_laws.specs.Runs.{GoWithNames}
use Rattle.parts.specs.Told.{Told}
use Rattle.parts.specs.Splits.{goes}
use Rattle.parts.specs.declared.text.Text.{Text}
use Rattle.frame_laws.specs.Naming.{speak_of}
use Rattle.frame_audit.specs.Laws.{AreInParts}
use Rattle.rounds.specs.InParts.{numbered}

-- how many data sets these texts may make
abbrev pub creations : List Submission → ℕ
creations submissions = sum_by (λ one. one.tally.creates) submissions

-- these were admitted, and ask for this
abbrev pub AreKept : List Submission → List Handed → Type 0
AreKept [] [] = Unit {0}
AreKept [] (text ∷ handed) = ⊥
AreKept (one ∷ submissions) [] = ⊥
AreKept (one ∷ submissions) (text ∷ handed) = IsAdmitted one text.asked × AreKept submissions handed

-- each name that a text speaks of goes where the text goes
abbrev pub SpeaksOfItsOwn : Told → List Submission → Type 0
SpeaksOfItsOwn told submissions = (handed : List Handed) → AreKept submissions handed → GoWithNames speak_of (goes told) (numbered 0 0 handed)

-- The round runs in parts by such a split, over whatever data sets, if there are so many, of different names: each text prints and is
-- audited in its part as in the whole, and the parts leave what the whole leaves.
abbrev pub IsLawful : Told → List Submission → ℕ → Type 0
IsLawful told submissions n = (slots : ℕ) (accounts : List Account) (handed : List Handed) (sets : Sets) → AreKept submissions handed
    → length sets ≡ n → IsDistinct (pointwise nat_eq) (keys_of sets) → (marks : ℕ → Marks)
    → AreInParts slots accounts (goes told) (numbered 0 0 handed) sets marks

-- a text as it is read of what was kept, by its place
pub record IsReadFrom (n : ℕ) (one : Submission) (text : Text) : Type 0 where
  pub number : text.number ≡ n
  pub speaks : (own : List ℕ) (asked : List Asked) → IsSubmission own (lines one.text.items) asked → Speaks text.names.items text.all asked

-- one text more was read
pub record AddsOne (n : ℕ) (one : Submission) (before after : List Text) : Type 0 where
  pub text : Text
  pub read : IsReadFrom n one text
  pub is : after ≡ before ++ text ∷ []

abbrev pub AreReadFrom : ℕ → List Submission → List Text → Type 0
AreReadFrom n [] [] = Unit {0}
AreReadFrom n [] (text ∷ texts) = ⊥
AreReadFrom n (one ∷ submissions) [] = ⊥
AreReadFrom n (one ∷ submissions) (text ∷ texts) = IsReadFrom n one text × AreReadFrom (suc n) submissions texts
