-- What holds of a round in parts: each law is the contract of a function in `laws`.
use Rattle.std.specs.Prelude.{◌≡◌, ℕ, nat_eq, ◌++◌, false, List, map}
use Rattle.std.specs.Map.{keys_of}
use Rattle.std.specs.Cmp.Lexicographic.{pointwise}
use Rattle.mon_access.specs.declared.account.Account.{Account}
use Rattle.mon_catalogue.specs.Sets.{Sets}
use Rattle.scheduler.specs.Marks.{Marks}
use Rattle.audit.specs.RunEnds.{stopped_line}
use Rattle.deck_driver.specs.declared.options.Options.{Options}
use Rattle.deck_driver.specs.Printouts.{output_of}
use Rattle.preflight.specs.declared.submission.Submission.{Submission}
use Rattle.preflight.specs.Rounds.{Handed}
use Rattle.parts_laws.specs.Runs.{GoWithNames, AreReady, numbers}
use Rattle.parts.specs.Told.{Told}
use Rattle.parts.specs.Splits.{speaks, goes}
use Rattle.parts.specs.Splits as splits
use Rattle.parts.specs.declared.text.Text.{Text}
use Rattle.parts.specs.declared.joining.Part.{Part}
use Rattle.parts.specs.Joining.{joined, texts_joined}
use Rattle.frame_laws.specs.Naming.{makes}
use Rattle.frame_laws.specs.Owners.{owners_of}
use Rattle.frame_laws.specs.Texts.{owners_behind_texts}
use Rattle.frame_audit.specs.Laws.{AreInParts}
use Rattle.rounds.specs.Compositions.{round_text, IsGoodRound}
use Rattle.rounds.specs.InParts.{numbered}
use Rattle.rounds.specs.Serving.{round_audit}
use Rattle.round_parts.specs.Names.{AreRead}
use Rattle.round_parts.specs.Outputs.{Wrote}

-- what `are_apart` says yes to
abbrev pub IsAccepted : Told → List Text → Type 0
IsAccepted told texts = GoWithNames speaks (goes told) (map splits.numbered texts)

-- with the data sets that there are, those that the texts may make are 1,000 at most, and no two have one name
abbrev pub HasRoom : List Handed → Sets → Type 0
HasRoom handed sets = AreReady (pointwise nat_eq) makes 1000 (numbered 0 0 handed) sets

abbrev pub SplitsAreLawful : Type 0
SplitsAreLawful = (slots : ℕ) (accounts : List Account) (told : Told) (texts : List Text) (handed : List Handed) (sets : Sets)
    → AreRead 0 texts handed → IsAccepted told texts → HasRoom handed sets
    → (marks : ℕ → Marks) → AreInParts slots accounts (goes told) (numbered 0 0 handed) sets marks

-- the places of a round's texts, and the names of the data sets behind it, in the order that its commands tell
abbrev pub places : List Handed → List ℕ
places handed = numbers (numbered 0 0 handed)

abbrev pub names_behind : List Account → List Handed → Sets → List (List ℕ)
names_behind accounts handed sets = keys_of (owners_behind_texts accounts (numbered 0 0 handed) (owners_of sets))

-- with some marks for the whole, these outputs, joined, are that of the round's deck, and these audits its audit
pub record IsJoined (options : Options) (head : List ℕ) (submissions : List Submission) (accounts : List Account) (sets : Sets) (handed : List Handed)
    (told : Told) (outputs audits : List Part) : Type 0 where
  pub all : Marks
  pub output : joined (goes told) outputs (places handed) (names_behind accounts handed sets) ≡ output_of options all (round_text head submissions)
  pub audit : texts_joined (goes told) audits (places handed) ++ stopped_line ≡ round_audit options all (round_text head submissions)

abbrev pub JoinedIsOutput : Type 0
JoinedIsOutput = (options : Options) (head : List ℕ) (submissions : List Submission) (table : List (List ℕ)) (accounts : List Account) (sets : Sets)
    (handed : List Handed) (told : Told) (texts : List Text) (marks : ℕ → Marks) (outputs audits : List Part)
    → options.check ≡ false → IsGoodRound head submissions table accounts sets handed
    → AreRead 0 texts handed → IsAccepted told texts → HasRoom handed sets
    → Wrote options.slots.number accounts (goes told) handed sets marks outputs audits
    → IsJoined options head submissions accounts sets handed told outputs audits
