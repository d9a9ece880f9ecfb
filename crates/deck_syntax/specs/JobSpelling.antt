-- Which lines are which job, and which cards give turns (own).
use Rattle.std.specs.Prelude.{◌≡◌, ◌⊎◌, ℕ, ◌≤◌, List, [], ◌∷◌, ◌++◌, if◌then◌else◌, IsTrue, codes}
use Rattle.mon_text.specs.Names.{is_name}
use Rattle.mon_text.specs.Counts.{IsCount, value_of}
use Rattle.sno_cards.specs.declared.limits.Limits.{Limits}
use Rattle.sno_cards.specs.Limits.{IsLimit}
use Rattle.deck_syntax.specs.declared.job_deck.UnitCard.{UnitCard}
use Rattle.deck_lines.specs.declared.card.Card.TheVariants as card
use Rattle.deck_syntax.specs.declared.job.OpenJob.{OpenJob}
use Rattle.deck_lines.specs.declared.turn.Turn.{Turn}
use Rattle.deck_lines.specs.Refusing.{is_dollar_line}
use Rattle.deck_lines.specs.CardLines.{IsLineWithin, IsCard}
use Rattle.deck_syntax.specs.Jobs.{usual_limits}

-- an option: this front, and then this limit
pub record SpellsLimit (front word : List ℕ) (limit : ℕ) : Type 0 where
  pub digits : List ℕ
  pub word_is : word ≡ front ++ digits
  pub count : IsCount digits
  pub value : value_of digits ≡ limit
  pub within : IsLimit limit

abbrev pub SpellsStatements : List ℕ → Limits → Type 0
SpellsStatements word limits = SpellsLimit (codes "ST=") word limits.statements

abbrev pub SpellsSteps : List ℕ → Limits → Type 0
SpellsSteps word limits = SpellsLimit (codes "MATCH=") word limits.steps

-- the options of a job with these limits, in either order; a limit that no option sets is the usual one
abbrev pub SpellsLimits : List (List ℕ) → Limits → Type 0
SpellsLimits [] limits = limits ≡ usual_limits
SpellsLimits (word ∷ []) limits =
    (SpellsStatements word limits × (limits.steps ≡ usual_limits.steps)) ⊎ (SpellsSteps word limits × (limits.statements ≡ usual_limits.statements))
SpellsLimits (word ∷ other ∷ []) limits =
    (SpellsStatements word limits × SpellsSteps other limits) ⊎ (SpellsSteps word limits × SpellsStatements other limits)
SpellsLimits _ limits = ⊥

-- the line of a unit card, with no blank before it
pub record SpellsUnit (line : List ℕ) (tie : UnitCard) : Type 0 where
  pub number : List ℕ
  pub card_is : IsCard 200 card.Tie (number ∷ tie.set ∷ []) line
  pub at_once : IsTrue (is_dollar_line line)
  pub count : IsCount number
  pub unit_is : tie.unit ≡ value_of number
  pub set_is : IsTrue (is_name tie.set)

abbrev pub SpellsUnits : List (List ℕ) → List UnitCard → Type 0
SpellsUnits [] [] = Unit {0}
SpellsUnits (line ∷ lines) (tie ∷ ties) = SpellsUnit line tie × SpellsUnits lines ties
SpellsUnits _ _ = ⊥

-- the line of a program or of its data: a text that begins with a dollar sign has one more there
abbrev pub SpellsText : List ℕ → List ℕ → Type 0
SpellsText line text = IsLineWithin 200 line × (line ≡ (if is_dollar_line text then 36 ∷ text else text))

abbrev pub SpellsTexts : List (List ℕ) → List (List ℕ) → Type 0
SpellsTexts [] [] = Unit {0}
SpellsTexts (line ∷ lines) (text ∷ texts) = SpellsText line text × SpellsTexts lines texts
SpellsTexts _ _ = ⊥

-- the lines of a job: its card, and those behind it: its unit cards, its program with its data, and `$EOJ`, with no blank
-- before it
pub record SpellsJob (line : List ℕ) (more : List (List ℕ)) (job : OpenJob) : Type 0 where
  pub options : List (List ℕ)
  pub unit_lines : List (List ℕ)
  pub program : List (List ℕ)
  pub end_card : List ℕ
  pub card_is : IsCard 200 card.Job (job.account ∷ options) line
  pub account_is : IsTrue (is_name job.account)
  pub limits_are : SpellsLimits options job.limits
  pub lines_are : more ≡ unit_lines ++ (program ++ end_card ∷ [])
  pub units_are : SpellsUnits unit_lines job.ties
  pub program_is : SpellsTexts program job.lines
  pub ends : IsCard 200 card.EndJob [] end_card
  pub at_once : IsTrue (is_dollar_line end_card)

-- the line of a card that gives turns
pub record SpellsTurn (line : List ℕ) (turn : Turn) : Type 0 where
  pub slot : List ℕ
  pub count : List ℕ
  pub card_is : IsCard 200 card.Turn (slot ∷ count ∷ []) line
  pub counts : IsCount slot × IsCount count
  pub slot_is : turn.slot ≡ value_of slot
  pub count_is : turn.count ≡ value_of count
  pub slot_within : (1 ≤ turn.slot) × (turn.slot ≤ 8)
  pub count_within : (1 ≤ turn.count) × (turn.count ≤ 1000000)

abbrev pub SpellsDrain : List ℕ → Type 0
SpellsDrain line = IsCard 200 card.Drain [] line
