-- The words for why a text is not admitted (own): a line's code, or one of three more.
use Rattle.std.specs.Prelude.{ℕ, List, codes}
use Rattle.deck_lines.specs.Codes.{code_text}
use Rattle.preflight.specs.declared.why.Why.{Why}
use Rattle.preflight.specs.declared.why.Why.TheVariants.{Line, Foreign, Stops, Unfinished}

abbrev pub why_text : Why → List ℕ
why_text (Line code) = code_text code
why_text Foreign = codes "I1 FOREIGN ACCOUNT"
why_text Stops = codes "I2 STOP CARD"
why_text Unfinished = codes "I3 UNFINISHED"
