-- The definitions on worked cases.
use Rattle.std.proofs.Common.{◌≡◌, ℕ, List, [], ◌∷◌, Result, Ok, Err, map, refl}
use Rattle.std.specs.Prelude.{codes}
use Rattle.sno_cards.specs.{declared.refusal.SyntaxError.{SyntaxError}, Texts.{text_of}, Programs.{ProgramText}, Statements.{refused_card, statements_of}}
use Rattle.sno_cards.specs.declared.refusal.SyntaxCode.TheVariants.{NoEndLine, NothingToContinue, UnknownControlCard}

-- the texts of the statements
abbrev texts_of : Result ProgramText SyntaxError → List (List ℕ)
texts_of (Ok program) = map text_of program.statements
texts_of (Err refusal) = []

-- a literal goes on across cards, and the `;` in it ends nothing
across_cards : texts_of (statements_of (codes "  A = 'X" ∷ codes "* note" ∷ codes "+;Y' ;B" ∷ codes "END" ∷ []))
    ≡ codes "  A = 'X ;Y' " ∷ codes "B" ∷ []
across_cards = refl

-- a label END elsewhere, and the END line
where_it_ends : texts_of (statements_of (codes ";END" ∷ codes "ENDX" ∷ codes "END;" ∷ codes "+ X" ∷ []))
    ≡ codes "END" ∷ codes "ENDX" ∷ []
where_it_ends = refl

-- the columns of a continuation are those of its card
its_own_columns : statements_of (codes "A" ∷ codes "+B" ∷ codes "END L" ∷ []) ≡ Ok (record {
  statements = (record { code = 65; place = record { card = 1; column = 1 } } ∷ record { code = 32; place = record { card = 2; column = 1 } }
      ∷ record { code = 66; place = record { card = 2; column = 2 } } ∷ []) ∷ [];
  end_rest = record { code = 32; place = record { card = 3; column = 4 } } ∷ record { code = 76; place = record { card = 3; column = 5 } } ∷ [];
  data_from = 3;
})
its_own_columns = refl

no_end_line : statements_of (codes "  A = 1" ∷ []) ≡ Err (refused_card 2 NoEndLine)
no_end_line = refl

nothing_to_continue : statements_of (codes "* note" ∷ codes "+ A" ∷ codes "END" ∷ []) ≡ Err (refused_card 2 NothingToContinue)
nothing_to_continue = refl

bad_card_first : statements_of (codes "  A = 1" ∷ codes "-COPY" ∷ []) ≡ Err (refused_card 2 UnknownControlCard)
bad_card_first = refl

either_case : statements_of (codes "-UnList 5" ∷ codes "END" ∷ []) ≡ Ok (record { statements = []; end_rest = []; data_from = 2 })
either_case = refl
