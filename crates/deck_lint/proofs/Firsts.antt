-- The first reason of all is the one for which a load refuses a job.
use Rattle.std.proofs.Common.{◌≡◌, ℕ, ◌+◌, Bool, true, false, List, [], ◌∷◌, ◌++◌, Option, Some, None, Result, Ok, Err, refl, ap, ◌∙◌, append_assoc}
use Rattle.std.specs.{Prelude.{option_map, replicate, slice_set}, Option.{option_or}}
use Rattle.sno_cards.specs.{declared.refusal.SyntaxError.{SyntaxError}, Programs.{ProgramText}, Statements.{statements_of}, Texts.{Placed}}
use Rattle.sno_syntax.specs.{Labels.{LabelList}, Refusals.{label_of, with_label, statement_refusal, statements_refusal, start_in, end_refusal, syntax_refusal}}
use Rattle.mon_access.specs.{declared.account.Account.{Account}, Accounts.{find_account}}
use Rattle.deck_lines.specs.{declared.unit_error.UnitError.{UnitError}, Ties.{refused_by}}
use Rattle.deck_syntax.specs.declared.job_deck.{UnitCard.{UnitCard}, JobDeck.{JobDeck}}
use Rattle.load_refusal.specs.declared.load_error.LoadError.{LoadError, TheVariants.{NoAccount, Cards, Syntax}}
use Rattle.load_refusal.specs.Loads.{program_refusal, missing, job_refusal, cards_refused as first_tie_refused}
use Rattle.program_listing.specs.Refused.{listed, syntax_listed, statements_refused, end_refused, cards_refused, program_refused}
use Rattle.deck_lint.specs.Refused.{first_of, tied_after, tie_listed, ties_refused, deck_refused}

-- LISTS

of_listed : (o : Option LoadError) (reasons : List LoadError) → first_of (listed o ++ reasons) ≡ option_or o (first_of reasons)
of_listed None reasons = refl
of_listed (Some reason) reasons = refl

of_one : (o : Option LoadError) → first_of (listed o) ≡ o
of_one None = refl
of_one (Some reason) = refl

of_both : (reasons more : List LoadError) → first_of (reasons ++ more) ≡ option_or (first_of reasons) (first_of more)
of_both [] more = refl
of_both (reason ∷ reasons) more = refl

-- UNIT CARDS

tie_more : (o : Option UnitError) (card : UnitCard) (cards : List UnitCard) (tied : List Bool)
    → ((after : List Bool) → first_of (ties_refused cards after) ≡ option_map Cards (first_tie_refused cards after))
    → first_of (tie_listed o ++ ties_refused cards (tied_after o card.unit tied))
    ≡ option_map Cards (option_or o (first_tie_refused cards (slice_set tied card.unit true)))
tie_more None card cards tied others = others (slice_set tied card.unit true)
tie_more (Some refusal) card cards tied others = refl

of_ties : (cards : List UnitCard) (tied : List Bool) → first_of (ties_refused cards tied) ≡ option_map Cards (first_tie_refused cards tied)
of_ties [] tied = refl
of_ties (card ∷ cards) tied = tie_more (refused_by card.unit tied) card cards tied (of_ties cards)

-- THE PROGRAM

syntax_more : (o later : Option SyntaxError) (reasons : List LoadError) → first_of reasons ≡ option_map Syntax later
    → first_of (syntax_listed o ++ reasons) ≡ option_map Syntax (option_or o later)
syntax_more None later reasons first = first
syntax_more (Some refusal) later reasons first = refl

of_statements : (labels : LabelList) (index : ℕ) (texts : List (List Placed))
    → first_of (statements_refused labels index texts) ≡ option_map Syntax (statements_refusal labels index texts)
of_statements labels index [] = refl
of_statements labels index (text ∷ texts) =
    let after = with_label labels (label_of text) index in
    syntax_more (statement_refusal labels text) (statements_refusal after (index + 1) texts) (statements_refused after (index + 1) texts)
    (of_statements after (index + 1) texts)

syntax_or : (o later : Option SyntaxError) → option_or (option_map Syntax o) (option_map Syntax later) ≡ option_map Syntax (option_or o later)
syntax_or None later = refl
syntax_or (Some refusal) later = refl

of_cards : (cards : ProgramText) → first_of (cards_refused cards) ≡ option_map Syntax (syntax_refusal cards)
of_cards cards =
    let statements = statements_refusal [] 0 cards.statements in
    let end = end_refusal cards.end_rest (start_in cards) in
    of_both (statements_refused [] 0 cards.statements) (end_refused cards.end_rest (start_in cards))
    ∙ ap (λ o. option_or o (first_of (end_refused cards.end_rest (start_in cards)))) (of_statements [] 0 cards.statements)
    ∙ ap (λ o. option_or (option_map Syntax statements) o) (of_one (option_map Syntax end))
    ∙ syntax_or statements end

of_program : (said : Result ProgramText SyntaxError) → first_of (program_refused said) ≡ program_refusal said
of_program (Ok cards) = of_cards cards
of_program (Err refusal) = refl

-- THE JOB

pub first_refusal : (accounts : List Account) (deck : JobDeck) → first_of (deck_refused accounts deck) ≡ job_refusal accounts deck
first_refusal accounts deck =
    let account = missing NoAccount (find_account accounts deck.account) in
    let ties = ties_refused deck.ties (replicate 100 false) in
    let program = program_refused (statements_of deck.lines) in
    ap first_of (append_assoc (listed account) ties program)
    ∙ of_listed account (ties ++ program)
    ∙ ap (λ o. option_or account o)
    (of_both ties program
    ∙ ap (λ o. option_or o (first_of program)) (of_ties deck.ties (replicate 100 false))
    ∙ ap (λ o. option_or (option_map Cards (first_tie_refused deck.ties (replicate 100 false))) o) (of_program (statements_of deck.lines)))

-- the same, of what was put reason by reason
pub first_gathered : (accounts : List Account) (deck : JobDeck) (none one two three : List LoadError) (ties : List UnitCard) (lines : List (List ℕ))
    → ties ≡ deck.ties → lines ≡ deck.lines
    → none ≡ [] → one ≡ none ++ listed (missing NoAccount (find_account accounts deck.account)) → two ≡ one ++ ties_refused ties (replicate 100 false)
    → three ≡ two ++ program_refused (statements_of lines) → first_of three ≡ job_refusal accounts deck
first_gathered accounts deck none one two three ties lines ties_are lines_are none_is one_is two_is three_is =
    let account = listed (missing NoAccount (find_account accounts deck.account)) in
    let cards = one_is ∙ ap (λ (xs : List LoadError). xs ++ account) none_is in
    let tied = two_is ∙ ap (λ (xs : List LoadError). xs ++ ties_refused ties (replicate 100 false)) cards ∙ ap (λ (cards : List UnitCard). account ++ ties_refused cards (replicate 100 false)) ties_are in
    let all = three_is ∙ ap (λ (xs : List LoadError). xs ++ program_refused (statements_of lines)) tied
    ∙ ap (λ (ls : List (List ℕ)). (account ++ ties_refused deck.ties (replicate 100 false)) ++ program_refused (statements_of ls)) lines_are in
    ap first_of all ∙ first_refusal accounts deck
