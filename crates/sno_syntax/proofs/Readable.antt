-- Cards that spell a program are read as it, and cards that are not refused spell one.
use Rattle.std.proofs.Common.{◌≡◌, ◌+◌, ℕ, List, [], ◌∷◌, Option, Some, None, Result, Ok, Err, refl, sym, ap, ◌∙◌}
use Rattle.std.specs.{Prelude.{option_map}, Option.{option_or}}
use Rattle.sno_cards.specs.{declared.refusal.SyntaxCode.{SyntaxCode}, declared.refusal.SyntaxError.{SyntaxError}, Texts.{Placed}}
use Rattle.sno_lexer.specs.{declared.fault.LexFault.{LexFault}, Listed.{TokenList}}
use Rattle.sno_statement.specs.{Statements.{Statement}, declared.fault.Fault.{Fault}, inner.Faults.{fault}}
use Rattle.sno_statement.proofs.{Completing.{stated_read}, Leftmost.{none_fit}}
use Rattle.sno_syntax.specs.{declared.start.Start.{Start}, Labels.{LabelList, label_fault}, Programs.{TextSpells, SpellFrom}, Laws.{ReadsPrograms, SpellsOne}}
use Rattle.sno_syntax.specs.{Reading.{statement_on, statement_before, all_statements, program_by}, inner.Tokens.{AreTokensOf}}
use Rattle.sno_syntax.proofs.Behind.{given, given_stands, tokens_spell}
use Rattle.sno_syntax.specs.Refusals.{label_of, tokens_of, with_label, labels_in, start_in, end_refusal, fault_refusal, with_place, HasTokens, stage_refusal, label_first, statement_refusal, statements_refusal}

statement_spelled : (s : Statement) (tokens : Result TokenList SyntaxError) → AreTokensOf s tokens → statement_on tokens ≡ Some s
statement_spelled s (Ok list) a = stated_read s list.tokens a.1
statement_spelled s (Err refusal) a = absurd a

statements_spelled : (labels : LabelList) (i : ℕ) (texts : List (List Placed)) (ss : List Statement) → SpellFrom labels i texts ss
    → all_statements texts ≡ Some ss
statements_spelled labels i [] [] a = refl
statements_spelled labels i [] (s ∷ ss) a = absurd a
statements_spelled labels i (text ∷ texts) [] a = absurd a
statements_spelled labels i (text ∷ texts) (s ∷ ss) a =
    ap (λ o. statement_before o (all_statements texts)) (statement_spelled s (tokens_of text) (tokens_spell text s a.0.1))
    ∙ ap (λ o. statement_before (Some s) o) (statements_spelled (with_label labels (label_of text) i) (i + 1) texts ss a.1)

pub reads_programs : ReadsPrograms
reads_programs cards p a =
    ap (λ o. program_by o (labels_in cards.statements) (start_in cards)) (statements_spelled [] 0 cards.statements p.statements a.0)
    ∙ ap (λ o. program_by (Some p.statements) (labels_in cards.statements) o) a.2
    ∙ ap (λ (ls : LabelList). Some (record p { labels = ls })) (sym a.1)

no_fault : (text : List Placed) (offsets : List ℕ) (f : Option Fault) → option_map (fault_refusal text offsets) f ≡ None → f ≡ None
no_fault text offsets None e = refl
no_fault text offsets (Some f) e = absurd cc

-- what is refused nowhere spells a statement
clean_spells : (text : List Placed) (r : Result TokenList LexFault) → HasTokens text r → stage_refusal text (with_place text r) ≡ None
    → (s : Statement) × TextSpells text s
clean_spells text (Err fault) h e = absurd cc
clean_spells text (Ok list) h e = let q = none_fit list.tokens (no_fault text list.offsets (fault list.tokens) e) in (q.0, (list, h, q.1, q.2))

label_clean : (text : List Placed) (label : Option SyntaxCode) (later : Option SyntaxError) → label_first text label later ≡ None → (label ≡ None)
    × (later ≡ None)
label_clean text None later e = (refl, e)
label_clean text (Some code) later e = absurd cc

both_clean : (first later : Option SyntaxError) → option_or first later ≡ None → (first ≡ None) × (later ≡ None)
both_clean None later e = (refl, e)
both_clean (Some refusal) later e = absurd cc

texts_spell : (labels : LabelList) (i : ℕ) (texts : List (List Placed)) → statements_refusal labels i texts ≡ None → (ss : List Statement)
    × SpellFrom labels i texts ss
texts_spell labels i [] e = ([], tt)
texts_spell labels i (text ∷ texts) e =
    let b = both_clean (statement_refusal labels text) (statements_refusal (with_label labels (label_of text) i) (i + 1) texts) e in
    let l = label_clean text (label_fault labels (label_of text)) (stage_refusal text (tokens_of text)) b.0 in
    let s = clean_spells text (given text) (given_stands text) l.1 in
    let ss = texts_spell (with_label labels (label_of text) i) (i + 1) texts b.1 in
    (s.0 ∷ ss.0, ((l.0, s.1), ss.1))

start_said : (rest : List Placed) (start : Option Start) → end_refusal rest start ≡ None → (s : Start) × (start ≡ Some s)
start_said rest (Some s) e = (s, refl)
start_said rest None e = absurd cc

pub spells_one : SpellsOne
spells_one cards e =
    let b = both_clean (statements_refusal [] 0 cards.statements) (end_refusal cards.end_rest (start_in cards)) e in
    let ss = texts_spell [] 0 cards.statements b.0 in
    let s = start_said cards.end_rest (start_in cards) b.1 in
    (record { statements = ss.0; labels = labels_in cards.statements; start = s.0 }, (ss.1, refl, s.1))
