-- The accounts that a table gives are those that its lines spell, and have different names.
use Rattle.std.proofs.Common.{◌≡◌, ℕ, ◌+◌, ◌==◌, Bool, true, false, if◌then◌else◌, List, [], ◌∷◌, ◌++◌, length, Option, None, Some, Result, Ok, Err, is_some, refl, sym, ap, subst, ◌∙◌, append_assoc, append-nil}
use Rattle.std.specs.{Prelude.{bytes_eq}, List.{IsDistinct}, Option.{option_or, option_map_or}, Str.Lines.{lines}, Cmp.Lexicographic.{nat_list_eq_equiv}}
use Rattle.std.proofs.lemmas.{List.{map-append}, Map.Keys.{IsDistinct-push}}
use Rattle.mon_text.specs.Lines.{is_blank_line, words}
use Rattle.mon_access.specs.{declared.account.Account.{Account}, Accounts.{find_account, names_of, HaveDifferentNames}}
use Rattle.deck_lines.specs.{declared.deck_error.DeckError.{DeckError}, CardLines.{IsLineWithin}, Refusing.{line_refusal, is_dollar_line}}
use Rattle.deck_syntax.specs.{Sections.{account_on, account_refusal, accounts_refusal, table_after}, Spelling.{SpellsAccounts}, inner.Parts.{heading_refusal}}
use Rattle.deck_syntax.proofs.{Spelled.{neither, taken_line}, Complete.{any_account}, Sound.{blank_before, account_spelled}}
use Rattle.site_plan.specs.declared.table.TableFault.{TableFault, TheVariants.{Line, Heading, NoAccount}}
use Rattle.site_plan.specs.{Walks.{and_then, at_line, walked}, Tables.{after_line, if_any}, Laws.{IsGoodTable, GivesAccounts}}

push_name : (done : List Account) (account : Account) → HaveDifferentNames done → is_some (find_account done account.name) ≡ false
    → HaveDifferentNames (done ++ account ∷ [])
push_name done account differ new =
    subst (IsDistinct bytes_eq) (sym (map-append (λ (a : Account). a.name) done (account ∷ [])))
    (IsDistinct-push nat_list_eq_equiv (names_of done) account.name differ (sym (any_account done account.name) ∙ new))

-- behind some accounts, lines spell the others
record Spelled (done : List Account) (ls : List (List ℕ)) (all : List Account) : Type 0 where
  later : List Account
  all_are : all ≡ done ++ later
  table_is : SpellsAccounts ls later
  differ : HaveDifferentNames all

spelled : (ls : List (List ℕ)) (n : ℕ) (done all : List Account) → HaveDifferentNames done → walked after_line n done ls ≡ Ok all → Spelled done ls all
spelled [] n done all differ is =
    let same : done ≡ all = cc in
    record { later = []; all_are = sym same ∙ sym (append-nil done); table_is = tt; differ = subst HaveDifferentNames same differ }
spelled (line ∷ ls) n done all differ is =
    by (option_or (line_refusal 200 line) (accounts_refusal done line)) refl is (λ accounts. spelled ls (n + 1) accounts all)
  where
    Later : Type 0
    Later = (accounts : List Account) → HaveDifferentNames accounts → walked after_line (n + 1) accounts ls ≡ Ok all → Spelled accounts ls all

    on : Result (List Account) TableFault → Result (List Account) (ℕ × TableFault)
    on r = and_then (at_line n r) (λ known. walked after_line (n + 1) known ls)

    in_table : (b : Bool) → is_blank_line line ≡ b → IsLineWithin 200 line → (if b then None else account_refusal done (words line)) ≡ None
        → on (Ok (if b then done else done ++ account_on (words line) ∷ [])) ≡ Ok all → Later → Spelled done (line ∷ ls) all
    in_table true blank within fine is later =
        let t = later done differ is in
        record { later = t.later; all_are = t.all_are; table_is = blank_before t.later line ls within.0 blank t.table_is; differ = t.differ }
    in_table false blank within fine is later =
        let account = account_on (words line) in
        let here = account_spelled done line within fine in
        let t = later (done ++ account ∷ []) (push_name done account differ here.1) is in
        record {
          later = account ∷ t.later;
          all_are = t.all_are ∙ append_assoc done (account ∷ []) t.later;
          table_is = ([], line, ls, refl, tt, here.0, t.table_is);
          differ = t.differ;
        }

    next : (b : Bool) → is_dollar_line line ≡ b → IsLineWithin 200 line
        → (if b then heading_refusal (words line) else (if is_blank_line line then None else account_refusal done (words line))) ≡ None
        → on (if b then Err Heading else Ok (table_after done line)) ≡ Ok all → Later → Spelled done (line ∷ ls) all
    next true dollar within fine is later = cc
    next false dollar within fine is later = in_table (is_blank_line line) refl within fine is later

    by : (r : Option DeckError) → option_or (line_refusal 200 line) (accounts_refusal done line) ≡ r
        → on (option_map_or (λ code. Err (Line code)) r (if is_dollar_line line then Err Heading else Ok (table_after done line))) ≡ Ok all
        → Later → Spelled done (line ∷ ls) all
    by (Some code) e is later = cc
    by None e is later = let both_none = neither (line_refusal 200 line) (accounts_refusal done line) e in
        next (is_dollar_line line) refl (taken_line 200 line both_none.0) both_none.1 is later

no_names : HaveDifferentNames []
unfolding IsDistinct
no_names = tt

pub gives_accounts : GivesAccounts
gives_accounts text accounts is = by (walked after_line 1 [] (lines text)) refl is
  where
    count : ℕ
    count = length (lines text)

    whole : (b : Bool) (known : List Account) → walked after_line 1 [] (lines text) ≡ Ok known → if◌then◌else◌ {A = Result (List Account) (ℕ × TableFault)} b (Err (count + 1, NoAccount)) (Ok known) ≡ Ok accounts
        → IsGoodTable (lines text) accounts
    whole true known e is = cc
    whole false known e is =
        let same : known ≡ accounts = cc in
        let s = spelled (lines text) 1 [] accounts no_names (e ∙ ap Ok same) in
        record { table_is = subst (SpellsAccounts (lines text)) (sym s.all_are) s.table_is; names_differ = s.differ }

    by : (r : Result (List Account) (ℕ × TableFault)) → walked after_line 1 [] (lines text) ≡ r → and_then r (if_any count) ≡ Ok accounts → IsGoodTable (lines text) accounts
    by (Err why) e is = cc
    by (Ok known) e is = whole (length known == 0) known e is
