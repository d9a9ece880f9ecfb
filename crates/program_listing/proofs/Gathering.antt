-- What a statement more adds.
use Rattle.std.proofs.Common.{◌≡◌, ℕ, ◌+◌, List, ◌∷◌, ◌++◌, drop, sym, ap, ◌∙◌, append_assoc}
use Rattle.sno_cards.specs.Texts.{Placed}
use Rattle.sno_syntax.specs.{Labels.{LabelList}, Refusals.{label_of, with_label, labels_from, statement_refusal}}
use Rattle.load_refusal.specs.declared.load_error.LoadError.{LoadError}
use Rattle.program_listing.specs.Refused.{syntax_listed, statements_refused}

module _ (texts : List (List Placed)) (labels next : LabelList) (i : ℕ) (text : List Placed) (here : drop i texts ≡ text ∷ drop (i + 1) texts)
    (noted : next ≡ with_label labels (label_of text) i) where
  abbrev rest : List (List Placed)
  rest = drop (i + 1) texts

  -- what was put so far, with the reasons of the statements that are left, is the whole
  pub found_more : (before found whole : List LoadError) → before ++ statements_refused labels i (drop i texts) ≡ whole
      → found ≡ before ++ syntax_listed (statement_refusal labels text) → found ++ statements_refused next (i + 1) rest ≡ whole
  found_more before found whole so_far put =
      let reasons = syntax_listed (statement_refusal labels text) in
      ap (λ reached. reached ++ statements_refused next (i + 1) rest) put
      ∙ append_assoc before reasons (statements_refused next (i + 1) rest)
      ∙ ap (λ ls. before ++ (reasons ++ statements_refused ls (i + 1) rest)) noted
      ∙ sym (ap (λ ts. before ++ statements_refused labels i ts) here)
      ∙ so_far

  pub labels_more : (whole : LabelList) → labels_from labels i (drop i texts) ≡ whole → labels_from next (i + 1) rest ≡ whole
  labels_more whole so_far = ap (λ ls. labels_from ls (i + 1) rest) noted ∙ sym (ap (labels_from labels i) here) ∙ so_far
