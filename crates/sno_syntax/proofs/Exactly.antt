-- The refusal of a statement is that of its leftmost fault.
use Rattle.std.proofs.Common.{◌≡◌, List, Option, Some, None, Result, Ok, Err, refl, sym, ap, ◌∙◌, inl, inr}
use Rattle.std.specs.Prelude.{option_map}
use Rattle.sno_cards.specs.{declared.refusal.SyntaxCode.{SyntaxCode}, declared.refusal.SyntaxError.{SyntaxError}, Texts.{Placed}}
use Rattle.sno_lexer.specs.{declared.fault.LexFault.{LexFault}, Listed.{TokenList}}
use Rattle.sno_statement.{specs.declared.fault.Fault.{Fault}, specs.inner.Faults.{fault}, proofs.Leftmost.{found, is_found}}
use Rattle.sno_syntax.{specs.Labels.{label_fault}, specs.Laws.{RefusedExactly}, proofs.Behind.{given, given_stands, only_given}, proofs.Shorthand.{IsRefusedBy}}
use Rattle.sno_syntax.specs.Refusals.{fault_refusal, stage_refusal, with_place, tokens_of, label_of, label_first, HasTokens, IsRefusedBehind}

behind : (text : List Placed) (r : Result TokenList LexFault) (e : SyntaxError) → HasTokens text r → stage_refusal text (with_place text r) ≡ Some e
    → IsRefusedBehind text e
behind text (Err f) e s h = inl (f, s, cc)
behind text (Ok list) e s h = at (fault list.tokens) refl h
  where
    at : (o : Option Fault) → fault list.tokens ≡ o → option_map (fault_refusal text list.offsets) o ≡ Some e → IsRefusedBehind text e
    at None d g = cc
    at (Some f) d g = inr (list, f, s, found list.tokens f d, cc)

ahead : (text : List Placed) (e : SyntaxError) → IsRefusedBehind text e → stage_refusal text (tokens_of text) ≡ Some e
ahead text e (inl p) = ap (stage_refusal text) (only_given text (Err p.0) p.1) ∙ ap Some (sym p.2)
ahead text e (inr p) =
    let list = p.0 in
    ap (stage_refusal text) (only_given text (Ok list) p.2)
    ∙ (ap (option_map (fault_refusal text list.offsets)) (is_found list.tokens p.1 p.3) ∙ ap Some (sym p.4))

by_label : (text : List Placed) (o : Option SyntaxCode) (e : SyntaxError) → label_first text o (stage_refusal text (tokens_of text)) ≡ Some e
    → IsRefusedBy text o e
by_label text (Some code) e h = cc
by_label text None e h = behind text (given text) e (given_stands text) h

from_label : (text : List Placed) (o : Option SyntaxCode) (e : SyntaxError) → IsRefusedBy text o e
    → label_first text o (stage_refusal text (tokens_of text)) ≡ Some e
from_label text (Some code) e h = ap Some (sym h)
from_label text None e h = ahead text e h

pub refused_exactly : RefusedExactly
refused_exactly labels text e = (by_label text (label_fault labels (label_of text)) e, from_label text (label_fault labels (label_of text)) e)
