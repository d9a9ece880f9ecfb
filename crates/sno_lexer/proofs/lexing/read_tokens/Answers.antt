use Rattle.std.proofs.Common.{arith, ◌+◌, ◌-◌, ◌≡◌, ◌∙◌, ℕ, List, Ok, Err, ap, sym, length, drop, drop-drop, take, get_or}
use Rattle.std.{specs.Prelude.{true, false, nat_lt}, proofs.lemmas.List.{take_rest}}
use Rattle.sno_lexer.specs.{declared.lexing.Action.TheVariants.{Take, Refuse}, declared.begin.{Context.{Context}, Class.TheVariants.{Identifier}}, inner.Classes.{further}}
use Rattle.sno_lexer.{specs.inner.Lexing.{after, stage, step}, specs.Lexed.{lexed}, proofs.Runs.{more}}
use Rattle.sno_lexer.proofs.Loop.{at_blank, at_other, joined, taken_fits, taken_line, tokens_left, within_after, within_passed, within_passed_over, on_pass, on_passed, on_refuse, as_many_taken}
use Rattle.sno_lexer.proofs.lexing.read_tokens.Goals as goal

pub token_of-requires-clause-line : goal.token_of-requires-clause-line
token_of-requires-clause-line c =
    let text = c.args.text.now in
    let at = c.loop-offset.offset in
    let s = c.loop-offset.context in
    let rest = take (length text - at) (drop at text) in
    let out : nat_lt 0 s.skip ≡ false = ap (nat_lt 0) c.loop-offset.invariant.none in
    let found : step s rest ≡ Take c.in-Ok.class = at_other s rest (Ok c.in-Ok.class) out (sym c.if-begins_with.ensures) c.in-Ok.ensures in
    rw c.text_of-word.ensures.value (taken_line s rest c.in-Ok.class found)

pub after-context-requires-in-Ok-clause-tokens : goal.after-context-requires-in-Ok-clause-tokens
after-context-requires-in-Ok-clause-tokens c =
    let text = c.args.text.now in
    let at = c.loop-offset.offset in
    let s = c.loop-offset.context in
    let rest = take (length text - at) (drop at text) in
    let out : nat_lt 0 s.skip ≡ false = ap (nat_lt 0) c.loop-offset.invariant.none in
    let found : step s rest ≡ Take c.in-Ok.class = at_other s rest (Ok c.in-Ok.class) out (sym c.if-begins_with.ensures) c.in-Ok.ensures in
    tokens_left s c.in-Ok.class (taken_fits s rest c.in-Ok.class found)

pub returns-in-Err : goal.returns-in-Err
returns-in-Err c =
    let text = c.args.text.now in
    let at = c.loop-offset.offset in
    let s = c.loop-offset.context in
    let tokens = c.loop-offset.tokens.items in
    let offsets = c.loop-offset.offsets.items in
    let rest = take (length text - at) (drop at text) in
    let out : nat_lt 0 s.skip ≡ false = ap (nat_lt 0) c.loop-offset.invariant.none in
    let found : step s rest ≡ Refuse c.in-Err.kind = at_other s rest (Err c.in-Err.kind) out (sym c.if-begins_with.ensures) c.in-Err.ensures in
    let so_far = ap (λ (x : List ℕ). joined tokens offsets (stage s at x)) (take_rest text at) ∙ c.loop-offset.invariant.all in
    sym (on_refuse s at (get_or text at 0) rest (drop (at + 1) text) c.in-Err.kind tokens offsets (lexed text c.args.from)
    (take_rest text at ∙ more text at c.loop-offset-test.true) found so_far)

pub loop-offset-preserved-then-begins_with : goal.loop-offset-preserved-then-begins_with
loop-offset-preserved-then-begins_with c =
    let text = c.args.text.now in
    let at = c.loop-offset.offset in
    let s = c.loop-offset.context in
    let tokens = c.loop-offset.tokens.items in
    let offsets = c.loop-offset.offsets.items in
    let all = lexed text c.args.from in
    let rest = take (length text - at) (drop at text) in
    let later = drop (at + 1) text in
    let first = get_or text at 0 in
    let d = take_rest text at ∙ more text at c.loop-offset-test.true in
    let inv = c.loop-offset.invariant in
    let so_far = ap (λ (x : List ℕ). joined tokens offsets (stage s at x)) (take_rest text at) ∙ inv.all in
    let out : nat_lt 0 s.skip ≡ false = ap (nat_lt 0) inv.none in
    let next = record s { after_blank = true } in
    let passed = at_blank s rest out (sym c.if-begins_with.ensures) in
    record {
      all = on_pass s next at first rest later tokens offsets all d passed so_far;
      as_many = inv.as_many;
      within = within_passed s next rest inv.within passed;
      none = inv.none;
    }

pub after-context-requires-clause-tokens : goal.after-context-requires-clause-tokens
after-context-requires-clause-tokens c =
    let text = c.args.text.now in
    let at = c.loop-offset.offset in
    let s = c.loop-offset.context in
    let rest = take (length text - at) (drop at text) in
    let out : nat_lt 0 s.skip ≡ false = ap (nat_lt 0) c.loop-offset.invariant.none in
    let is = c.begins_plainly.ensures c.if-begins_plainly.true in
    let found : step s rest ≡ Take Identifier = at_other s rest (Ok Identifier) out (sym c.if-begins_with.ensures) is in
    tokens_left s Identifier (taken_fits s rest Identifier found)

pub loop-offset-preserved-then-begins_plainly : goal.loop-offset-preserved-then-begins_plainly
loop-offset-preserved-then-begins_plainly c =
    let text = c.args.text.now in
    let at = c.loop-offset.offset in
    let s = c.loop-offset.context in
    let tokens = c.loop-offset.tokens.items in
    let offsets = c.loop-offset.offsets.items in
    let all = lexed text c.args.from in
    let rest = take (length text - at) (drop at text) in
    let later = drop (at + 1) text in
    let first = get_or text at 0 in
    let d = take_rest text at ∙ more text at c.loop-offset-test.true in
    let inv = c.loop-offset.invariant in
    let so_far = ap (λ (x : List ℕ). joined tokens offsets (stage s at x)) (take_rest text at) ∙ inv.all in
    let out : nat_lt 0 s.skip ≡ false = ap (nat_lt 0) inv.none in
    let token = c.identifier.result in
    let is = c.begins_plainly.ensures c.if-begins_plainly.true in
    let found : step s rest ≡ Take Identifier = at_other s rest (Ok Identifier) out (sym c.if-begins_with.ensures) is in
    let pushed = c.in_ok-push.ensures.items in
    let placed = c.in_ok-push-2.ensures.items in
    let size = c.further-more.ensures in
    let behind = at + (1 + c.further-more.result) in
    let place : behind ≡ at + 1 + further Identifier rest = omega (arith, size) in
    record {
      all = on_passed s c.after-context.result at first behind rest later (drop behind text) Identifier token tokens c.push.new.self.items offsets
          c.push-then-begins_plainly.new.self.items all d found so_far c.identifier.ensures pushed placed c.after-context.ensures place
          (ap (λ (k : ℕ). drop k text) place ∙ sym (drop-drop (further Identifier rest) (at + 1) text));
      as_many = as_many_taken at token tokens c.push.new.self.items offsets c.push-then-begins_plainly.new.self.items inv.as_many pushed placed;
      within = rw c.after-context.ensures
          (within_passed_over (after s Identifier rest) (within_after s Identifier rest inv.within (taken_fits s rest Identifier found)));
      none = ap (λ (x : Context). x.skip) c.after-context.ensures;
    }

pub loop-offset-preserved : goal.loop-offset-preserved
loop-offset-preserved c =
    let text = c.args.text.now in
    let at = c.loop-offset.offset in
    let s = c.loop-offset.context in
    let tokens = c.loop-offset.tokens.items in
    let offsets = c.loop-offset.offsets.items in
    let all = lexed text c.args.from in
    let rest = take (length text - at) (drop at text) in
    let later = drop (at + 1) text in
    let first = get_or text at 0 in
    let d = take_rest text at ∙ more text at c.loop-offset-test.true in
    let inv = c.loop-offset.invariant in
    let so_far = ap (λ (x : List ℕ). joined tokens offsets (stage s at x)) (take_rest text at) ∙ inv.all in
    let out : nat_lt 0 s.skip ≡ false = ap (nat_lt 0) inv.none in
    let class = c.in-Ok.class in
    let token = c.in_ok-token-in-Ok.token in
    let found : step s rest ≡ Take class = at_other s rest (Ok class) out (sym c.if-begins_with.ensures) c.in-Ok.ensures in
    let pushed = c.in_ok-push-in-Ok.ensures.items in
    let placed = c.in_ok-push-in-Ok-2.ensures.items in
    let size = c.further-more-in-Ok.ensures in
    let behind = at + (1 + c.further-more-in-Ok.result) in
    let place : behind ≡ at + 1 + further class rest = omega (arith, size) in
    record {
      all = on_passed s c.after-context-in-Ok.result at first behind rest later (drop behind text) class token tokens c.push-in-Ok.new.self.items offsets
          c.push-in-Ok-2.new.self.items all d found so_far c.in_ok-token-in-Ok.ensures pushed placed c.after-context-in-Ok.ensures place
          (ap (λ (k : ℕ). drop k text) place ∙ sym (drop-drop (further class rest) (at + 1) text));
      as_many = as_many_taken at token tokens c.push-in-Ok.new.self.items offsets c.push-in-Ok-2.new.self.items inv.as_many pushed placed;
      within = rw c.after-context-in-Ok.ensures (within_passed_over (after s class rest) (within_after s class rest inv.within (taken_fits s rest class found)));
      none = ap (λ (x : Context). x.skip) c.after-context-in-Ok.ensures;
    }
