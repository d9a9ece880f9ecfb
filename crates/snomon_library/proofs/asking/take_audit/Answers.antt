-- The words up to the one that stands out, that one, and what follows.
use Rattle.std.proofs.Common.{◌≡◌, ◌<◌, ◌++◌, false, true, [], Some, None, length, map, take, drop, get_or, arith, ap, sym, ◌∙◌, subst}
use Rattle.std.{specs.Option.{option_map}, specs.String.{string_bytes}, proofs.lemmas.List.{get_or-map, get_or_read, take-append-drop}}
use Rattle.clap.proofs.TakesLemmas.{passed_up}
use Rattle.snomon_library.specs.{Asking.{asked_in, asked_next, audit_of, file_in, is_end}, inner.Asking.{onto, stands_out}}
use Rattle.snomon_library.proofs.Before.{file_named, from_here, left_before, left_behind, next_none, next_taken, or_none, parts}
use Rattle.snomon_library.proofs.asking.take_audit.Goals as goal

pub returns-in_err-take_next-in-None-clause-refused : goal.returns-in_err-take_next-in-None-clause-refused
returns-in_err-take_next-in-None-clause-refused g c =
    let text = g.S.AsStr.text in
    let words = c.args.words.now.items in
    let texts = map text words in
    let at = c.others-at.result in
    let here : at < length words = omega (arith, c.if-at-len.false, c.len.ensures) in
    let word = c.index-2.result.now in
    let from = from_here text words at here word c.index-2.ensures in
    let one : c.index.result.now ≡ word = get_or_read words at c.index.result.now here c.index.ensures word ∙ sym c.index-2.ensures in
    let no_end : is_end (text word) ≡ false = ap (λ w. is_end (text w)) (sym one) ∙ ap is_end (sym c.as_str.ensures) ∙ sym c.is_end.ensures ∙ c.if-is_end.false in
    let passed : audit_of texts ≡ option_map (onto (take at texts)) (asked_in (drop at texts)) =
    subst (λ l. 0 < length l → audit_of (map text l) ≡ option_map (onto (take at (map text l))) (asked_in (drop at (map text l)))) c.as_slice.ensures.value
    (λ some. (c.others-at.ensures.passed some).1) (omega (arith, here)) in
    let no_file : file_in (text word) ≡ None = ap file_in (sym c.as_str-2.ensures) ∙ sym c.in_ok-named.ensures ∙ ap (option_map string_bytes) c.in-None.is in
    let at_word : get_or texts at [] ≡ text word = get_or-map text words at word [] here ∙ ap text (sym c.index-2.ensures) in
    let stands : stands_out (text word) ≡ true = ap stands_out (sym at_word)
    ∙ subst (λ l. at < length l → stands_out (get_or (map text l) at []) ≡ true) c.as_slice.ensures.value c.others-at.ensures.next here in
    let rest_is = left_behind text words at here c.remove.new.self.items c.remove.ensures.by_index.2 in
    passed_up c.from_residual-in_err-take_next-in-None.result c.in_err-take_next-in-None.field-0.0 _ c.from_residual-in_err-take_next-in-None.ensures.1
    (or_none (λ none. next_none texts at (text word) _ from passed no_end no_file stands (ap asked_next (sym rest_is) ∙ none)) c.in_err-take_next-in-None.ensures.refused)

pub returns-in_ok-checked-in-Some-clause-taken : goal.returns-in_ok-checked-in-Some-clause-taken
returns-in_ok-checked-in-Some-clause-taken g c =
    let text = g.S.AsStr.text in
    let words = c.args.words.now.items in
    let texts = map text words in
    let at = c.others-at.result in
    let here : at < length words = omega (arith, c.if-at-len.false, c.len.ensures) in
    let word = c.index-2.result.now in
    let from = from_here text words at here word c.index-2.ensures in
    let one : c.index.result.now ≡ word = get_or_read words at c.index.result.now here c.index.ensures word ∙ sym c.index-2.ensures in
    let no_end : is_end (text word) ≡ false = ap (λ w. is_end (text w)) (sym one) ∙ ap is_end (sym c.as_str.ensures) ∙ sym c.is_end.ensures ∙ c.if-is_end.false in
    let passed : audit_of texts ≡ option_map (onto (take at texts)) (asked_in (drop at texts)) =
    subst (λ l. 0 < length l → audit_of (map text l) ≡ option_map (onto (take at (map text l))) (asked_in (drop at (map text l)))) c.as_slice.ensures.value
    (λ some. (c.others-at.ensures.passed some).1) (omega (arith, here)) in
    let file : file_in (text word) ≡ Some (string_bytes c.in-Some.name) =
    ap file_in (sym c.as_str-2.ensures) ∙ sym c.in_ok-named.ensures ∙ ap (option_map string_bytes) c.in-Some.is in
    file_named texts at (text word) _ from passed no_end (string_bytes c.in-Some.name) _ _ file c.in_ok-checked-in-Some.ensures.file.0 c.in_ok-checked-in-Some.ensures.file.1
    (parts text words at here c.remove.new.self.items c.remove.ensures.by_index.2)

pub returns-in_ok-take_next-in-None-clause-taken : goal.returns-in_ok-take_next-in-None-clause-taken
returns-in_ok-take_next-in-None-clause-taken g c =
    let text = g.S.AsStr.text in
    let words = c.args.words.now.items in
    let texts = map text words in
    let at = c.others-at.result in
    let here : at < length words = omega (arith, c.if-at-len.false, c.len.ensures) in
    let word = c.index-2.result.now in
    let from = from_here text words at here word c.index-2.ensures in
    let one : c.index.result.now ≡ word = get_or_read words at c.index.result.now here c.index.ensures word ∙ sym c.index-2.ensures in
    let no_end : is_end (text word) ≡ false = ap (λ w. is_end (text w)) (sym one) ∙ ap is_end (sym c.as_str.ensures) ∙ sym c.is_end.ensures ∙ c.if-is_end.false in
    let passed : audit_of texts ≡ option_map (onto (take at texts)) (asked_in (drop at texts)) =
    subst (λ l. 0 < length l → audit_of (map text l) ≡ option_map (onto (take at (map text l))) (asked_in (drop at (map text l)))) c.as_slice.ensures.value
    (λ some. (c.others-at.ensures.passed some).1) (omega (arith, here)) in
    let no_file : file_in (text word) ≡ None = ap file_in (sym c.as_str-2.ensures) ∙ sym c.in_ok-named.ensures ∙ ap (option_map string_bytes) c.in-None.is in
    let at_word : get_or texts at [] ≡ text word = get_or-map text words at word [] here ∙ ap text (sym c.index-2.ensures) in
    let stands : stands_out (text word) ≡ true = ap stands_out (sym at_word)
    ∙ subst (λ l. at < length l → stands_out (get_or (map text l) at []) ≡ true) c.as_slice.ensures.value c.others-at.ensures.next here in
    let rest_is = left_behind text words at here c.remove.new.self.items c.remove.ensures.by_index.2 in
    let front_is = left_before text words at here c.remove.new.self.items c.remove.ensures.by_index.2 in
    let took = c.in_ok-take_next-in-None.ensures.taken in
    let left = map text c.take_next.new.words.items in
    next_taken texts at (text word) _ from passed no_end no_file stands _ (drop at left) left (ap asked_next (sym rest_is) ∙ took.0)
    (sym (take-append-drop at left) ∙ ap (λ l. l ++ drop at left) (took.1 ∙ front_is))
