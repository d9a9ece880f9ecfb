use Rattle.std.proofs.Common.{◌≡◌, ◌++◌, [], length, append-nil, sym, ap, ◌∙◌, arith}
use Rattle.std.proofs.lemmas.{List.{nil_from_length}, Bool.Decides.{nat_tests}}
use Rattle.sno_cards.{specs.Statements.{placed_on}, proofs.Placing.{appended_ok, still_ascends}}
use Rattle.sno_cards.proofs.text.StatementText.append.Goals as goal

pub returns-then-is_empty : goal.returns-then-is_empty
returns-then-is_empty c =
    let count : length c.args.text.now ≡ 0 = grind (arith, nat_tests) in
    let none : c.args.text.now ≡ [] = nil_from_length c.args.text.now count in
    sym (append-nil c.args.self.now) ∙ ap (λ text. c.args.self.now ++ placed_on c.args.card c.args.column text) (sym none)

pub invariant_of-self-2 : goal.invariant_of-self-2
invariant_of-self-2 c =
    let at_end : c.len-offset.result ≡ length c.self.inside.text.items = omega arith in
    still_ascends c.extend_from_slice.result c.self.inside.segments.items c.push.new.self.items c.self.inside.text.items c.extend_from_slice.new.self.items c.args.text.now _
    c.self.invariant c.in_ok-push.ensures.items c.extend_from_slice.ensures.items at_end

pub returns : goal.returns
returns c =
    let at_end : c.len-offset.result ≡ length c.self.inside.text.items = omega arith in
    appended_ok c.extend_from_slice.result c.self.inside.segments.items c.push.new.self.items c.self.inside.text.items c.extend_from_slice.new.self.items c.args.text.now
    c.args.self.now c.args.card c.args.column c.len-offset.result c.self.view_is c.in_ok-push.ensures.items c.extend_from_slice.ensures.items at_end c.requires
