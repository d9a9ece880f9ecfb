use Rattle.std.proofs.Common.{rules, ap, ap₂, true, ◌≡◌, ◌∙◌}
use Rattle.std.{specs.Prelude.{None, Some, pos, codes}, proofs.lemmas.Result.{IfOk-weaker}}
use Rattle.clap.specs.{Words.{App, app_of, new_app, rule_of, with_rule}, Simple.{on_top}, declared.builder.value_parser.ValueParser.{ValueParser}}
use Rattle.clap.specs.declared.builder.value_parser.ValueParser.TheVariants as vp
use Rattle.snomon_library.specs.CommandLine.{check_rule, slots_rule}
use Rattle.snomon_library.proofs.options.command.Goals as goal

abbrev named : App
named = on_top (λ top. record top { has_version = true }) (new_app (codes "snomon"))

pub returns : goal.returns
returns c =
    let check_is : rule_of c.help-check.result ≡ check_rule = search rules in
    let in_range : c.range.result ≡ vp.Signed (pos 1) (pos 8) = rw (c.value_parser.ensures, c.new-3.ensures.start, c.new-3.ensures.end) at c.range.ensures in
    let slots_is : rule_of c.help-slots.result ≡ slots_rule =
    let given = c.value_parser-2.ensures.given in
    let parser : c.value_parser-2.result.value_parser ≡ Some (vp.Signed (pos 1) (pos 8)) = given.1 ∙ ap (λ (p : ValueParser). Some p) (given.2 ∙ in_range) in
    let before : rule_of c.value_name.result ≡ record slots_rule { parser = None } = search rules in
    let after : rule_of c.help-slots.result ≡ record (rule_of c.value_name.result) { parser = c.value_parser-2.result.value_parser } = search rules in
    after ∙ (λ i. record (before i) { parser = parser i }) in
    let named_is : app_of c.after_help.result ≡ named = search rules in
    let first : app_of c.in_ok-arg.field-0 ≡ with_rule named check_rule = c.in_ok-arg.ensures.shape (search rules) ∙ ap₂ with_rule named_is check_is in
    IfOk-weaker c.arg-2.result _ _ (λ command h. h.shape (search rules) ∙ ap₂ with_rule first slots_is) c.arg-2.ensures
