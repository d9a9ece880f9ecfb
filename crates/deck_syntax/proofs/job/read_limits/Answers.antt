use Rattle.std.proofs.Common.{◌≡◌, ℕ, List, nat_lt, length, drop, sym, ap, subst, ◌∙◌, IfOk}
use Rattle.deck_syntax.{specs.Jobs.{are_options, limits_refusal, usual_limits, with_option}, proofs.Options.{one_option, two_options, second_of}}
use Rattle.deck_lines.specs.inner.Stops.{Answers}
use Rattle.deck_syntax.proofs.job.read_limits.Goals as goal
use Rattle.std.specs.List.{fold}

pub read_two_options-requires : goal.read_two_options-requires
read_two_options-requires c =
    let ws = c.args.words.now in
    let good = second_of (nat_lt 1 (length ws)) (are_options (drop 2 ws)) c.requires in
    let are = two_options ws c.at-in_default.result.now c.at-in_default-2.result.now good c.at-in_default.ensures c.at-in_default-2.ensures in
    ap are_options (sym are) ∙ good

pub returns-in-3-clause-answers : goal.returns-in-3-clause-answers
returns-in-3-clause-answers c =
    let three = sym c.len.ensures ∙ c.in-3.is in
    let are = one_option c.args.words.now c.at.result.now three c.at.ensures in
    let P : List (List ℕ) → Type 0 = λ options. Answers (limits_refusal options) c.read_option.result in
    subst P (sym are) c.read_option.ensures.answers

pub returns-in_default-clause-answers : goal.returns-in_default-clause-answers
returns-in_default-clause-answers c =
    let ws = c.args.words.now in
    let good = second_of (nat_lt 1 (length ws)) (are_options (drop 2 ws)) c.requires in
    let are = two_options ws c.at-in_default.result.now c.at-in_default-2.result.now good c.at-in_default.ensures c.at-in_default-2.ensures in
    let P : List (List ℕ) → Type 0 = λ options. Answers (limits_refusal options) c.read_two_options.result in
    subst P (sym are) c.read_two_options.ensures.answers

pub returns-in_default-clause-value : goal.returns-in_default-clause-value
returns-in_default-clause-value c =
    let ws = c.args.words.now in
    let good = second_of (nat_lt 1 (length ws)) (are_options (drop 2 ws)) c.requires in
    let are = two_options ws c.at-in_default.result.now c.at-in_default-2.result.now good c.at-in_default.ensures c.at-in_default-2.ensures in
    let P : List (List ℕ) → Type 0 = λ options. IfOk c.read_two_options.result (λ limits. limits ≡ fold with_option usual_limits options) in
    subst P (sym are) c.read_two_options.ensures.value
