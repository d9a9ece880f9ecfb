-- Where there are not so many words there is no `$SET` line.
use Rattle.std.proofs.Common.{◌≡◌, ℕ, List, None, map, sym, subst, arith}
use Rattle.std.{specs.Borrow.{Bor}, proofs.lemmas.List.{length-map}}
use borrow.Author.Tests.{ltb-true, ltb-false}
use Rattle.mon_catalogue.{specs.declared.version.Version.{Version}, specs.Head.{head_of}, proofs.Heads.{one_of_others, two_of_others}}
use Rattle.mon_catalogue.proofs.head.head_of.Goals as goal
use Rattle.mon_catalogue.proofs.head.head_of.Goals.{in_default-via-then-words-lt5, in_default-via-else-words-lt5+else-words-lt6, in_default-words-via-then-words-lt6-2, in_default-words-via-else-words-lt6-2+else-words-lt7}

pub returns-in_default : goal.returns-in_default
returns-in_default c =
    let same = length-map c.args.words.now (λ (word : Bor (List ℕ)). word.now) in
    let words = map (λ (word : Bor (List ℕ)). word.now) c.args.words.now in
    subst (λ (version : Version). None ≡ head_of version words) (sym c.in-One.is)
    (elim c.in_default.branch [
      | in_default-via-then-words-lt5 w ↦ sym (one_of_others words (λ e. omega (arith, ltb-true, ltb-false)))
      | in_default-via-else-words-lt5+else-words-lt6 w ↦ sym (one_of_others words (λ e. omega (arith, ltb-true, ltb-false)))
    ])

pub returns-in_default-words : goal.returns-in_default-words
returns-in_default-words c =
    let same = length-map c.args.words.now (λ (word : Bor (List ℕ)). word.now) in
    let words = map (λ (word : Bor (List ℕ)). word.now) c.args.words.now in
    subst (λ (version : Version). None ≡ head_of version words) (sym c.in-Two.is)
    (elim c.in_default-words.branch [
      | in_default-words-via-then-words-lt6-2 w ↦ sym (two_of_others words (λ e. omega (arith, ltb-true, ltb-false)))
      | in_default-words-via-else-words-lt6-2+else-words-lt7 w ↦ sym (two_of_others words (λ e. omega (arith, ltb-true, ltb-false)))
    ])
