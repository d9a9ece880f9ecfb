use Rattle.std.proofs.Common.{◌≡◌, ◌+◌, ◌++◌, map, List, [], ◌∷◌, ℕ, Option, option_map, subst, sym, ap, ◌∙◌, arith}
use Rattle.std.proofs.lemmas.List.{map-append}
use Rattle.ledger_disk.specs.{Disks.{Saw}, declared.name.Name.TheVariants.{Commit}, Plans.{Did}}
use Rattle.ledger_run.proofs.ReadingOn.{Reads, goes_on, ends_there, ends_last}
use Rattle.ledger_run.proofs.chain.read_behind.Goals as goal

pub returns-in-None : goal.returns-in-None
returns-in-None g c =
    ends_there g.D.Disk.calls c.args.disk.now c.loop-number.disk c.read.new.self (map (λ file. file.items) c.loop-number.commits.items) c.args.from c.loop-number.number c.args.end c.loop-number-test.true c.loop-number.invariant
    (subst (λ (o : Option (List ℕ)). Did g.D.Disk.calls (Saw (Commit c.loop-number.number) o ∷ []) c.loop-number.disk c.read.new.self) (ap (option_map (λ file. file.items)) c.in-None.is) c.in_ok-bytes.ensures.did)

pub loop-number-preserved : goal.loop-number-preserved
loop-number-preserved g c = λ first true.
    let items : map (λ file. file.items) c.push.new.self.items ≡ map (λ file. file.items) c.loop-number.commits.items ++ c.in-Some.bytes.items ∷ [] = ap (map (λ file. file.items)) c.in_ok-push-in-Some.ensures.items ∙ map-append (λ file. file.items) c.loop-number.commits.items (c.in-Some.bytes ∷ []) in
    subst (λ (l : List (List ℕ)). Reads g.D.Disk.calls c.args.disk.now c.read.new.self l c.args.from (c.loop-number.number + 1) c.args.end first) (sym items)
    (goes_on g.D.Disk.calls c.args.disk.now c.loop-number.disk c.read.new.self (map (λ file. file.items) c.loop-number.commits.items) c.args.from c.loop-number.number c.args.end c.in-Some.bytes.items c.loop-number-test.true c.loop-number.invariant
    (subst (λ (o : Option (List ℕ)). Did g.D.Disk.calls (Saw (Commit c.loop-number.number) o ∷ []) c.loop-number.disk c.read.new.self) (ap (option_map (λ file. file.items)) c.in-Some.is) c.in_ok-bytes.ensures.did) first true)

pub returns : goal.returns
returns g c =
    ends_last g.D.Disk.calls c.args.disk.now c.loop-number.disk (map (λ file. file.items) c.loop-number.commits.items) c.args.from c.loop-number.number c.args.end
    (let over = c.loop-number-test.false in omega (arith, over)) c.loop-number.invariant
