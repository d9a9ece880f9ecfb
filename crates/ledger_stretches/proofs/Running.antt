-- A stretch of an honest ledger is the run of its texts.
use Rattle.std.proofs.Common.{◌≡◌, ℕ, List, [], ◌∷◌, ◌++◌, refl, sym, ap, ◌∙◌}
use Rattle.ledger_laws.specs.Course.{Machine, Record, Took, Refused, Ran, Dropped, Edited, Noted, Kept, with_record, folded, AreHonest}
use Rattle.ledger_stretches.specs.{Stretches.{Course, and_printed, run_all, IsStretch, first_of, texts_in}, Laws.{RunsSo, EachStretchRuns}}

module _ {Text Out State Change : Type 0} (machine : Machine Text Out State Change) where
  runs_so : (records : List (Record Text Out Change)) (kept : Kept Text Out State) → AreHonest machine records kept → IsStretch records → RunsSo machine records kept
  runs_so [] kept honest plain = record { printed = refl; state = refl }
  runs_so (Took n text ∷ records) kept honest plain =
      let r = runs_so records (with_record machine (Took n text) kept) honest.1 plain.1 in record { printed = r.printed; state = r.state }
  runs_so (Refused n reply ∷ records) kept honest plain =
      let r = runs_so records (with_record machine (Refused n reply) kept) honest.1 plain.1 in record { printed = r.printed; state = r.state }
  runs_so (Ran n out change ∷ records) kept honest plain =
      let run = honest.0 in
      let after = with_record machine (Ran n out change) kept in
      let r = runs_so records after honest.1 plain.1 in
      let texts = texts_in machine records after in
      let is : run_all machine (first_of kept.waiting ++ texts) kept.state ≡ and_printed (n, out) (run_all machine texts after.state) =
      ap (λ (waiting : List (ℕ × Text)). run_all machine (first_of waiting ++ texts) kept.state) run.first
      ∙ ap (λ (told : Out × Change). and_printed (n, told.0) (run_all machine texts (machine.change told.1 kept.state))) run.told in
      record {
        printed = ap (λ (outs : List (ℕ × Out)). (n, out) ∷ outs) r.printed ∙ sym (ap (λ (c : Course Out State). c.printed) is);
        state = r.state ∙ sym (ap (λ (c : Course Out State). c.state) is);
      }
  runs_so (Dropped n out ∷ records) kept honest plain =
      let r = runs_so records (with_record machine (Dropped n out) kept) honest.1 plain.1 in record { printed = r.printed; state = r.state }
  runs_so (Edited change ∷ records) kept honest plain = absurd plain.0
  runs_so (Noted ∷ records) kept honest plain =
      let r = runs_so records kept honest.1 plain.1 in record { printed = r.printed; state = r.state }

  behind_honest : (before rest : List (Record Text Out Change)) (kept : Kept Text Out State) → AreHonest machine (before ++ rest) kept
      → AreHonest machine rest (folded machine before kept)
  behind_honest [] rest kept honest = honest
  behind_honest (r ∷ before) rest kept honest = behind_honest before rest (with_record machine r kept) honest.1

  front_honest : (first rest : List (Record Text Out Change)) (kept : Kept Text Out State) → AreHonest machine (first ++ rest) kept → AreHonest machine first kept
  front_honest [] rest kept honest = tt
  front_honest (r ∷ first) rest kept honest = (honest.0, front_honest first rest (with_record machine r kept) honest.1)

  pub each : (before stretch behind : List (Record Text Out Change)) (start : Kept Text Out State) → AreHonest machine (before ++ (stretch ++ behind)) start
      → IsStretch stretch → RunsSo machine stretch (folded machine before start)
  each before stretch behind start honest plain =
      let kept = folded machine before start in
      runs_so stretch kept (front_honest stretch behind kept (behind_honest before (stretch ++ behind) start honest)) plain

pub each_stretch_runs : {Text Out State Change : Type 0} → EachStretchRuns Text Out State Change
each_stretch_runs machine before stretch behind start honest plain = each machine before stretch behind start honest plain
