use Rattle.std.proofs.Common.{◌≡◌, ℕ, List, ◌++◌, Result, Ok, Err, OnOk, if◌then◌else◌, ap, ◌∙◌, append_assoc}
use Rattle.std.specs.{Prelude.{codes, decimal}, Result.{is_ok}}
use Rattle.deck_run.specs.Faults.{name_text}
use Rattle.deck_run.proofs.shortage.put_holder.Goals as goal

-- more was appended
further : (start so_far now text next : List ℕ) → now ≡ start ++ so_far → next ≡ now ++ text → next ≡ start ++ (so_far ++ text)
further start so_far now text next before is = is ∙ ap (λ v. v ++ text) before ∙ append_assoc start so_far text

-- or perhaps not
further_where : {T E : Type 0} (result : Result T E) (start so_far now text next : List ℕ) → now ≡ start ++ so_far
    → next ≡ (if is_ok result then now ++ text else now) → OnOk result (next ≡ start ++ (so_far ++ text))
further_where (Ok x) start so_far now text next before is = further start so_far now text next before is
further_where (Err error) start so_far now text next before is = tt

pub returns : goal.returns
returns c =
    let start = c.args.out.now.items in
    let job = c.args.job.now in
    let name = name_text job in
    let words = codes " holds most: " in
    let bytes = decimal job.bytes in
    further_where c.extend_from_slice-2.result start (name ++ words ++ bytes) c.put_number.new.out.items (codes " bytes of printout") c.extend_from_slice-2.new.self.items
    (further start (name ++ words) c.extend_from_slice.new.self.items bytes c.put_number.new.out.items
    (further start name c.put_name.new.out.items words c.extend_from_slice.new.self.items c.in_ok-put_name.ensures c.in_ok-extend_from_slice.ensures.items) c.in_ok-put_number.ensures)
    c.extend_from_slice-2.ensures.items
