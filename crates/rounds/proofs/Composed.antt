-- What is said of an answer that is no error.
use Rattle.std.proofs.Common.{Result, Ok, Err, OnOk}

pub on_ok : {T E : Type 0} (r : Result T E) (P Q : Type 0) → (P → Q) → OnOk r P → OnOk r Q
on_ok (Ok x) P Q so is = so is
on_ok (Err e) P Q so is = tt
