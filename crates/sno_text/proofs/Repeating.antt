-- A text so many times, and once more.
use Rattle.std.proofs.Common.{◌≡◌, ℕ, zero, suc, ◌*◌, ◌+◌, ◌<◌, ◌≤◌, List, [], ◌∷◌, ◌++◌, length, arith, refl, sym, ap, ◌∙◌, append_assoc, append-nil, length-append}
use Rattle.std.{proofs.Math.Nat.{suc-mul}, proofs.lemmas.Nat.{mul-le}, specs.List.{repeat}}
use Rattle.mon_text.specs.Lines.{IsLine}
use Rattle.sno_text.proofs.Printable.{line_of_join}

pub repeated_null : (n : ℕ) → repeat {A = ℕ} n [] ≡ []
repeated_null zero = refl
repeated_null (suc n) = repeated_null n

pub repeated_more : (n : ℕ) (text : List ℕ) → repeat (suc n) text ≡ repeat n text ++ text
repeated_more zero text = append-nil text
repeated_more (suc n) text = ap (λ (t : List ℕ). text ++ t) (repeated_more n text) ∙ sym (append_assoc text (repeat n text) text)

pub line_of_repeated : (n : ℕ) (text : List ℕ) → IsLine text → IsLine (repeat n text)
line_of_repeated zero text h = refl
line_of_repeated (suc n) text h = line_of_join text (repeat n text) h (line_of_repeated n text h)

pub null_repeated : (n : ℕ) (text : List ℕ) → length text ≡ 0 → [] ≡ repeat n text
null_repeated n [] h = sym (repeated_null n)
null_repeated n (c ∷ cs) h = absurd (omega arith)

pub length-repeated : (n : ℕ) (text : List ℕ) → length (repeat n text) ≡ n * length text
length-repeated zero text = omega arith
length-repeated (suc n) text =
    let more = length-repeated n text in
    let times = suc-mul n (length text) in
    length-append text (repeat n text) ∙ omega (arith, more, times)

pub has_room : (n times long : ℕ) → n < times → n * long + long ≤ times * long
has_room n times long h =
    let more = suc-mul n long in
    let within : suc n * long ≤ times * long = mul-le (suc n) long times long (omega arith) (omega arith) in
    omega (arith, more, within)

pub counted_on : (n long : ℕ) → n * long + long ≡ (n + 1) * long
counted_on n long =
    let next : suc n ≡ n + 1 = omega arith in
    let more = suc-mul n long in
    omega (arith, more) ∙ ap (λ (k : ℕ). k * long) next

pub once_more : (xs : List ℕ) (n : ℕ) (text : List ℕ) → (xs ++ repeat n text) ++ text ≡ xs ++ repeat (n + 1) text
once_more xs n text =
    let next : suc n ≡ n + 1 = omega arith in
    append_assoc xs (repeat n text) text ∙ ap (λ (ys : List ℕ). xs ++ ys) (sym (repeated_more n text) ∙ ap (λ (k : ℕ). repeat k text) next)
