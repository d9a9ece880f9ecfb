-- Answers are put whole.
use Rattle.std.proofs.Common.{◌≡◌, ◌⊎◌, inl, inr, ℕ, zero, suc, Bool, true, false, List, [], ◌∷◌, take, Option, Some, None, refl, sym, ap, ◌∙◌, subst, arith}
use Rattle.std.{specs.Prelude.{if◌then◌else◌, ◌==◌, option_map}, specs.List.{AllByRecursion}, proofs.lemmas.Bool.Decides.{nat_tests}}
use Rattle.ledger_disk.specs.declared.name.Name.TheVariants.{Answer, Unfinished}
use Rattle.ledger_disk.specs.Disks.{Disk, File, Write, SyncFile, Rename, after, after_all, given, AllOf, Files, Leaves, IsRead, IsOne}
use Rattle.ledger_laws.specs.{Commits.{whole_file}, Answers.{deliver_calls, IsOwed, AreExpected, IsExpected, AnswersFit}, Laws.{DeliversWhole}}
use Rattle.ledger_laws.proofs.Committing.{equal, read_wanted}

module _ (expected : ℕ → Option (List ℕ)) where
  put_fits : (n : ℕ) (bytes : List ℕ) (disk : Disk) → AnswersFit expected disk → expected n ≡ Some bytes
      → AnswersFit expected (after (Rename Unfinished (Answer n)) (after (SyncFile Unfinished) (after (Write Unfinished bytes) disk)))
  put_fits n bytes disk fits is m = by (m == n) refl
    where
      by : (b : Bool) → (m == n) ≡ b → AllOf (IsExpected (expected m)) (if b then given (Some (whole_file bytes)) (disk (Answer n)) else disk (Answer m))
      by true e =
          let same : m ≡ n = equal m n e in
          (inr (sym (ap (λ (o : Option (List ℕ)). option_map whole_file o) (ap expected same ∙ is))), subst (λ (j : ℕ). AllOf (IsExpected (expected m)) (disk (Answer j))) same (fits m))
      by false e = fits m

  fits_at : (owed : List (ℕ × List ℕ)) (disk : Disk) → AnswersFit expected disk → AreExpected expected owed → (k : ℕ) → AnswersFit expected (after_all (take k (deliver_calls owed)) disk)
  fits_at [] disk fits are zero = fits
  fits_at [] disk fits are (suc zero) = λ m. ((fits m).0, tt)
  fits_at [] disk fits are (suc (suc k)) = λ m. ((fits m).0, tt)
  fits_at (one ∷ owed) disk fits are zero = fits
  fits_at (one ∷ owed) disk fits are (suc zero) = fits
  fits_at (one ∷ owed) disk fits are (suc (suc zero)) = fits
  fits_at (one ∷ owed) disk fits are (suc (suc (suc k))) =
      fits_at owed (after (Rename Unfinished (Answer one.0)) (after (SyncFile Unfinished) (after (Write Unfinished one.1) disk))) (put_fits one.0 one.1 disk fits are.0) are.1 k

  read_expected : (e : Option (List ℕ)) (o : Option File) (r : Option (List ℕ)) → IsExpected e o → IsRead o r → (r ≡ None) ⊎ (r ≡ e)
  read_expected e o r (inl none) read = inl (read_wanted None o none r read)
  read_expected e o r (inr is) read = inr (read_wanted e o is r read)

  read_others : (e : Option (List ℕ)) (os : List (Option File)) (r : Option (List ℕ)) → AllByRecursion (IsExpected e) os → IsOne os r → (r ≡ None) ⊎ (r ≡ e)
  read_others e [] r all one = elim one [ ]
  read_others e (o ∷ os) r all (inl read) = read_expected e o r all.0 read
  read_others e (o ∷ os) r all (inr one) = read_others e os r all.1 one

  pub read_fitting : (disk : Disk) → AnswersFit expected disk → (c : Files) → Leaves disk c → (m : ℕ) → (c (Answer m) ≡ None) ⊎ (c (Answer m) ≡ expected m)
  read_fitting disk fits c leaves m = by (fits m) (leaves (Answer m))
    where
      by : AllOf (IsExpected (expected m)) (disk (Answer m)) → IsRead (disk (Answer m)).now (c (Answer m)) ⊎ IsOne (disk (Answer m)).others (c (Answer m)) → (c (Answer m) ≡ None) ⊎ (c (Answer m) ≡ expected m)
      by all (inl read) = read_expected (expected m) (disk (Answer m)).now (c (Answer m)) all.0 read
      by all (inr one) = read_others (expected m) (disk (Answer m)).others (c (Answer m)) all.1 one

  -- ---- in the end

  abbrev behind : ℕ × List ℕ → Disk → Disk
  behind one disk = after (Rename Unfinished (Answer one.0)) (after (SyncFile Unfinished) (after (Write Unfinished one.1) disk))

  inside : (x y : List ℕ) → Some x ≡ Some y → x ≡ y
  inside x y e = cc (e)

  -- what is there stays there
  stays : (owed : List (ℕ × List ℕ)) (disk : Disk) (m : ℕ) (bytes : List ℕ) → AreExpected expected owed → expected m ≡ Some bytes → (disk (Answer m)).now ≡ Some (whole_file bytes)
      → after_all (deliver_calls owed) disk (Answer m) ≡ record { now = Some (whole_file bytes); others = [] }
  stays [] disk m bytes are is now = ap (λ (o : Option File). record { now = o; others = [] }) now
  stays (one ∷ owed) disk m bytes are is now = stays owed (behind one disk) m bytes are.1 is (by (m == one.0) refl)
    where
      by : (b : Bool) → (m == one.0) ≡ b → (if b then given (Some (whole_file one.1)) (disk (Answer one.0)) else disk (Answer m)).now ≡ Some (whole_file bytes)
      by true e = ap (λ (x : List ℕ). Some (whole_file x)) (inside one.1 bytes (sym are.0 ∙ ap expected (sym (equal m one.0 e)) ∙ is))
      by false e = now

  comes : (owed : List (ℕ × List ℕ)) (disk : Disk) (m : ℕ) (bytes : List ℕ) → AreExpected expected owed → IsOwed m bytes owed
      → after_all (deliver_calls owed) disk (Answer m) ≡ record { now = Some (whole_file bytes); others = [] }
  comes [] disk m bytes are none = elim none [ ]
  comes (one ∷ owed) disk m bytes are (inr later) = comes owed (behind one disk) m bytes are.1 later
  comes (one ∷ owed) disk m bytes are (inl (number, text)) =
      stays owed (behind one disk) m bytes are.1 (sym (ap expected number) ∙ are.0 ∙ ap (λ (x : List ℕ). Some x) text) (by (m == one.0) refl)
    where
      by : (b : Bool) → (m == one.0) ≡ b → (if b then given (Some (whole_file one.1)) (disk (Answer one.0)) else disk (Answer m)).now ≡ Some (whole_file bytes)
      by true e = ap (λ (x : List ℕ). Some (whole_file x)) text
      by false e = absurd (grind (arith, nat_tests, number, e))

pub delivers_whole : DeliversWhole
delivers_whole expected owed disk fits are = record {
  cut = λ k c leaves m. read_fitting expected (after_all (take k (deliver_calls owed)) disk) (fits_at expected owed disk fits are k) c leaves m;
  again = λ k. fits_at expected owed disk fits are k;
  there = λ m bytes is. comes expected owed disk m bytes are is;
}
