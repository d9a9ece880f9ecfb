-- Plans, one behind the other.
use Rattle.std.proofs.Common.{◌≡◌, ◌<◌, ℕ, zero, suc, ◌+◌, List, [], ◌∷◌, ◌++◌, length, take, drop as list_drop, map, get_or, refl, sym, ap, ◌∙◌, subst, arith}
use Rattle.ledger_disk.specs.{Disks.{Disk, Call, Write, SyncFile, Rename, Leaves, after, after_all}, declared.name.Name.TheVariants.{Answer, Unfinished}}
use Rattle.ledger_disk.specs.Plans.{Did, Began}
use Rattle.ledger_laws.{specs.Commits.{commit_calls}, proofs.Committing.{commits_whole}, specs.Answers.{deliver_calls}, proofs.Delivering.{delivers_whole}}
use Rattle.std.proofs.lemmas.List.{drop_more}
use Rattle.ledger_run.specs.{declared.answers.Owed.{Owed}, Owing.{owed_as}, Moments.{LeavesEither, AnswersEach}}

-- what follows for a run of all that is left follows for a run of all
pub record GoesOn {D : Type 0} (calls : D → List Call) (all left : List Call) (old now : D) : Type 0 where
  pub ends : (new : D) → Did calls left now new → Did calls all old new
  pub breaks : (new : D) → Began calls left now new → Began calls all old new

none_behind : (xs : List Call) → xs ++ [] ≡ xs
none_behind [] = refl
none_behind (x ∷ xs) = ap (λ (l : List Call). x ∷ l) (none_behind xs)

in_row : (xs ys zs : List Call) → (xs ++ ys) ++ zs ≡ xs ++ (ys ++ zs)
in_row [] ys zs = refl
in_row (x ∷ xs) ys zs = ap (λ (l : List Call). x ∷ l) (in_row xs ys zs)

take_behind : (xs ys : List Call) (k : ℕ) → xs ++ take k ys ≡ take (length xs + k) (xs ++ ys)
take_behind [] ys k = ap (λ (n : ℕ). take n ys) (omega arith)
take_behind (x ∷ xs) ys k = ap (λ (l : List Call). x ∷ l) (take_behind xs ys k) ∙ sym (ap (λ (n : ℕ). take n (x ∷ (xs ++ ys))) count)
  where
    count : length (x ∷ xs) + k ≡ suc (length xs + k)
    count = omega arith

all_taken : (xs : List Call) → take (length xs) xs ≡ xs
all_taken [] = refl
all_taken (x ∷ xs) = ap (λ (l : List Call). x ∷ l) (all_taken xs)

taken_within : (k : ℕ) (xs ys : List Call) → (j : ℕ) × (take j (xs ++ ys) ≡ take k xs)
taken_within zero xs ys = (0, refl)
taken_within (suc k) [] ys = (0, refl)
taken_within (suc k) (x ∷ xs) ys = let (j, e) = taken_within k xs ys in (suc j, ap (λ (l : List Call). x ∷ l) e)

pub taken_twice : (j k : ℕ) (xs : List Call) → (i : ℕ) × (take j (take k xs) ≡ take i xs)
taken_twice zero k xs = (0, refl)
taken_twice (suc j) zero xs = (0, refl)
taken_twice (suc j) (suc k) [] = (0, refl)
taken_twice (suc j) (suc k) (x ∷ xs) = let (i, e) = taken_twice j k xs in (suc i, ap (λ (l : List Call). x ∷ l) e)

module _ {D : Type 0} (calls : D → List Call) where
  pub none : (d : D) → Did calls [] d d
  none d = record { all = sym (none_behind (calls d)) }

  pub whole : (plan : List Call) (old new : D) → Did calls plan old new → Began calls plan old new
  whole plan old new did = record { count = length plan; some = did.all ∙ ap (λ (l : List Call). calls old ++ l) (sym (all_taken plan)) }

  pub both : (p q : List Call) (old mid new : D) → Did calls p old mid → Did calls q mid new → Did calls (p ++ q) old new
  both p q old mid new a b = record { all = b.all ∙ ap (λ (l : List Call). l ++ q) a.all ∙ in_row (calls old) p q }

  -- the first part is done, the second began
  pub then : (p q : List Call) (old mid new : D) → Did calls p old mid → Began calls q mid new → Began calls (p ++ q) old new
  then p q old mid new a b = record {
    count = length p + b.count;
    some = b.some ∙ ap (λ (l : List Call). l ++ take b.count q) a.all ∙ in_row (calls old) p (take b.count q) ∙ ap (λ (l : List Call). calls old ++ l) (take_behind p q b.count);
  }

  -- a beginning of a part is one of the whole
  pub within : (p q : List Call) (old new : D) → Began calls p old new → Began calls (p ++ q) old new
  within p q old new b = let (j, e) = taken_within b.count p q in record { count = j; some = b.some ∙ ap (λ (l : List Call). calls old ++ l) (sym e) }

  -- ---- loops

  pub starts : (all : List Call) (d : D) → GoesOn calls all all d d
  starts all d = record { ends = λ new did. did; breaks = λ new began. began }

  pub steps : (all plan left : List Call) (old now next : D) → GoesOn calls all (plan ++ left) old now → Did calls plan now next → GoesOn calls all left old next
  steps all plan left old now next goes did = record {
    ends = λ new rest. goes.ends new (both plan left now next new did rest);
    breaks = λ new rest. goes.breaks new (then plan left now next new did rest);
  }

  pub stops : (all plan left : List Call) (old now new : D) → GoesOn calls all (plan ++ left) old now → Began calls plan now new → Began calls all old new
  stops all plan left old now new goes began = goes.breaks new (within plan left now new began)

  pub over : (all : List Call) (old now : D) → GoesOn calls all [] old now → Did calls all old now
  over all old now goes = goes.ends now (none now)

  -- ---- what a power cut leaves

  -- behind so many calls of the plan
  pub moment : (plan : List Call) (old new : D) → Began calls plan old new → (first : Disk) (k : ℕ) → (i : ℕ) × (after_all (take (length (calls old) + k) (calls new)) first ≡ after_all (take i plan) (after_all (calls old) first))
  moment plan old new began first k =
      let (i, e) = taken_twice k began.count plan in (
        i,
        ap (λ (l : List Call). after_all l first) (ap (take (length (calls old) + k)) began.some ∙ sym (take_behind (calls old) (take began.count plan) k) ∙ ap (λ (l : List Call). calls old ++ l) e)
            ∙ after_both (calls old) (take i plan) first,
      )
    where
      after_both : (xs ys : List Call) (disk : Disk) → after_all (xs ++ ys) disk ≡ after_all ys (after_all xs disk)
      after_both [] ys disk = refl
      after_both (x ∷ xs) ys disk = after_both xs ys (after x disk)

  pub either : (bytes : List ℕ) (number : ℕ) (old new : D) → Began calls (commit_calls number bytes) old new → LeavesEither calls bytes number old new
  either bytes number old new began first chain is stands k c leaves =
      let (i, e) = moment (commit_calls number bytes) old new began first k in
      (commits_whole chain bytes (after_all (calls old) first) stands i).cut c
      (subst (λ (d : Disk). Leaves d c) (e ∙ ap (λ (n : ℕ). after_all (take i (commit_calls n bytes)) (after_all (calls old) first)) (sym is)) leaves)

  pub answers : (owed : List (ℕ × List ℕ)) (old new : D) → Began calls (deliver_calls owed) old new → AnswersEach calls owed old new
  answers owed old new began first expected fit are k c leaves =
      let (i, e) = moment (deliver_calls owed) old new began first k in
      (delivers_whole expected owed (after_all (calls old) first) fit are).cut i c (subst (λ (d : Disk). Leaves d c) e leaves)

-- ---- the files and the answers that are left

pub next_answer : (owed : List Owed) (i : ℕ) (item : Owed) (bytes : List ℕ) → i < length owed → item ≡ get_or owed i item → bytes ≡ item.bytes.items
    → deliver_calls (map owed_as (list_drop i owed)) ≡ Write Unfinished bytes ∷ SyncFile Unfinished ∷ Rename Unfinished (Answer item.number) ∷ deliver_calls (map owed_as (list_drop (i + 1) owed))
next_answer owed i item bytes less is has =
    ap (λ (l : List Owed). deliver_calls (map owed_as l)) (drop_more owed i item less) ∙ ap (λ (x : Owed). deliver_calls (map owed_as (x ∷ list_drop (i + 1) owed))) (sym is)
    ∙ ap (λ (b : List ℕ). Write Unfinished b ∷ SyncFile Unfinished ∷ Rename Unfinished (Answer item.number) ∷ deliver_calls (map owed_as (list_drop (i + 1) owed))) (sym has)

module _ {D : Type 0} (calls : D → List Call) where
  pub step_as : (all left plan rest : List Call) (old now next : D) → left ≡ plan ++ rest → GoesOn calls all left old now → Did calls plan now next → GoesOn calls all rest old next
  step_as all left plan rest old now next is goes did = steps calls all plan rest old now next (subst (λ (l : List Call). GoesOn calls all l old now) is goes) did

  pub stop_as : (all left plan rest : List Call) (old now new : D) → left ≡ plan ++ rest → GoesOn calls all left old now → Began calls plan now new → Began calls all old new
  stop_as all left plan rest old now new is goes began = stops calls all plan rest old now new (subst (λ (l : List Call). GoesOn calls all l old now) is goes) began
