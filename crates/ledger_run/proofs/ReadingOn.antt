-- Reading the ledger, commit by commit.
use Rattle.std.proofs.Common.{◌≡◌, ◌<◌, ◌≤◌, ℕ, suc, ◌+◌, ◌-◌, List, [], ◌∷◌, ◌++◌, Option, Some, None, refl, sym, ap, ◌∙◌, subst, arith}
use Rattle.ledger_disk.specs.{declared.name.Name.{Name}, declared.name.Name.TheVariants.{Commit}, Plans.{Did}}
use Rattle.ledger_disk.specs.Disks.{Disk, Files, Call, Write, SyncFile, Rename, Link, Remove, SyncFolder, Saw, Looked, Next, after, after_all, found_in, AreTrue}
use Rattle.ledger_laws.specs.Commits.{and_more, read_from}

record Told (xs : List Call) (name : Name) (found : Option (List ℕ)) (first : Disk) : Type 0 where
  before : AreTrue xs first
  here : found ≡ found_in (after_all xs first) name
  same : after_all (xs ++ Saw name found ∷ []) first ≡ after_all xs first

told : (xs : List Call) (name : Name) (found : Option (List ℕ)) (first : Disk) → AreTrue (xs ++ Saw name found ∷ []) first → Told xs name found first
told [] name found first true = record { before = tt; here = true.0; same = refl }
told (Write n b ∷ xs) name found first true = let t = told xs name found (after (Write n b) first) true in record { before = t.before; here = t.here; same = t.same }
told (SyncFile n ∷ xs) name found first true = let t = told xs name found (after (SyncFile n) first) true in record { before = t.before; here = t.here; same = t.same }
told (Rename n m ∷ xs) name found first true = let t = told xs name found (after (Rename n m) first) true in record { before = t.before; here = t.here; same = t.same }
told (Link n m ∷ xs) name found first true = let t = told xs name found (after (Link n m) first) true in record { before = t.before; here = t.here; same = t.same }
told (Remove n ∷ xs) name found first true = let t = told xs name found (after (Remove n) first) true in record { before = t.before; here = t.here; same = t.same }
told (SyncFolder f ∷ xs) name found first true = let t = told xs name found (after (SyncFolder f) first) true in record { before = t.before; here = t.here; same = t.same }
told (Looked n o ∷ xs) name found first true = let t = told xs name found first true in record { before = t.before; here = t.here; same = t.same }
told (Next n o ∷ xs) name found first true = let t = told xs name found first true in record { before = t.before; here = t.here; same = t.same }
told (Saw n o ∷ xs) name found first true = let t = told xs name found first true.1 in record { before = (true.0, t.before); here = t.here; same = t.same }

-- what was read so far, and what is left
pub record Reads {D : Type 0} (calls : D → List Call) (old now : D) (items : List (List ℕ)) (from number end : ℕ) (first : Disk) : Type 0 where
  pub same : after_all (calls now) first ≡ after_all (calls old) first
  pub so_far : items ++ read_from (end - number) number (found_in (after_all (calls old) first)) ≡ read_from (end - from) from (found_in (after_all (calls old) first))

in_row : {A : Type 0} (xs ys zs : List A) → (xs ++ ys) ++ zs ≡ xs ++ (ys ++ zs)
in_row [] ys zs = refl
in_row {A} (x ∷ xs) ys zs = ap (λ (l : List A). x ∷ l) (in_row xs ys zs)

none_behind : {A : Type 0} (xs : List A) → xs ++ [] ≡ xs
none_behind [] = refl
none_behind {A} (x ∷ xs) = ap (λ (l : List A). x ∷ l) (none_behind xs)

module _ {D : Type 0} (calls : D → List Call) (old now next : D) (items : List (List ℕ)) (from number end : ℕ) (found : Option (List ℕ))
    (reads : (first : Disk) → AreTrue (calls now) first → Reads calls old now items from number end first) (did : Did calls (Saw (Commit number) found ∷ []) now next)
    (first : Disk) (true : AreTrue (calls next) first) where
  it : Told (calls now) (Commit number) found first
  it = told (calls now) (Commit number) found first (subst (λ (l : List Call). AreTrue l first) did.all true)

  so : Reads calls old now items from number end first
  so = reads first it.before

  abbrev seen : Files
  seen = found_in (after_all (calls old) first)

  found_is : found ≡ seen (Commit number)
  found_is = it.here ∙ ap (λ (d : Disk). found_in d (Commit number)) so.same

  one : number < end → items ++ and_more found (read_from (end - (number + 1)) (number + 1) seen) ≡ read_from (end - from) from seen
  one less =
      ap (λ (o : Option (List ℕ)). items ++ and_more o (read_from (end - (number + 1)) (number + 1) seen)) found_is
      ∙ ap (λ (left : ℕ). items ++ read_from left number seen) (let e : suc (end - (number + 1)) ≡ end - number = omega (arith, less) in e) ∙ so.so_far

pub goes_on : {D : Type 0} (calls : D → List Call) (old now next : D) (items : List (List ℕ)) (from number end : ℕ) (bytes : List ℕ) → number < end
    → ((first : Disk) → AreTrue (calls now) first → Reads calls old now items from number end first) → Did calls (Saw (Commit number) (Some bytes) ∷ []) now next
    → (first : Disk) → AreTrue (calls next) first → Reads calls old next (items ++ bytes ∷ []) from (number + 1) end first
goes_on calls old now next items from number end bytes less reads did first true =
    let t = it calls old now next items from number end (Some bytes) reads did first true in
    let s = so calls old now next items from number end (Some bytes) reads did first true in
    record {
      same = ap (λ (l : List Call). after_all l first) did.all ∙ t.same ∙ s.same;
      so_far =
          in_row items (bytes ∷ []) (read_from (end - (number + 1)) (number + 1) (found_in (after_all (calls old) first)))
          ∙ one calls old now next items from number end (Some bytes) reads did first true less;
    }

-- all that there is was read, and nothing changed
abbrev pub IsAll : {D : Type 0} (calls : D → List Call) (old new : D) (items : List (List ℕ)) (from end : ℕ) → Disk → Type 0
IsAll calls old new items from end first =
    (items ≡ read_from (end - from) from (found_in (after_all (calls old) first))) × (after_all (calls new) first ≡ after_all (calls old) first)

pub ends_there : {D : Type 0} (calls : D → List Call) (old now next : D) (items : List (List ℕ)) (from number end : ℕ) → number < end
    → ((first : Disk) → AreTrue (calls now) first → Reads calls old now items from number end first) → Did calls (Saw (Commit number) None ∷ []) now next
    → (first : Disk) → AreTrue (calls next) first → IsAll calls old next items from end first
ends_there calls old now next items from number end less reads did first true =
    let t = it calls old now next items from number end None reads did first true in
    let s = so calls old now next items from number end None reads did first true in (
      sym (none_behind items) ∙ one calls old now next items from number end None reads did first true less,
      ap (λ (l : List Call). after_all l first) did.all ∙ t.same ∙ s.same,
    )

pub ends_last : {D : Type 0} (calls : D → List Call) (old now : D) (items : List (List ℕ)) (from number end : ℕ) → end ≤ number
    → ((first : Disk) → AreTrue (calls now) first → Reads calls old now items from number end first)
    → (first : Disk) → AreTrue (calls now) first → IsAll calls old now items from end first
ends_last calls old now items from number end over reads first true = (
  sym (none_behind items)
      ∙ ap (λ (left : ℕ). items ++ read_from left number (found_in (after_all (calls old) first))) (let e : 0 ≡ end - number = omega (arith, over) in e)
      ∙ (reads first true).so_far,
  (reads first true).same,
)
