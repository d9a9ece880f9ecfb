-- No file is lost while files are claimed in passes.
use Rattle.std.proofs.Common.{◌≡◌, ◌⊎◌, inl, inr, ◌<◌, ◌≤◌, ℕ, zero, suc, ◌+◌, Bool, true, false, List, [], ◌∷◌, ◌++◌, length, take, Some, None, refl, sym, ap, ◌∙◌, subst, arith}
use Rattle.std.{specs.Prelude.{if◌then◌else◌, ◌==◌}, specs.List.{AllByRecursion}, proofs.lemmas.Bool.Decides.{nat_tests}}
use Rattle.ledger_disk.specs.declared.name.{Name.{Name}, Name.TheVariants.{Dropped, Claimed}, Folder.TheVariants.{Boxes}}
use Rattle.ledger_disk.specs.Disks.{Disk, File, Slot, Call, SyncFolder, after, after_all, given, settled, Files, Leaves, IsRead, IsOne, IsAmong}
use Rattle.ledger_disk.specs.Plans.{Did}
use Rattle.ledger_run.{specs.Moments.{KeepsEach}, proofs.Planned.{whole, moment}}
use Rattle.ledger_laws.specs.Claims.{nth, removals, claim_calls, AreOf}
use Rattle.ledger_laws.proofs.{Claiming.{claims_lose_nothing, after_both}, Passing.{cut_both}}
use Rattle.ledger_site.specs.{declared.claiming.Claimed.{Claimed as One}, Claiming.{Pass, calls_of, ArePasses, numbered, claimed_in, ClaimsAll}}

-- ---- among lists

none_behind : {A : Type 0} (xs : List A) → xs ++ [] ≡ xs
none_behind [] = refl
none_behind {A} (x ∷ xs) = ap (λ (l : List A). x ∷ l) (none_behind xs)

in_row : {A : Type 0} (xs ys zs : List A) → (xs ++ ys) ++ zs ≡ xs ++ (ys ++ zs)
in_row [] ys zs = refl
in_row {A} (x ∷ xs) ys zs = ap (λ (l : List A). x ∷ l) (in_row xs ys zs)

all_both : {A : Type 0} (P : A → Type 0) (xs ys : List A) → AllByRecursion P xs → AllByRecursion P ys → AllByRecursion P (xs ++ ys)
all_both P [] ys a b = b
all_both P (x ∷ xs) ys a b = (a.0, all_both P xs ys a.1 b)

pub among_all : (some all : List ℕ) (d : ℕ) → AreOf some all → IsAmong d some → IsAmong d all
among_all [] all d are among = elim among [ ]
among_all (x ∷ some) all d are (inl same) = subst (λ (e : ℕ). IsAmong e all) (sym same) are.0
among_all (x ∷ some) all d are (inr more) = among_all some all d are.1 more

pub are_all : (some mid all : List ℕ) → AreOf some mid → AreOf mid all → AreOf some all
are_all [] mid all a b = tt
are_all (x ∷ some) mid all a b = (among_all mid all x b a.0, are_all some mid all a.1 b)

nth_within : (xs : List ℕ) (i d : ℕ) → nth xs i ≡ Some d → i < length xs
nth_within [] i d at = absurd (cc (at))
nth_within (x ∷ xs) zero d at = omega arith
nth_within (x ∷ xs) (suc i) d at = let more = nth_within xs i d at in omega (arith, more)

found : (xs : List ℕ) (d : ℕ) → ((i : ℕ) × (nth xs i ≡ Some d)) ⊎ (IsAmong d xs → ⊥)
found [] d = inr (λ among. among)
found (x ∷ xs) d = by (d == x) refl (found xs d)
  where
    by : (b : Bool) → (d == x) ≡ b → ((i : ℕ) × (nth xs i ≡ Some d)) ⊎ (IsAmong d xs → ⊥) → ((i : ℕ) × (nth (x ∷ xs) i ≡ Some d)) ⊎ (IsAmong d (x ∷ xs) → ⊥)
    by true e rest = inl (0, ap Some (sym (grind (arith, nat_tests, e))))
    by false e (inl at) = inl (suc at.0, at.1)
    by false e (inr none) = inr (λ among. neither among)
      where
        neither : IsAmong d (x ∷ xs) → ⊥
        neither (inl same) = absurd (grind (arith, nat_tests, same, e))
        neither (inr more) = none more

-- ---- what holds of a name stays so behind calls that keep it

abbrev Keeps : (Disk → Type 0) → Call → Type 0
Keeps P call = (disk : Disk) → P disk → P (after call disk)

all_keep : (P : Disk → Type 0) (plan : List Call) → AllByRecursion (Keeps P) plan → (disk : Disk) → P disk → (k : ℕ) → P (after_all (take k plan) disk)
all_keep P plan all disk holds zero = holds
all_keep P [] all disk holds (suc k) = holds
all_keep P (call ∷ plan) all disk holds (suc k) = all_keep P plan all.1 (after call disk) (all.0 disk holds) k

whole_keeps : (P : Disk → Type 0) (plan : List Call) → AllByRecursion (Keeps P) plan → (disk : Disk) → P disk → P (after_all plan disk)
whole_keeps P [] all disk holds = holds
whole_keeps P (call ∷ plan) all disk holds = whole_keeps P plan all.1 (after call disk) (all.0 disk holds)

module _ (file : File) where
  abbrev slot : Slot
  slot = record { now = Some file; others = [] }

  abbrev Has : Name → Disk → Type 0
  Has name disk = disk name ≡ slot

  is_read : (name : Name) (disk : Disk) → Has name disk → (c : Files) → Leaves disk c → IsRead (Some file) (c name)
  is_read name disk e c leaves = by (subst (λ (s : Slot). IsRead s.now (c name) ⊎ IsOne s.others (c name)) e (leaves name))
    where
      by : IsRead (Some file) (c name) ⊎ IsOne [] (c name) → IsRead (Some file) (c name)
      by (inl read) = read
      by (inr none) = elim none [ ]

  -- ---- a claimed file stays under its number while others are claimed from a larger one on

  claimed_removals : (m : ℕ) (gone : List ℕ) → AllByRecursion (Keeps (Has (Claimed m))) (removals gone ++ SyncFolder Boxes ∷ [])
  claimed_removals m [] = ((λ disk e. e), tt)
  claimed_removals m (x ∷ gone) = ((λ disk e. e), claimed_removals m gone)

  claimed_links : (m n : ℕ) (made gone : List ℕ) → m < n → AllByRecursion (Keeps (Has (Claimed m))) (claim_calls n made gone)
  claimed_links m n [] gone less = ((λ disk e. ap (λ (s : Slot). settled s) e), claimed_removals m gone)
  claimed_links m n (x ∷ made) gone less = (
    (λ disk e. ap (λ (b : Bool). if b then given (disk (Dropped x)).now (disk (Claimed n)) else disk (Claimed m)) other ∙ e),
    claimed_links m (suc n) made gone (omega (arith, less)),
  )
    where
      other : (m == n) ≡ false
      other = grind (arith, nat_tests, less)

  claimed_passes : (m next : ℕ) (drops : List ℕ) (passes : List Pass) → m < next → ArePasses next drops passes → AllByRecursion (Keeps (Has (Claimed m))) (calls_of passes)
  claimed_passes m next drops [] less are = tt
  claimed_passes m next drops (pass ∷ passes) less are =
      let behind = are.0 in
      all_both (Keeps (Has (Claimed m))) (claim_calls pass.number pass.made pass.gone) (calls_of passes)
      (claimed_links m pass.number pass.made pass.gone (omega (arith, less, behind)))
      (claimed_passes m (pass.number + length pass.made) drops passes (omega (arith, less, behind)) are.1.1.1)

  -- ---- and one that does not leave its box stays there

  boxed_removals : (drop : ℕ) (gone : List ℕ) → (IsAmong drop gone → ⊥) → AllByRecursion (Keeps (Has (Dropped drop))) (removals gone ++ SyncFolder Boxes ∷ [])
  boxed_removals drop [] none = ((λ disk e. ap (λ (s : Slot). settled s) e), tt)
  boxed_removals drop (x ∷ gone) none = (
    (λ disk e. ap (λ (b : Bool). if b then given None (disk (Dropped x)) else disk (Dropped drop)) (apart (drop == x) refl) ∙ e),
    boxed_removals drop gone (λ more. none (inr more)),
  )
    where
      apart : (b : Bool) → (drop == x) ≡ b → (drop == x) ≡ false
      apart true h = absurd (none (inl (grind (arith, nat_tests, h))))
      apart false h = h

  boxed_links : (drop n : ℕ) (made gone : List ℕ) → (IsAmong drop gone → ⊥) → AllByRecursion (Keeps (Has (Dropped drop))) (claim_calls n made gone)
  boxed_links drop n [] gone none = ((λ disk e. e), boxed_removals drop gone none)
  boxed_links drop n (x ∷ made) gone none = ((λ disk e. e), boxed_links drop (suc n) made gone none)

  -- ---- so a power cut leaves it in its box, or under a number

  abbrev Home : ℕ → ℕ → Files → Type 0
  Home first drop c = IsRead (Some file) (c (Dropped drop)) ⊎ ((n : ℕ) × ((first ≤ n) × IsRead (Some file) (c (Claimed n))))

  pub passes_keep : (first next drop : ℕ) (drops : List ℕ) (passes : List Pass) → first ≤ next → ArePasses next drops passes → (disk : Disk) → Has (Dropped drop) disk
      → (k : ℕ) (c : Files) → Leaves (after_all (take k (calls_of passes)) disk) c → Home first drop c
  passes_keep first next drop drops [] less are disk e zero c leaves = inl (is_read (Dropped drop) disk e c leaves)
  passes_keep first next drop drops [] less are disk e (suc k) c leaves = inl (is_read (Dropped drop) disk e c leaves)
  passes_keep first next drop drops (pass ∷ passes) less are disk e k c leaves =
      by (λ kept within j left. passes_keep first (pass.number + length pass.made) drop drops passes within are.1.1.1 behind kept j c left)
      (found pass.made drop) (cut_both k own (calls_of passes))
    where
      own : List Call
      own = claim_calls pass.number pass.made pass.gone

      behind : Disk
      behind = after_all own disk

      later : (j : ℕ) → take k (own ++ calls_of passes) ≡ own ++ take j (calls_of passes) → Leaves (after_all (take j (calls_of passes)) behind) c
      later j cut = subst (λ (d : Disk). Leaves d c) (ap (λ (l : List Call). after_all l disk) cut ∙ after_both own (take j (calls_of passes)) disk) leaves

      here : (i : ℕ) → take k (own ++ calls_of passes) ≡ take i own → Leaves (after_all (take i own) disk) c
      here i cut = subst (λ (l : List Call). Leaves (after_all l disk) c) cut leaves

      large : first ≤ pass.number
      large = let h = are.0 in omega (arith, less, h)

      more : first ≤ pass.number + length pass.made
      more = omega (arith, large)

      by : (Has (Dropped drop) behind → first ≤ pass.number + length pass.made → (j : ℕ) → Leaves (after_all (take j (calls_of passes)) behind) c → Home first drop c)
          → ((i : ℕ) × (nth pass.made i ≡ Some drop)) ⊎ (IsAmong drop pass.made → ⊥)
          → ((i : ℕ) × (take k (own ++ calls_of passes) ≡ take i own)) ⊎ ((j : ℕ) × (take k (own ++ calls_of passes) ≡ own ++ take j (calls_of passes))) → Home first drop c
      by rest (inl (place, at)) (inl (i, cut)) = of ((claims_lose_nothing pass.number pass.made pass.gone disk drop place file at e).kept i c (here i cut))
        where
          of : IsRead (Some file) (c (Dropped drop)) ⊎ IsRead (Some file) (c (Claimed (pass.number + place))) → Home first drop c
          of (inl read) = inl read
          of (inr read) = inr (pass.number + place, (omega (arith, large), read))
      by rest (inl (place, at)) (inr (j, cut)) =
          let within = nth_within pass.made place drop at in
          inr (
            pass.number + place,
            (
              omega (arith, large),
              is_read (Claimed (pass.number + place)) (after_all (take j (calls_of passes)) behind)
                  (all_keep (Has (Claimed (pass.number + place))) (calls_of passes)
                  (claimed_passes (pass.number + place) (pass.number + length pass.made) drops passes (omega (arith, within)) are.1.1.1)
                  behind (claims_lose_nothing pass.number pass.made pass.gone disk drop place file at e).claimed j) c (later j cut),
            ),
          )
      by rest (inr none) (inl (i, cut)) =
          inl (is_read (Dropped drop) (after_all (take i own) disk)
          (all_keep (Has (Dropped drop)) own (boxed_links drop pass.number pass.made pass.gone (λ among. none (among_all pass.gone pass.made drop are.1.1.0 among))) disk e i) c (here i cut))
      by rest (inr none) (inr (j, cut)) =
          rest
          (whole_keeps (Has (Dropped drop)) own (boxed_links drop pass.number pass.made pass.gone (λ among. none (among_all pass.gone pass.made drop are.1.1.0 among))) disk e) more j (later j cut)

-- ---- passes, one after the other

-- what was claimed so far, whatever passes follow from this number on
pub record ClaimsSoFar {D : Type 0} (calls : D → List Call) (first next : ℕ) (drops : List ℕ) (all : List One) (old new : D) : Type 0 where
  pub passes : List Pass
  pub are : (later : List Pass) → ArePasses next drops later → ArePasses first drops (passes ++ later)
  pub did : Did calls (calls_of passes) old new
  pub is : all ≡ claimed_in passes

calls_more : (passes : List Pass) (pass : Pass) → calls_of (passes ++ pass ∷ []) ≡ calls_of passes ++ claim_calls pass.number pass.made pass.gone
calls_more [] pass = none_behind (claim_calls pass.number pass.made pass.gone)
calls_more (p ∷ passes) pass =
    ap (λ (l : List Call). claim_calls p.number p.made p.gone ++ l) (calls_more passes pass)
    ∙ sym (in_row (claim_calls p.number p.made p.gone) (calls_of passes) (claim_calls pass.number pass.made pass.gone))

claimed_more : (passes : List Pass) (pass : Pass) → claimed_in (passes ++ pass ∷ []) ≡ claimed_in passes ++ numbered pass.number pass.made
claimed_more [] pass = none_behind (numbered pass.number pass.made)
claimed_more (p ∷ passes) pass =
    ap (λ (l : List One). numbered p.number p.made ++ l) (claimed_more passes pass) ∙ sym (in_row (numbered p.number p.made) (claimed_in passes) (numbered pass.number pass.made))

farther : (next free : ℕ) (drops : List ℕ) (passes : List Pass) → next ≤ free → ArePasses free drops passes → ArePasses next drops passes
farther next free drops [] less are = tt
farther next free drops (pass ∷ passes) less are = let h = are.0 in (omega (arith, less, h), are.1)

module _ {D : Type 0} (calls : D → List Call) (first : ℕ) (drops : List ℕ) where
  pub starts : (all : List One) (d : D) → all ≡ [] → ClaimsSoFar calls first first drops all d d
  starts all d none = record { passes = []; are = λ later are. are; did = record { all = sym (none_behind (calls d)) }; is = none }

  pub goes_on : (next free : ℕ) (rest made gone : List ℕ) (all more : List One) (old now new : D) → ClaimsSoFar calls first next drops all old now → AreOf rest drops
      → AreOf made rest → AreOf gone made → Did calls (claim_calls next made gone) now new → more ≡ all ++ numbered next made → next + length made ≤ free
      → ClaimsSoFar calls first free drops more old new
  goes_on next free rest made gone all more old now new so are_rest are_made are_gone did is behind = record {
    passes = so.passes ++ pass ∷ [];
    are = λ later are. subst (λ (l : List Pass). ArePasses first drops l) (sym (in_row so.passes (pass ∷ []) later))
        (so.are (pass ∷ later) (omega arith, (are_all made rest drops are_made are_rest, (are_gone, farther (next + length made) free drops later behind are))));
    did = record {
      all = did.all ∙ ap (λ (l : List Call). l ++ claim_calls next made gone) so.did.all ∙ in_row (calls old) (calls_of so.passes) (claim_calls next made gone)
          ∙ ap (λ (l : List Call). calls old ++ l) (sym (calls_more so.passes pass));
    };
    is = is ∙ ap (λ (l : List One). l ++ numbered next made) so.is ∙ sym (claimed_more so.passes pass);
  }
    where
      pass : Pass
      pass = record { number = next; made = made; gone = gone }

  pub ends : (next : ℕ) (all : List One) (old new : D) → ClaimsSoFar calls first next drops all old new → ClaimsAll calls first drops all old new
  ends next all old new so = record {
    passes = so.passes;
    are = subst (λ (l : List Pass). ArePasses first drops l) (none_behind so.passes) (so.are [] tt);
    did = so.did;
    is = so.is;
  }

-- ---- of which files

are_own : (xs : List ℕ) → AreOf xs xs
are_own xs = each xs xs (λ d among. among)
  where
    each : (some all : List ℕ) → ((d : ℕ) → IsAmong d some → IsAmong d all) → AreOf some all
    each [] all among = tt
    each (x ∷ some) all among = (among x (inl refl), each some all (λ d more. among d (inr more)))

pub are_same : (some all : List ℕ) → some ≡ all → AreOf some all
are_same some all same = subst (λ (l : List ℕ). AreOf l all) (sym same) (are_own all)

pub are_more : (some all : List ℕ) (d : ℕ) → AreOf some all → IsAmong d all → AreOf (some ++ d ∷ []) all
are_more [] all d are among = (among, tt)
are_more (x ∷ some) all d are among = (are.0, are_more some all d are.1 among)

-- ---- whatever disk the run began on

module _ {D : Type 0} (calls : D → List Call) where
  pub claims_keep : (first : ℕ) (drops : List ℕ) (all : List One) (old new : D) → ClaimsAll calls first drops all old new → KeepsEach calls first old new
  claims_keep first drops all old new claims disk drop file there k c leaves =
      let (i, same) = moment calls (calls_of claims.passes) old new (whole calls (calls_of claims.passes) old new claims.did) disk k in
      passes_keep file first first drop drops claims.passes (omega arith) claims.are (after_all (calls old) disk) there i c
      (subst (λ (d : Disk). Leaves d c) same leaves)

pub kept_more : (others more all : List ℕ) (d : ℕ) → (more ≡ others) ⊎ (more ≡ others ++ d ∷ []) → AreOf others all → IsAmong d all → AreOf more all
kept_more others more all d (inl e) are among = subst (λ (l : List ℕ). AreOf l all) (sym e) are
kept_more others more all d (inr e) are among = subst (λ (l : List ℕ). AreOf l all) (sym e) (are_more others all d are among)
