-- Looks, one behind the other, and what they come to.
use Rattle.std.proofs.Common.{◌≡◌, ◌<◌, ◌^◌, ℕ, suc, ◌+◌, Bool, true, false, List, [], ◌∷◌, ◌++◌, length, Option, Some, None, refl, sym, ap, ◌∙◌, subst, arith}
use Rattle.std.{specs.Prelude.{if◌then◌else◌, ◌==◌, ◌&&◌, nat_lt}, specs.List.{AllByRecursion}, proofs.lemmas.Bool.Decides.{nat_tests}}
use Rattle.ledger_disk.specs.{declared.identity.Identity.{Identity}, declared.name.Name.{Name}, declared.name.Name.TheVariants.{Claimed}, Plans.{Did}}
use Rattle.ledger_disk.specs.Disks.{Which, Call, Write, SyncFile, Rename, Link, Remove, SyncFolder, Saw, Looked, Next, which_after, which_behind, LooksAreTrue, IsNext}
use Rattle.ledger_names.specs.Sorting.{same_file, is_among}
use Rattle.ledger_run.specs.Finishing.{is_look, Looks, StandsUnder, Gathered, Adds, bound}

none_behind : {A : Type 0} (xs : List A) → xs ++ [] ≡ xs
none_behind [] = refl
none_behind {A} (x ∷ xs) = ap (λ (l : List A). x ∷ l) (none_behind xs)

in_row : {A : Type 0} (xs ys zs : List A) → (xs ++ ys) ++ zs ≡ xs ++ (ys ++ zs)
in_row [] ys zs = refl
in_row {A} (x ∷ xs) ys zs = ap (λ (l : List A). x ∷ l) (in_row xs ys zs)

pub all_both : {A : Type 0} (P : A → Type 0) (xs ys : List A) → AllByRecursion P xs → AllByRecursion P ys → AllByRecursion P (xs ++ ys)
all_both P [] ys a b = b
all_both P (x ∷ xs) ys a b = (a.0, all_both P xs ys a.1 b)

-- ---- calls, one behind the other

pub behind_both : (xs ys : List Call) (time : ℕ) (which : Which) → which_behind time (xs ++ ys) which ≡ which_behind (time + length xs) ys (which_behind time xs which)
behind_both [] ys time which = ap (λ (t : ℕ). which_behind t ys which) (omega arith)
behind_both (x ∷ xs) ys time which =
    behind_both xs ys (suc time) (which_after time x which) ∙ ap (λ (t : ℕ). which_behind t ys (which_behind (suc time) xs (which_after time x which))) count
  where
    count : suc time + length xs ≡ time + length (x ∷ xs)
    count = omega arith

look_same : (call : Call) (time : ℕ) (which : Which) → is_look call ≡ true → which_after time call which ≡ which
look_same (Looked name found) time which e = refl
look_same (Next from found) time which e = refl
look_same (Saw name found) time which e = refl
look_same (Write name bytes) time which e = absurd (cc (e))
look_same (SyncFile name) time which e = absurd (cc (e))
look_same (Rename from to) time which e = absurd (cc (e))
look_same (Link from to) time which e = absurd (cc (e))
look_same (Remove name) time which e = absurd (cc (e))
look_same (SyncFolder folder) time which e = absurd (cc (e))

pub looks_same : (calls : List Call) (time : ℕ) (which : Which) → AllByRecursion (λ call. is_look call ≡ true) calls → which_behind time calls which ≡ which
looks_same [] time which all = refl
looks_same (x ∷ xs) time which all = looks_same xs (suc time) (which_after time x which) all.1 ∙ look_same x time which all.0

-- what the looks told, before and behind
pub record Split (xs ys : List Call) (time : ℕ) (which : Which) : Type 0 where
  pub before : LooksAreTrue time xs which
  pub behind : LooksAreTrue (time + length xs) ys (which_behind time xs which)

later : (x : Call) (xs ys : List Call) (time : ℕ) (which : Which) → LooksAreTrue (suc time + length xs) ys which → LooksAreTrue (time + length (x ∷ xs)) ys which
later x xs ys time which told = subst (λ (t : ℕ). LooksAreTrue t ys which) count told
  where
    count : suc time + length xs ≡ time + length (x ∷ xs)
    count = omega arith

pub split : (xs ys : List Call) (time : ℕ) (which : Which) → LooksAreTrue time (xs ++ ys) which → Split xs ys time which
split [] ys time which told = record { before = tt; behind = subst (λ (t : ℕ). LooksAreTrue t ys which) (omega arith) told }
split (Write n b ∷ xs) ys time which told =
    let on : Which = which_after time (Write n b) which in let s : Split xs ys (suc time) on = split xs ys (suc time) on told in
    record { before = s.before; behind = later (Write n b) xs ys time (which_behind (suc time) xs on) s.behind }
split (SyncFile n ∷ xs) ys time which told =
    let on : Which = which_after time (SyncFile n) which in let s : Split xs ys (suc time) on = split xs ys (suc time) on told in
    record { before = s.before; behind = later (SyncFile n) xs ys time (which_behind (suc time) xs on) s.behind }
split (Rename n m ∷ xs) ys time which told =
    let on : Which = which_after time (Rename n m) which in let s : Split xs ys (suc time) on = split xs ys (suc time) on told in
    record { before = s.before; behind = later (Rename n m) xs ys time (which_behind (suc time) xs on) s.behind }
split (Link n m ∷ xs) ys time which told =
    let on : Which = which_after time (Link n m) which in let s : Split xs ys (suc time) on = split xs ys (suc time) on told in
    record { before = s.before; behind = later (Link n m) xs ys time (which_behind (suc time) xs on) s.behind }
split (Remove n ∷ xs) ys time which told =
    let on : Which = which_after time (Remove n) which in let s : Split xs ys (suc time) on = split xs ys (suc time) on told in
    record { before = s.before; behind = later (Remove n) xs ys time (which_behind (suc time) xs on) s.behind }
split (SyncFolder f ∷ xs) ys time which told =
    let on : Which = which_after time (SyncFolder f) which in let s : Split xs ys (suc time) on = split xs ys (suc time) on told in
    record { before = s.before; behind = later (SyncFolder f) xs ys time (which_behind (suc time) xs on) s.behind }
split (Saw n o ∷ xs) ys time which told =
    let s : Split xs ys (suc time) which = split xs ys (suc time) which told in record { before = s.before; behind = later (Saw n o) xs ys time (which_behind (suc time) xs which) s.behind }
split (Looked n o ∷ xs) ys time which told =
    let s : Split xs ys (suc time) which = split xs ys (suc time) which told.1 in record { before = (told.0, s.before); behind = later (Looked n o) xs ys time (which_behind (suc time) xs which) s.behind }
split (Next n o ∷ xs) ys time which told =
    let s : Split xs ys (suc time) which = split xs ys (suc time) which told.1 in record { before = (told.0, s.before); behind = later (Next n o) xs ys time (which_behind (suc time) xs which) s.behind }

-- ---- looks of a disk

module _ {D : Type 0} (calls : D → List Call) where
  pub looks_none : (old new : D) → calls new ≡ calls old → Looks calls (λ which. Unit {0}) old new
  looks_none old new same = record { more = []; grows = same ∙ sym (none_behind (calls old)); only = tt; told = λ first told. tt }

  pub look_one : (name : Name) (found : Option Identity) (old new : D) → Did calls (Looked name found ∷ []) old new → Looks calls (λ which. found ≡ (which name).now) old new
  look_one name found old new did = record {
    more = Looked name found ∷ [];
    grows = did.all;
    only = (refl, tt);
    told = λ first told. (split (calls old) (Looked name found ∷ []) 0 first (subst (λ (l : List Call). LooksAreTrue 0 l first) did.all told)).behind.0;
  }

  pub next_one : (from : ℕ) (found : Option ℕ) (old new : D) → Did calls (Next from found ∷ []) old new → Looks calls (IsNext from found) old new
  next_one from found old new did = record {
    more = Next from found ∷ [];
    grows = did.all;
    only = (refl, tt);
    told = λ first told. (split (calls old) (Next from found ∷ []) 0 first (subst (λ (l : List Call). LooksAreTrue 0 l first) did.all told)).behind.0;
  }

  module _ (P Q : Which → Type 0) where
    pub looks_so : (old new : D) → ((which : Which) → P which → Q which) → Looks calls P old new → Looks calls Q old new
    looks_so old new so l = record { more = l.more; grows = l.grows; only = l.only; told = λ first told. so (which_behind 0 (calls old) first) (l.told first told) }

    pub looks_then : (old mid new : D) → Looks calls P old mid → Looks calls Q mid new → Looks calls (λ which. P which × Q which) old new
    looks_then old mid new a b = record {
      more = a.more ++ b.more;
      grows = b.grows ∙ ap (λ (l : List Call). l ++ b.more) a.grows ∙ in_row (calls old) a.more b.more;
      only = all_both (λ call. is_look call ≡ true) a.more b.more a.only b.only;
      told = λ first told. (
        a.told first (split (calls mid) b.more 0 first (subst (λ (l : List Call). LooksAreTrue 0 l first) b.grows told)).before,
        subst Q (same first) (b.told first told),
      );
    }
      where
        same : (first : Which) → which_behind 0 (calls mid) first ≡ which_behind 0 (calls old) first
        same first =
            ap (λ (l : List Call). which_behind 0 l first) a.grows ∙ behind_both (calls old) a.more 0 first
            ∙ looks_same a.more (0 + length (calls old)) (which_behind 0 (calls old) first) a.only

  -- whatever was told
  pub looks_on : (P Q : Which → Type 0) (old mid new : D) → Looks calls P old mid → Looks calls Q mid new → Looks calls (λ which. Unit {0}) old new
  looks_on P Q old mid new a b = looks_so (λ which. P which × Q which) (λ which. Unit {0}) old new (λ which both. tt) (looks_then P Q old mid new a b)

-- ---- files that stand under numbers

among_front : (file : Identity) (xs ys : List Identity) → is_among file xs ≡ true → is_among file (xs ++ ys) ≡ true
among_front file [] ys e = absurd (cc (e))
among_front file (x ∷ xs) ys e = by (same_file file x) e (λ h. among_front file xs ys h)
  where
    by : (b : Bool) → (if b then true else is_among file xs) ≡ true → (is_among file xs ≡ true → is_among file (xs ++ ys) ≡ true) → (if b then true else is_among file (xs ++ ys)) ≡ true
    by true e rest = refl
    by false e rest = rest e

pub same_self : (file : Identity) → same_file file file ≡ true
same_self file = grind (arith, nat_tests)

among_end : (file : Identity) (xs : List Identity) → is_among file (xs ++ file ∷ []) ≡ true
among_end file [] = ap (λ (b : Bool). if b then true else false) (same_self file)
among_end file (x ∷ xs) = by (same_file file x) (among_end file xs)
  where
    by : (b : Bool) → is_among file (xs ++ file ∷ []) ≡ true → (if b then true else is_among file (xs ++ file ∷ [])) ≡ true
    by true e = refl
    by false e = e

pub inside : (a b : Identity) → Some a ≡ Some b → a ≡ b
inside a b e = cc (e)

pub same_is : (a b : Identity) → same_file a b ≡ true → a ≡ b
same_is a b e = by (a.device == b.device) (a.inode == b.inode) refl refl e
  where
    by : (p q : Bool) → (a.device == b.device) ≡ p → (a.inode == b.inode) ≡ q → (p && q) ≡ true → a ≡ b
    by true true p q e =
        let d : a.device ≡ b.device = grind (arith, nat_tests, p) in let i : a.inode ≡ b.inode = grind (arith, nat_tests, q) in
        ap (λ (n : ℕ). record { device = n; inode = a.inode }) d ∙ ap (λ (n : ℕ). record { device = b.device; inode = n }) i
    by true false p q e = absurd (cc (e))
    by false q p r e = absurd (cc (e))

-- one of these stands where they all do
pub stands_among : (which : Which) (files : List Identity) (file : Identity) → AllByRecursion (StandsUnder which) files → is_among file files ≡ true → StandsUnder which file
stands_among which [] file all e = absurd (cc (e))
stands_among which (x ∷ xs) file all e = by (same_file file x) refl e (λ h. stands_among which xs file all.1 h)
  where
    by : (b : Bool) → same_file file x ≡ b → (if b then true else is_among file xs) ≡ true → (is_among file xs ≡ true → StandsUnder which file) → StandsUnder which file
    by true same e rest = subst (λ (f : Identity). StandsUnder which f) (sym (same_is file x same)) all.0
    by false same e rest = rest e

module _ (which : Which) (files : List Identity) (from : ℕ) (all : Gathered files from which) where
  pub gathered_none : IsNext from None which → Gathered files (2 ^ 64) which
  gathered_none next = record { sound = all.sound; whole = λ n file less is. by n file is (nat_lt n from) refl }
    where
      by : (n : ℕ) (file : Identity) → (which (Claimed n)).now ≡ Some file → (b : Bool) → nat_lt n from ≡ b → is_among file files ≡ true
      by n file is true e = all.whole n file (grind (arith, nat_tests, e)) is
      by n file is false e = absurd (let h : None ≡ Some file = sym (next n (grind (arith, nat_tests, e))) ∙ is in cc (h))

  module _ (number : ℕ) (next : IsNext from (Some number) which) where
    -- below the next number there are no others
    below : (n : ℕ) (file : Identity) → n < number → (which (Claimed n)).now ≡ Some file → is_among file files ≡ true
    below n file less is = by (nat_lt n from) refl
      where
        by : (b : Bool) → nat_lt n from ≡ b → is_among file files ≡ true
        by true e = all.whole n file (grind (arith, nat_tests, e)) is
        by false e = absurd (let h : None ≡ Some file = sym (next n (grind (arith, nat_tests, e)) less) ∙ is in cc (h))

    pub gathered_file : (one : Identity) → Some one ≡ (which (Claimed number)).now → Gathered (files ++ one ∷ []) (number + 1) which
    gathered_file one there = record {
      sound = all_both (StandsUnder which) files (one ∷ []) all.sound (record { number = number; is = sym there }, tt);
      whole = λ n file less is. by n file less is (n == number) refl;
    }
      where
        by : (n : ℕ) (file : Identity) → n < number + 1 → (which (Claimed n)).now ≡ Some file → (b : Bool) → (n == number) ≡ b → is_among file (files ++ one ∷ []) ≡ true
        by n file less is true e =
            let same : n ≡ number = grind (arith, nat_tests, e) in
            let it : one ≡ file = inside one file (there ∙ ap (λ (j : ℕ). (which (Claimed j)).now) (sym same) ∙ is) in
            subst (λ (f : Identity). is_among f (files ++ one ∷ []) ≡ true) it (among_end one files)
        by n file less is false e = among_front file files (one ∷ []) (below n file (grind (arith, nat_tests, less, e)) is)

    pub gathered_skip : None ≡ (which (Claimed number)).now → Gathered files (number + 1) which
    gathered_skip none = record { sound = all.sound; whole = λ n file less is. by n file less is (n == number) refl }
      where
        by : (n : ℕ) (file : Identity) → n < number + 1 → (which (Claimed n)).now ≡ Some file → (b : Bool) → (n == number) ≡ b → is_among file files ≡ true
        by n file less is true e =
            let same : n ≡ number = grind (arith, nat_tests, e) in
            absurd (let h : None ≡ Some file = none ∙ ap (λ (j : ℕ). (which (Claimed j)).now) (sym same) ∙ is in cc (h))
        by n file less is false e = below n file (grind (arith, nat_tests, less, e)) is

pub none_gathered : (which : Which) → Gathered [] 0 which
none_gathered which = record { sound = tt; whole = λ n file less is. absurd (omega (arith, less)) }

-- ---- what each call of the code comes to

module _ {D : Type 0} (calls : D → List Call) where
  abbrev Anything : Which → Type 0
  Anything which = Unit {0}

  pub looked_any : (name : Name) (found : Option Identity) (old new : D) → Did calls (Looked name found ∷ []) old new → Looks calls (λ which. Unit {0}) old new
  looked_any name found old new did = looks_so calls (λ which. found ≡ (which name).now) Anything old new (λ which told. tt) (look_one calls name found old new did)

  pub adds_file : (number : ℕ) (one : Identity) (found : Option Identity) (files : List Identity) (old new : D) → found ≡ Some one → Did calls (Looked (Claimed number) found ∷ []) old new
      → Looks calls (Adds number files (files ++ one ∷ [])) old new
  adds_file number one found files old new is did =
      looks_so calls (λ which. found ≡ (which (Claimed number)).now) (Adds number files (files ++ one ∷ [])) old new
      (λ which told. record { adds = λ from next all. gathered_file which files from all number next one (sym is ∙ told) }) (look_one calls (Claimed number) found old new did)

  pub adds_none : (number : ℕ) (found : Option Identity) (files : List Identity) (old new : D) → found ≡ None → Did calls (Looked (Claimed number) found ∷ []) old new
      → Looks calls (Adds number files files) old new
  adds_none number found files old new is did =
      looks_so calls (λ which. found ≡ (which (Claimed number)).now) (Adds number files files) old new
      (λ which told. record { adds = λ from next all. gathered_skip which files from all number next (sym is ∙ told) }) (look_one calls (Claimed number) found old new did)

  pub none_next : (from : ℕ) (found : Option ℕ) (files : List Identity) (old new : D) → found ≡ None → Did calls (Next from found ∷ []) old new
      → Looks calls (λ which. Gathered files from which → Gathered files (2 ^ 64) which) old new
  none_next from found files old new is did =
      looks_so calls (IsNext from found) (λ which. Gathered files from which → Gathered files (2 ^ 64) which) old new
      (λ which told all. gathered_none which files from all (subst (λ (o : Option ℕ). IsNext from o which) is told)) (next_one calls from found old new did)

  pub adds_next : (from number : ℕ) (found next : Option ℕ) (files more : List Identity) (old mid new : D) → found ≡ Some number → Did calls (Next from found ∷ []) old mid
      → Looks calls (Adds number files more) mid new → bound next ≡ number + 1 → Looks calls (λ which. Gathered files from which → Gathered more (bound next) which) old new
  adds_next from number found next files more old mid new is did adds end =
      looks_so calls (λ which. IsNext from found which × Adds number files more which) (λ which. Gathered files from which → Gathered more (bound next) which) old new
      (λ which told all. subst (λ (n : ℕ). Gathered more n which) (sym end) (told.1.adds from (subst (λ (o : Option ℕ). IsNext from o which) is told.0) all))
      (looks_then calls (IsNext from found) (Adds number files more) old mid new (next_one calls from found old mid did) adds)

  pub next_then : (from : ℕ) (found : Option ℕ) (old mid new : D) → Did calls (Next from found ∷ []) old mid → Looks calls (λ which. Unit {0}) mid new → Looks calls (λ which. Unit {0}) old new
  next_then from found old mid new did looks = looks_on calls (IsNext from found) Anything old mid new (next_one calls from found old mid did) looks

  pub gathers_none : (files : List Identity) (old : D) → files ≡ [] → Looks calls (Gathered files 0) old old
  gathers_none files old is = looks_so calls Anything (Gathered files 0) old old (λ which told. subst (λ (l : List Identity). Gathered l 0 which) (sym is) (none_gathered which)) (looks_none calls old old refl)

  pub gathers_then : (files more : List Identity) (from end : ℕ) (old mid new : D) → Looks calls (Gathered files from) old mid
      → Looks calls (λ which. Gathered files from which → Gathered more end which) mid new → Looks calls (Gathered more end) old new
  gathers_then files more from end old mid new a b =
      looks_so calls (λ which. Gathered files from which × (Gathered files from which → Gathered more end which)) (Gathered more end) old new (λ which told. told.1 told.0)
      (looks_then calls (Gathered files from) (λ which. Gathered files from which → Gathered more end which) old mid new a b)

  pub gathers_any : (files : List Identity) (from : ℕ) (old new : D) → Looks calls (Gathered files from) old new → Looks calls (λ which. Unit {0}) old new
  gathers_any files from old new a = looks_so calls (Gathered files from) Anything old new (λ which told. tt) a

  pub gathers_on : (files : List Identity) (from : ℕ) (old mid new : D) → Looks calls (Gathered files from) old mid → Looks calls (λ which. Unit {0}) mid new → Looks calls (λ which. Unit {0}) old new
  gathers_on files from old mid new a b = looks_on calls (Gathered files from) Anything old mid new a b
