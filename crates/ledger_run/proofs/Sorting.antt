-- Files in boxes, sorted by what was seen of them.
use Rattle.std.proofs.Common.{◌≡◌, ◌⊎◌, inl, inr, ◌<◌, ◌≤◌, ◌^◌, ℕ, zero, suc, ◌+◌, Bool, true, false, List, [], ◌∷◌, ◌++◌, length, take, slice_index, Option, Some, None, refl, sym, ap, ◌∙◌, subst, arith}
use Rattle.std.{specs.Prelude.{if◌then◌else◌, ◌==◌, ◌&&◌, not}, specs.List.{AllByRecursion}, proofs.lemmas.Bool.Decides.{nat_tests}}
use Rattle.ledger_disk.specs.{declared.identity.Identity.{Identity}, declared.name.Name.TheVariants.{Dropped}, Disks.{Which, Call, Looked, IsAmong}}
use Rattle.ledger_disk.specs.Plans.{Did}
use Rattle.ledger_names.specs.{declared.sorting.Boxed.{Boxed}, Sorting.{same_file, is_among, names_of, is_fit, put_if, done_of, left_of}}
use Rattle.ledger_run.specs.{Finishing.{Looks, Gathered, IsClaimed, IsFit, AreOnce, AreSorted}, Sorting.{IsSeen, AreSeen, SeesOne}}
use Rattle.ledger_run.proofs.Looking.{all_both, inside, same_self, stands_among, look_one, looks_none, looks_so, looks_then, looks_on}

-- ---- one place more

take_suc : (xs : List ℕ) (i : ℕ) → i < length xs → take (suc i) xs ≡ take i xs ++ slice_index xs i ∷ []
take_suc [] i less = absurd (omega (arith, less))
take_suc (x ∷ xs) zero less = refl
take_suc (x ∷ xs) (suc i) less = ap (λ (l : List ℕ). x ∷ l) (take_suc xs i (omega (arith, less)))

pub take_next : (xs : List ℕ) (i : ℕ) → i < length xs → take (i + 1) xs ≡ take i xs ++ slice_index xs i ∷ []
take_next xs i less = (let e : i + 1 ≡ suc i = omega arith in ap (λ (n : ℕ). take n xs) e) ∙ take_suc xs i less

among_end : (d : ℕ) (drops : List ℕ) → IsAmong d (drops ++ d ∷ [])
among_end d [] = inl refl
among_end d (x ∷ drops) = inr (among_end d drops)

among_front : (d e : ℕ) (drops : List ℕ) → IsAmong d drops → IsAmong d (drops ++ e ∷ [])
among_front d e [] among = elim among [ ]
among_front d e (x ∷ drops) (inl same) = inl same
among_front d e (x ∷ drops) (inr more) = inr (among_front d e drops more)

among_either : (d e : ℕ) (drops : List ℕ) → IsAmong d (drops ++ e ∷ []) → IsAmong d drops ⊎ (d ≡ e)
among_either d e [] (inl same) = inr same
among_either d e [] (inr none) = elim none [ ]
among_either d e (x ∷ drops) (inl same) = inl (inl same)
among_either d e (x ∷ drops) (inr more) = by (among_either d e drops more)
  where
    by : IsAmong d drops ⊎ (d ≡ e) → IsAmong d (x ∷ drops) ⊎ (d ≡ e)
    by (inl there) = inl (inr there)
    by (inr same) = inr same

all_front : (drop : ℕ) (drops : List ℕ) (boxed : List Boxed) → AllByRecursion (λ one. IsAmong one.drop drops) boxed → AllByRecursion (λ one. IsAmong one.drop (drops ++ drop ∷ [])) boxed
all_front drop drops [] all = tt
all_front drop drops (one ∷ boxed) all = (among_front one.drop drop drops all.0, all_front drop drops boxed all.1)

seen_front : (d : ℕ) (file : Identity) (boxed more : List Boxed) → IsSeen d file boxed → IsSeen d file (boxed ++ more)
seen_front d file [] more seen = elim seen [ ]
seen_front d file (one ∷ boxed) more (inl here) = inl here
seen_front d file (one ∷ boxed) more (inr later) = inr (seen_front d file boxed more later)

seen_end : (d : ℕ) (file : Identity) (boxed : List Boxed) → IsSeen d file (boxed ++ record { drop = d; file = file } ∷ [])
seen_end d file [] = inl (refl, refl)
seen_end d file (one ∷ boxed) = inr (seen_end d file boxed)

module _ (which : Which) (drop : ℕ) (boxed : List Boxed) where
  seen_more : (file : Identity) → Some file ≡ (which (Dropped drop)).now → SeesOne drop boxed (boxed ++ record { drop = drop; file = file } ∷ []) which
  seen_more file here = record {
    sees = λ drops seen. record {
      among = all_both (λ one. IsAmong one.drop (drops ++ drop ∷ [])) boxed (record { drop = drop; file = file } ∷ []) (all_front drop drops boxed seen.among) (among_end drop drops, tt);
      sound = all_both (λ one. (which (Dropped one.drop)).now ≡ Some one.file) boxed (record { drop = drop; file = file } ∷ []) seen.sound (sym here, tt);
      whole = λ d other among is. by drops seen d other is (among_either d drop drops among);
    };
  }
    where
      by : (drops : List ℕ) → AreSeen drops boxed which → (d : ℕ) (other : Identity) → (which (Dropped d)).now ≡ Some other → IsAmong d drops ⊎ (d ≡ drop)
          → IsSeen d other (boxed ++ record { drop = drop; file = file } ∷ [])
      by drops seen d other is (inl among) = seen_front d other boxed (record { drop = drop; file = file } ∷ []) (seen.whole d other among is)
      by drops seen d other is (inr same) =
          let it : file ≡ other = inside file other (here ∙ ap (λ (e : ℕ). (which (Dropped e)).now) (sym same) ∙ is) in
          subst (λ (f : Identity). IsSeen d f (boxed ++ record { drop = drop; file = file } ∷ [])) it
          (subst (λ (e : ℕ). IsSeen e file (boxed ++ record { drop = drop; file = file } ∷ [])) (sym same) (seen_end drop file boxed))

  seen_none : None ≡ (which (Dropped drop)).now → SeesOne drop boxed boxed which
  seen_none none = record {
    sees = λ drops seen. record {
      among = all_front drop drops boxed seen.among;
      sound = seen.sound;
      whole = λ d other among is. by drops seen d other is (among_either d drop drops among);
    };
  }
    where
      by : (drops : List ℕ) → AreSeen drops boxed which → (d : ℕ) (other : Identity) → (which (Dropped d)).now ≡ Some other → IsAmong d drops ⊎ (d ≡ drop) → IsSeen d other boxed
      by drops seen d other is (inl among) = seen.whole d other among is
      by drops seen d other is (inr same) =
          absurd (let h : None ≡ Some other = none ∙ ap (λ (e : ℕ). (which (Dropped e)).now) (sym same) ∙ is in cc (h))

-- ---- how many names a file has

abbrev one_of : Bool → ℕ
one_of b = if b then 1 else 0

pub names_more : (file : Identity) (boxed : List Boxed) (d : ℕ) → IsSeen d file boxed → 1 ≤ names_of file boxed
names_more file [] d seen = elim seen [ ]
names_more file (one ∷ boxed) d (inl here) =
    let e : one_of (same_file file one.file) ≡ 1 = ap one_of (subst (λ (f : Identity). same_file file f ≡ true) (sym here.1) (same_self file)) in omega (arith, e)
names_more file (one ∷ boxed) d (inr later) = let h = names_more file boxed d later in omega (arith, h)

-- where it has one name, this is it
pub only_name : (file : Identity) (boxed : List Boxed) (d e : ℕ) → names_of file boxed ≡ 1 → IsSeen d file boxed → IsSeen e file boxed → d ≡ e
only_name file [] d e one a b = elim a [ ]
only_name file (x ∷ boxed) d e one (inl a) (inl b) = sym a.0 ∙ b.0
only_name file (x ∷ boxed) d e one (inl a) (inr b) =
    absurd (let h = names_more file boxed e b in
    let k : one_of (same_file file x.file) ≡ 1 = ap one_of (subst (λ (f : Identity). same_file file f ≡ true) (sym a.1) (same_self file)) in omega (arith, h, k, one))
only_name file (x ∷ boxed) d e one (inr a) (inl b) =
    absurd (let h = names_more file boxed d a in
    let k : one_of (same_file file x.file) ≡ 1 = ap one_of (subst (λ (f : Identity). same_file file f ≡ true) (sym b.1) (same_self file)) in omega (arith, h, k, one))
only_name file (x ∷ boxed) d e one (inr a) (inr b) = by (same_file file x.file) one (λ single. only_name file boxed d e single a b)
  where
    by : (t : Bool) → one_of t + names_of file boxed ≡ 1 → (names_of file boxed ≡ 1 → d ≡ e) → d ≡ e
    by true one rest = absurd (let h = names_more file boxed d a in omega (arith, h, one))
    by false one rest = rest (omega (arith, one))

-- ---- sorted

module _ (which : Which) (files : List Identity) (gathered : Gathered files (2 ^ 64) which) (drops : List ℕ) (all : List Boxed) (seen : AreSeen drops all which) where
  record Fits (file : Identity) : Type 0 where
    none : is_among file files ≡ false
    one : names_of file all ≡ 1

  fits : (file : Identity) → is_fit files all file ≡ true → Fits file
  fits file e = by (is_among file files) (names_of file all == 1) refl refl e
    where
      by : (a b : Bool) → is_among file files ≡ a → (names_of file all == 1) ≡ b → (not a && b) ≡ true → Fits file
      by false true p q e = record { none = p; one = grind (arith, nat_tests, q) }
      by false false p q e = absurd (cc (e))
      by true b p q e = absurd (cc (e))

  -- of these, which are some of all
  abbrev AreHere : List Boxed → Type 0
  AreHere boxed = AllByRecursion (λ one. IsSeen one.drop one.file all) boxed

  claimed : (boxed : List Boxed) → AllByRecursion (λ one. (which (Dropped one.drop)).now ≡ Some one.file) boxed → AllByRecursion (IsClaimed which) (done_of files boxed)
  claimed [] sound = tt
  claimed (one ∷ boxed) sound = by (is_among one.file files) refl (claimed boxed sound.1)
    where
      by : (b : Bool) → is_among one.file files ≡ b → AllByRecursion (IsClaimed which) (done_of files boxed) → AllByRecursion (IsClaimed which) (put_if b one.drop (done_of files boxed))
      by true e rest = (record { file = one.file; in_box = sound.0; under = stands_among which files one.file gathered.sound e }, rest)
      by false e rest = rest

  fit_one : (one : Boxed) → IsAmong one.drop drops → (which (Dropped one.drop)).now ≡ Some one.file → IsSeen one.drop one.file all → Fits one.file → IsFit drops which one.drop
  fit_one one among here seen_here f = record {
    among = among;
    file = one.file;
    in_box = here;
    under_none = λ n less under. (let h : true ≡ false = sym (gathered.whole n one.file less under) ∙ f.none in cc (h));
    sole = λ d there is. only_name one.file all d one.drop f.one (seen.whole d one.file there is) seen_here;
  }

  fit : (boxed : List Boxed) → AllByRecursion (λ one. IsAmong one.drop drops) boxed → AllByRecursion (λ one. (which (Dropped one.drop)).now ≡ Some one.file) boxed → AreHere boxed
      → AllByRecursion (IsFit drops which) (left_of files all boxed)
  fit [] among sound here = tt
  fit (one ∷ boxed) among sound here = by (is_fit files all one.file) refl (fit boxed among.1 sound.1 here.1)
    where
      by : (b : Bool) → is_fit files all one.file ≡ b → AllByRecursion (IsFit drops which) (left_of files all boxed)
          → AllByRecursion (IsFit drops which) (put_if b one.drop (left_of files all boxed))
      by true e rest = (fit_one one among.0 sound.0 here.0 (fits one.file e), rest)
      by false e rest = rest

  -- a place among those that are left was seen, and so was its file
  record WasLeft (d : ℕ) (boxed : List Boxed) : Type 0 where
    file : Identity
    seen_there : IsSeen d file boxed
    fits_there : Fits file

  was_left : (boxed : List Boxed) (d : ℕ) → IsAmong d (left_of files all boxed) → WasLeft d boxed
  was_left [] d among = elim among [ ]
  was_left (one ∷ boxed) d among = by (is_fit files all one.file) refl (λ more. was_left boxed d more) among
    where
      later : WasLeft d boxed → WasLeft d (one ∷ boxed)
      later w = record { file = w.file; seen_there = inr w.seen_there; fits_there = w.fits_there }

      by : (b : Bool) → is_fit files all one.file ≡ b → (IsAmong d (left_of files all boxed) → WasLeft d boxed) → IsAmong d (put_if b one.drop (left_of files all boxed)) → WasLeft d (one ∷ boxed)
      by true e rest (inl same) = record { file = one.file; seen_there = inl (sym same, refl); fits_there = fits one.file e }
      by true e rest (inr more) = later (rest more)
      by false e rest more = later (rest more)

  record WasDone (d : ℕ) (boxed : List Boxed) : Type 0 where
    file : Identity
    seen_there : IsSeen d file boxed
    under : is_among file files ≡ true

  was_done : (boxed : List Boxed) (d : ℕ) → IsAmong d (done_of files boxed) → WasDone d boxed
  was_done [] d among = elim among [ ]
  was_done (one ∷ boxed) d among = by (is_among one.file files) refl (λ more. was_done boxed d more) among
    where
      later : WasDone d boxed → WasDone d (one ∷ boxed)
      later w = record { file = w.file; seen_there = inr w.seen_there; under = w.under }

      by : (b : Bool) → is_among one.file files ≡ b → (IsAmong d (done_of files boxed) → WasDone d boxed) → IsAmong d (put_if b one.drop (done_of files boxed)) → WasDone d (one ∷ boxed)
      by true e rest (inl same) = record { file = one.file; seen_there = inl (sym same, refl); under = e }
      by true e rest (inr more) = later (rest more)
      by false e rest more = later (rest more)

  -- what is seen at a place is what stands there
  stands_at : (boxed : List Boxed) → AllByRecursion (λ one. (which (Dropped one.drop)).now ≡ Some one.file) boxed → (d : ℕ) (file : Identity) → IsSeen d file boxed
      → (which (Dropped d)).now ≡ Some file
  stands_at [] sound d file seen = elim seen [ ]
  stands_at (one ∷ boxed) sound d file (inl here) =
      ap (λ (e : ℕ). (which (Dropped e)).now) (sym here.0) ∙ sound.0 ∙ ap (λ (f : Identity). Some f) here.1
  stands_at (one ∷ boxed) sound d file (inr later) = stands_at boxed sound.1 d file later

  once : (boxed : List Boxed) → AllByRecursion (λ one. (which (Dropped one.drop)).now ≡ Some one.file) boxed → ((file : Identity) → names_of file boxed ≤ names_of file all)
      → AreOnce (left_of files all boxed)
  once [] sound fewer = tt
  once (one ∷ boxed) sound fewer = by (is_fit files all one.file) refl (once boxed sound.1 rest)
    where
      rest : (file : Identity) → names_of file boxed ≤ names_of file all
      rest file = let h = fewer file in omega (arith, h)

      twice : Fits one.file → IsAmong one.drop (left_of files all boxed) → ⊥
      twice f among =
          let w : WasLeft one.drop boxed = was_left boxed one.drop among in
          let same : w.file ≡ one.file = inside w.file one.file (sym (stands_at boxed sound.1 one.drop w.file w.seen_there) ∙ sound.0) in
          let more = names_more one.file boxed one.drop (subst (λ (g : Identity). IsSeen one.drop g boxed) same w.seen_there) in
          let this : one_of (same_file one.file one.file) ≡ 1 = ap one_of (same_self one.file) in
          let most = fewer one.file in let single = f.one in
          omega (arith, more, this, most, single)

      by : (b : Bool) → is_fit files all one.file ≡ b → AreOnce (left_of files all boxed) → AreOnce (put_if b one.drop (left_of files all boxed))
      by true e later = (twice (fits one.file e), later)
      by false e later = later

  apart_one : (d : ℕ) → WasLeft d all → IsAmong d (done_of files all) → ⊥
  apart_one d w among =
      let x : WasDone d all = was_done all d among in
      let same : w.file ≡ x.file = inside w.file x.file (sym (stands_at all seen.sound d w.file w.seen_there) ∙ stands_at all seen.sound d x.file x.seen_there) in
      let h : true ≡ false = sym x.under ∙ subst (λ (f : Identity). is_among f files ≡ false) same w.fits_there.none in
      cc (h)

  apart : (left : List ℕ) → ((d : ℕ) → IsAmong d left → IsAmong d (left_of files all all)) → AllByRecursion (λ drop. IsAmong drop (done_of files all) → ⊥) left
  apart [] are = tt
  apart (d ∷ left) are = (apart_one d (was_left all d (are d (inl refl))), apart left (λ e there. are e (inr there)))

  all_here : (front boxed : List Boxed) → front ++ boxed ≡ all → AreHere boxed
  all_here front [] is = tt
  all_here front (one ∷ boxed) is = (
    subst (IsSeen one.drop one.file) is (at_end front),
    all_here (front ++ one ∷ []) boxed (in_row front ∙ is),
  )
    where
      at_end : (xs : List Boxed) → IsSeen one.drop one.file (xs ++ one ∷ boxed)
      at_end [] = inl (refl, refl)
      at_end (x ∷ xs) = inr (at_end xs)

      in_row : (xs : List Boxed) → (xs ++ one ∷ []) ++ boxed ≡ xs ++ one ∷ boxed
      in_row [] = refl
      in_row (x ∷ xs) = ap (λ (l : List Boxed). x ∷ l) (in_row xs)

  pub sorted : AreSorted drops (done_of files all) (left_of files all all) which
  sorted = record {
    claimed = claimed all seen.sound;
    fit = fit all seen.among seen.sound (all_here [] all refl);
    once = once all seen.sound (λ file. omega arith);
    apart = apart (left_of files all all) (λ d there. there);
  }

-- ---- what each call of the code comes to

module _ {D : Type 0} (calls : D → List Call) where
  pub sees_file : (drop : ℕ) (file : Identity) (found : Option Identity) (boxed : List Boxed) (old new : D) → found ≡ Some file → Did calls (Looked (Dropped drop) found ∷ []) old new
      → Looks calls (SeesOne drop boxed (boxed ++ record { drop = drop; file = file } ∷ [])) old new
  sees_file drop file found boxed old new is did =
      looks_so calls (λ which. found ≡ (which (Dropped drop)).now) (SeesOne drop boxed (boxed ++ record { drop = drop; file = file } ∷ [])) old new
      (λ which told. seen_more which drop boxed file (sym is ∙ told)) (look_one calls (Dropped drop) found old new did)

  pub sees_none : (drop : ℕ) (found : Option Identity) (boxed : List Boxed) (old new : D) → found ≡ None → Did calls (Looked (Dropped drop) found ∷ []) old new
      → Looks calls (SeesOne drop boxed boxed) old new
  sees_none drop found boxed old new is did =
      looks_so calls (λ which. found ≡ (which (Dropped drop)).now) (SeesOne drop boxed boxed) old new
      (λ which told. seen_none which drop boxed (sym is ∙ told)) (look_one calls (Dropped drop) found old new did)

  pub seen_first : (boxed : List Boxed) (old : D) → boxed ≡ [] → Looks calls (AreSeen [] boxed) old old
  seen_first boxed old is =
      looks_so calls (λ which. Unit {0}) (AreSeen [] boxed) old old
      (λ which told. subst (λ (l : List Boxed). AreSeen [] l which) (sym is) (record { among = tt; sound = tt; whole = λ d file among here. elim among [ ] })) (looks_none calls old old refl)

  pub seen_then : (drops : List ℕ) (drop : ℕ) (boxed more : List Boxed) (old mid new : D) → Looks calls (AreSeen drops boxed) old mid → Looks calls (SeesOne drop boxed more) mid new
      → Looks calls (AreSeen (drops ++ drop ∷ []) more) old new
  seen_then drops drop boxed more old mid new a b =
      looks_so calls (λ which. AreSeen drops boxed which × SeesOne drop boxed more which) (AreSeen (drops ++ drop ∷ []) more) old new
      (λ which told. told.1.sees drops told.0) (looks_then calls (AreSeen drops boxed) (SeesOne drop boxed more) old mid new a b)

  pub seen_on : (drops : List ℕ) (boxed : List Boxed) (old mid new : D) → Looks calls (AreSeen drops boxed) old mid → Looks calls (λ which. Unit {0}) mid new → Looks calls (λ which. Unit {0}) old new
  seen_on drops boxed old mid new a b = looks_on calls (AreSeen drops boxed) (λ which. Unit {0}) old mid new a b

  pub sorts : (files : List Identity) (drops done left : List ℕ) (boxed : List Boxed) (old mid new : D) → done ≡ done_of files boxed → left ≡ left_of files boxed boxed
      → Looks calls (Gathered files (2 ^ 64)) old mid → Looks calls (AreSeen drops boxed) mid new → Looks calls (AreSorted drops done left) old new
  sorts files drops done left boxed old mid new is_done is_left a b =
      looks_so calls (λ which. Gathered files (2 ^ 64) which × AreSeen drops boxed which) (AreSorted drops done left) old new
      (λ which told. subst (λ (d : List ℕ). AreSorted drops d left which) (sym is_done)
      (subst (λ (l : List ℕ). AreSorted drops (done_of files boxed) l which) (sym is_left) (sorted which files told.0 drops boxed told.1)))
      (looks_then calls (Gathered files (2 ^ 64)) (AreSeen drops boxed) old mid new a b)

  pub sorts_on : (files : List Identity) (drops : List ℕ) (boxed : List Boxed) (old mid new : D) → Looks calls (Gathered files (2 ^ 64)) old mid → Looks calls (AreSeen drops boxed) mid new
      → Looks calls (λ which. Unit {0}) old new
  sorts_on files drops boxed old mid new a b = looks_on calls (Gathered files (2 ^ 64)) (AreSeen drops boxed) old mid new a b
