-- The ledger is opened.
use Rattle.std.proofs.Common.{◌≡◌, ◌⊎◌, inl, inr, ◌<◌, ◌≤◌, ◌^◌, ℕ, zero, suc, ◌+◌, ◌-◌, List, [], ◌∷◌, ◌++◌, length, take, drop, map, get_or, Option, Some, None, refl, sym, ap, ◌∙◌, subst, arith}
use Rattle.std.{specs.Prelude.{option_map}, proofs.lemmas.List.{map-append, take_more, length-take, length-drop, take-append-drop}}
use Rattle.ledger_disk.specs.{declared.name.Name.TheVariants.{Commit, Answer}, Disks.{Disk, File, Files, Slot, Call, AreTrue, after_all, found_in}, Plans.{Did}}
use Rattle.ledger_text.specs.Digests.{digest_of}
use Rattle.ledger_laws.{specs.Commits.{at, whole_file, and_more, read_from}, proofs.Committing.{reads_the_chain}, proofs.Claiming.{after_both}}
use Rattle.ledger_run.specs.{Meaning.{Step, Event, Says}, Runs.{Seen, IsOf, Stood, IsLeft, Opens, Restarts, settle_calls, answer_in}}
use Rattle.ledger_run.{specs.Following.{seen_event, Takes, TakesAll, OpensBehind, IsOfChain, with_commit, after_event}, specs.Senders.{no_senders}, proofs.Safety.{of_more}}

in_row : {A : Type 0} (xs ys zs : List A) → (xs ++ ys) ++ zs ≡ xs ++ (ys ++ zs)
in_row [] ys zs = refl
in_row {A} (x ∷ xs) ys zs = ap (λ (l : List A). x ∷ l) (in_row xs ys zs)

none_behind : {A : Type 0} (xs : List A) → xs ++ [] ≡ xs
none_behind [] = refl
none_behind {A} (x ∷ xs) = ap (λ (l : List A). x ∷ l) (none_behind xs)

-- ---- commits are taken, one after the other

pub takes_none : (step : Step) (seen : Seen) (behind : List (List ℕ)) → TakesAll step [] seen behind seen behind
takes_none step seen behind = record { all = λ front is. subst (IsOfChain seen behind step) (sym (none_behind front)) is }

pub takes_more : (step : Step) (texts : List (List ℕ)) (text : List ℕ) (seen : Seen) (behind : List (List ℕ)) (mid : Seen) (mid_behind : List (List ℕ)) (last : Seen) (last_behind : List (List ℕ))
    → TakesAll step texts seen behind mid mid_behind → Takes text mid mid_behind last last_behind → TakesAll step (texts ++ text ∷ []) seen behind last last_behind
takes_more step texts text seen behind mid mid_behind last last_behind all one = record {
  all = λ front is.
      let before : IsOfChain mid mid_behind step (front ++ texts) = all.all front is in
      subst (IsOfChain last last_behind step) (in_row front texts (text ∷ []))
      (subst (λ (s : Seen). IsOfChain s last_behind step ((front ++ texts) ++ text ∷ [])) (sym one.ledger)
      (subst (λ (b : List (List ℕ)). IsOfChain (with_commit (digest_of text) (after_event one.event mid)) b step ((front ++ texts) ++ text ∷ [])) (sym one.machine)
      record { events = before.events ++ seen_event one.event ∷ []; is = of_more step mid mid_behind (front ++ texts) before.events one.event text before.is one.is one.sent }));
}

pub next_text : {A : Type 0} (xs : List A) (f : A → List ℕ) (i : ℕ) (x : A) (bytes : List ℕ) → i < length xs → x ≡ get_or xs i x → bytes ≡ f x
    → map f (take (i + 1) xs) ≡ map f (take i xs) ++ bytes ∷ []
next_text {A} xs f i x bytes less is has =
    ap (map f) (take_more xs i x less) ∙ map-append f (take i xs) (get_or xs i x ∷ []) ∙ ap (λ (y : A). map f (take i xs) ++ f y ∷ []) (sym is)
    ∙ ap (λ (b : List ℕ). map f (take i xs) ++ b ∷ []) (sym has)

-- ---- what it says, it says once

inside : (a b : Event) → Some a ≡ Some b → a ≡ b
inside a b e = cc (e)

says_once : (before : List ℕ) (chain : List (List ℕ)) (one other : List Event) → Says before chain one → Says before chain other → one ≡ other
says_once before [] [] [] a b = refl
says_once before [] (x ∷ xs) other a b = elim a [ ]
says_once before [] [] (y ∷ ys) a b = elim b [ ]
says_once before (t ∷ chain) [] other a b = elim a [ ]
says_once before (t ∷ chain) (x ∷ xs) [] a b = elim b [ ]
says_once before (t ∷ chain) (x ∷ xs) (y ∷ ys) a b =
    let first : x ≡ y = inside x y (sym a.0 ∙ b.0) in let rest : xs ≡ ys = says_once (digest_of t) chain xs ys a.1 b.1 in cc (first, rest)

-- ---- settled

module _ (step : Step) (chain : List (List ℕ)) (events : List Event) (disk : Disk) (left : IsLeft step chain events disk) where
  abbrev settled_disk : Disk
  settled_disk = after_all settle_calls disk

  settled : Stood step chain events settled_disk
  settled = record { stands = λ i. left.seen i; honest = left.honest; answers = λ m. ((left.answers m).0, tt) }

  seen_chain : (i : ℕ) → found_in settled_disk (Commit i) ≡ at chain i
  seen_chain i = ap (λ (s : Slot). option_map (λ (f : File). f.bytes) s.now) (left.seen i) ∙ by (at chain i)
    where
      by : (o : Option (List ℕ)) → option_map (λ (f : File). f.bytes) (option_map whole_file o) ≡ o
      by None = refl
      by (Some bytes) = refl

-- ---- those behind some

at_drop : (k j : ℕ) (chain : List (List ℕ)) → at (drop k chain) j ≡ at chain (k + j)
at_drop zero j chain = ap (at chain) (let e : j ≡ zero + j = omega arith in e)
at_drop (suc k) j [] = refl
at_drop (suc k) j (b ∷ chain) = at_drop k j chain ∙ ap (at (b ∷ chain)) (let e : suc (k + j) ≡ suc k + j = omega arith in e)

reads : (rest : List (List ℕ)) (i fuel : ℕ) (c : Files) → ((j : ℕ) → c (Commit (i + j)) ≡ at rest j) → length rest ≤ fuel → read_from fuel i c ≡ rest
reads [] i zero c is le = refl
reads [] i (suc fuel) c is le =
    ap (λ (o : Option (List ℕ)). and_more o (read_from fuel (i + 1) c)) (ap (λ (n : ℕ). c (Commit n)) (let e : i ≡ i + 0 = omega arith in e) ∙ is 0)
reads (b ∷ rest) i zero c is le = absurd (omega (arith, le))
reads (b ∷ rest) i (suc fuel) c is le =
    ap (λ (o : Option (List ℕ)). and_more o (read_from fuel (i + 1) c)) (ap (λ (n : ℕ). c (Commit n)) (let e : i ≡ i + 0 = omega arith in e) ∙ is 0)
    ∙ ap (λ (l : List (List ℕ)). b ∷ l)
    (reads rest (i + 1) fuel c (λ j. ap (λ (n : ℕ). c (Commit n)) (let e : (i + 1) + j ≡ i + suc j = omega arith in e) ∙ is (suc j)) (omega (arith, le)))

pub reads_behind : (k most : ℕ) (chain : List (List ℕ)) (c : Files) → ((n : ℕ) → k ≤ n → c (Commit n) ≡ at chain n) → length chain ≤ k + most
    → read_from most k c ≡ drop k chain
reads_behind k most chain c stand long =
    reads (drop k chain) k most c (λ j. stand (k + j) (omega arith) ∙ sym (at_drop k j chain)) (let h = length-drop k chain in omega (arith, h, long))

pub opened : {D : Type 0} (calls : D → List Call) (step : Step) (old mid new : D) (end : ℕ) (commits : List (List ℕ)) (known seen : Seen) (known_behind behind : List (List ℕ))
    → end ≡ 2 ^ 64 - 1 → Did calls settle_calls old mid
    → ((first : Disk) → AreTrue (calls new) first
    → (commits ≡ read_from (end - known.commits) known.commits (found_in (after_all (calls mid) first))) × (after_all (calls new) first ≡ after_all (calls mid) first))
    → TakesAll step commits known known_behind seen behind → OpensBehind calls step known known_behind seen behind old new
opened calls step old mid new end commits known seen known_behind behind is did reads takes = record {
  opens = λ first chain events true fits left begins.
      let disk : Disk = after_all (calls old) first in
      let there : after_all (calls mid) first ≡ after_all settle_calls disk = ap (λ (l : List Call). after_all l first) did.all ∙ after_both (calls old) settle_calls first in
      let (read, same) = reads first true in
      let few : known.commits ≤ length chain = (let a = begins.is.commits in let b = length-take known.commits chain in omega (arith, a, b)) in
      let rest : commits ≡ drop known.commits chain =
      read ∙ ap (λ (d : Disk). read_from (end - known.commits) known.commits (found_in d)) there
      ∙ reads_behind known.commits (end - known.commits) chain (found_in (after_all settle_calls disk)) (λ n le. seen_chain step chain events disk left n) (omega (arith, is, fits, few)) in
      let of : IsOfChain seen behind step chain =
      subst (IsOfChain seen behind step) (ap (λ (l : List (List ℕ)). take known.commits chain ++ l) rest ∙ take-append-drop known.commits chain) (takes.all (take known.commits chain) begins) in
      record {
        events = events;
        is = subst (IsOf seen behind step chain) (says_once [] chain of.events events of.is.says left.says) of.is;
        stood = subst (Stood step chain events) (sym (same ∙ there)) (settled step chain events disk left);
      };
}

-- the ledger in memory before any commit
pub no_commits : (step : Step) (seen : Seen) → seen ≡ record { waiting = []; owed = []; next = 0; commits = 0; last = []; senders = no_senders } → IsOfChain seen [] step []
no_commits step seen is = subst (λ (s : Seen). IsOfChain s [] step []) (sym is) record {
  events = [];
  is = record { commits = refl; last = refl; says = tt; kept = record { state = λ more text. refl; waiting = refl; next = refl; given = []; answers = refl }; senders = refl };
}

-- behind none it is known what they come to
pub opened_whole : {D : Type 0} (calls : D → List Call) (step : Step) (known : Seen) (known_behind : List (List ℕ)) (seen : Seen) (behind : List (List ℕ)) (old new : D)
    → known ≡ record { waiting = []; owed = []; next = 0; commits = 0; last = []; senders = no_senders } → known_behind ≡ []
    → OpensBehind calls step known known_behind seen behind old new → Opens calls step seen behind old new
opened_whole calls step known known_behind seen behind old new none nothing opens = record {
  opens = λ first chain events true fits left.
      opens.opens first chain events true fits left
      (subst (λ (n : ℕ). IsOfChain known known_behind step (take n chain)) (sym (ap (λ (s : Seen). s.commits) none))
      (subst (λ (b : List (List ℕ)). IsOfChain known b step []) (sym nothing) (no_commits step known none)));
}

-- ---- the next run

pub restarts : Restarts
restarts step before c safe = record {
  seen = λ i. ap settle ((reads_the_chain (before ++ safe.more) c safe.ledger).stands i);
  says = safe.says;
  honest = safe.honest;
  answers = λ m. (by m (safe.answers m), tt);
}
  where
    settle : Slot → Slot
    settle slot = record { now = slot.now; others = [] }

    by : (m : ℕ) → (c (Answer m) ≡ None) ⊎ (c (Answer m) ≡ answer_in step safe.events m)
        → (option_map whole_file (c (Answer m)) ≡ None) ⊎ (option_map whole_file (c (Answer m)) ≡ option_map whole_file (answer_in step safe.events m))
    by m (inl none) = inl (ap (option_map whole_file) none)
    by m (inr is) = inr (ap (option_map whole_file) is)
