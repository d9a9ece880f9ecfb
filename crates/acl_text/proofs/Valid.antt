-- Counting entries: what is read makes a valid list.
use Rattle.std.proofs.Common.{◌≡◌, ◌∙◌, ap, sym, subst, refl, ℕ, ◌+◌, ◌≤◌, Bool, true, false, cond, List, [], ◌∷◌, Option, Some, None, not, arith}
use Rattle.std.specs.{Prelude.{Ok, Err, All, IsPermutation, IsTrue, count_by, nat_eq, ◌==◌, ◌&&◌, ◌||◌}, List.{list_any}, Option.{unwrap_or}}
use Rattle.std.specs.Cmp.Lexicographic.{pointwise, bytes_decides}
use Rattle.std.proofs.lemmas.{Bool.{eqb-false}, Cmp.{nat_list_eq_equiv}, List.Elements.{All-nil, All-cons, All-head, All-tail}, List.Sorted.{All-permutation}}
use Rattle.mon_acl.specs.declared.entries.Tag.{Tag, TheVariants.{UserObj, User, GroupObj, Group, Mask, Other}}
use Rattle.mon_acl.{specs.declared.entries.Entry.{Entry}, specs.declared.refusals.AclError.{AclError}, proofs.Keyed.{counted}}
use Rattle.mon_acl.specs.declared.refusals.AclError.TheVariants.{Twice, TooMany, Missing, NoMask}
use Rattle.mon_acl.specs.Entries.{rank, sort_key, is_tag, has_tag, is_named, is_for, qualifier, is_qualified, IsEntry, IsValidAcl, IsCanonical, IsAcl}
use Rattle.acl_text.specs.{Refusals.{◌>>=◌, joined, lacking, entry_of, entries_on, entries_of}, Reading.{arranged, read_pieces}}
use Rattle.acl_text.proofs.{Order.{put_sorted, none_sorted, any_arranged, count_moved, arranged_moves}, Spelled.{bind_ok, read_spells}, Lacks.{whole}}

-- ---- tests and counts

pub count_none : (p : Entry → Bool) (es : List Entry) → list_any p es ≡ false → count_by p es ≡ 0
count_none p [] h = refl
count_none p (x ∷ xs) h = counted p x xs ∙ at (p x) (count_none p xs) h
  where
    at : (b : Bool) → (list_any p xs ≡ false → count_by p xs ≡ 0) → (b || list_any p xs) ≡ false → cond b 1 0 + count_by p xs ≡ 0
    at true rest h = absurd (let k : true ≡ false = h in cc)
    at false rest h = omega (arith, rest h)

pub count_some : (p : Entry → Bool) (es : List Entry) → list_any p es ≡ true → 1 ≤ count_by p es
count_some p [] h = absurd (let k : false ≡ true = h in cc)
count_some p (x ∷ xs) h = omega (arith, counted p x xs, at (p x) (count_some p xs) h)
  where
    at : (b : Bool) → (list_any p xs ≡ true → 1 ≤ count_by p xs) → (b || list_any p xs) ≡ true → 1 ≤ cond b 1 0 + count_by p xs
    at true rest h = omega arith
    at false rest h = omega (arith, rest h)

pub none_of_count : (p : Entry → Bool) (es : List Entry) → count_by p es ≡ 0 → list_any p es ≡ false
none_of_count p es h = at (list_any p es) refl
  where
    at : (b : Bool) → list_any p es ≡ b → b ≡ false
    at true e = absurd (omega (arith, count_some p es e))
    at false e = refl

pub some_of_count : (p : Entry → Bool) (es : List Entry) → 1 ≤ count_by p es → list_any p es ≡ true
some_of_count p es h = at (list_any p es) refl
  where
    at : (b : Bool) → list_any p es ≡ b → b ≡ true
    at true e = refl
    at false e = absurd (omega (arith, count_none p es e))

pub count_less : (p q : Entry → Bool) (es : List Entry) → ((x : Entry) → p x ≡ true → q x ≡ true) → count_by p es ≤ count_by q es
count_less p q [] h = omega arith
count_less p q (x ∷ xs) h = omega (arith, counted p x xs, counted q x xs, at (p x) refl (q x) refl (count_less p q xs h))
  where
    at : (b : Bool) → p x ≡ b → (c : Bool) → q x ≡ c → count_by p xs ≤ count_by q xs → cond b 1 0 + count_by p xs ≤ cond c 1 0 + count_by q xs
    at true e true f rest = omega arith
    at true e false f rest = absurd (let k : true ≡ false = sym (h x e) ∙ f in cc)
    at false e true f rest = omega arith
    at false e false f rest = omega arith

-- ---- entries that differ

-- at most one entry of each type and name
abbrev pub IsApart : List Entry → Type 0
IsApart es = (t : Tag) (name : List ℕ) → count_by (is_for t name) es ≤ 1

pub for_itself : (e : Entry) → is_for e.tag (qualifier e) e ≡ true
for_itself e = nat_list_eq_equiv.refl (sort_key e)

-- whatever has the same type and name is for the same
pub same_for : (t : Tag) (name : List ℕ) (e : Entry) (es : List Entry) → is_for t name e ≡ true →
    list_any (is_for e.tag (qualifier e)) es ≡ list_any (is_for t name) es
same_for t name e es h =
    let same : sort_key e ≡ rank t ∷ name = (bytes_decides (sort_key e) (rank t ∷ name)).0 h in
    ap (λ (k : List ℕ). list_any (λ x. pointwise nat_eq (sort_key x) k) es) same

pub apart_more : (e : Entry) (es : List Entry) → IsApart es → list_any (is_for e.tag (qualifier e)) es ≡ false → IsApart (e ∷ es)
apart_more e es apart none t name = omega (arith, counted (is_for t name) e es, at (is_for t name e) refl)
  where
    at : (b : Bool) → is_for t name e ≡ b → cond b 1 0 + count_by (is_for t name) es ≤ 1
    at true h = omega (arith, count_none (is_for t name) es (sym (same_for t name e es h) ∙ none))
    at false h = omega (arith, apart t name)

pub apart_rest : (e : Entry) (es : List Entry) → IsApart (e ∷ es) → IsApart es × (list_any (is_for e.tag (qualifier e)) es ≡ false)
apart_rest e es apart = (
  λ t name. omega (arith, apart t name, counted (is_for t name) e es),
  none_of_count (is_for e.tag (qualifier e)) es (let k : 1 + count_by (is_for e.tag (qualifier e)) es ≤ 1 = subst (λ (b : Bool). cond b 1 0 + count_by (is_for e.tag (qualifier e)) es ≤ 1) (for_itself e) (omega (arith, apart e.tag (qualifier e), counted (is_for e.tag (qualifier e)) e es)) in omega arith),
)

pub apart_moved : (xs ys : List Entry) → IsPermutation xs ys → IsApart xs → IsApart ys
apart_moved xs ys m apart t name = omega (arith, apart t name, count_moved (is_for t name) xs ys m)

-- entries that differ stand in canonical order once they are arranged
pub arranged_sorted : (es : List Entry) → IsApart es → IsCanonical (arranged es)
arranged_sorted [] apart = none_sorted
arranged_sorted (e ∷ es) apart =
    let rest = apart_rest e es apart in
    put_sorted e (arranged es) (arranged_sorted es rest.0) (any_arranged (is_for e.tag (qualifier e)) es ∙ rest.1)

-- ---- the entries so far

pub record SoFar (es : List Entry) : Type 0 where
  pub entries : All IsEntry es
  pub apart : IsApart es
  pub few : count_by is_named es ≤ 100

pub joined_ok : (n : ℕ) (e : Entry) (es more : List Entry) → joined n e es ≡ Ok more →
    (list_any (is_for e.tag (qualifier e)) es ≡ false) × ((is_named e && (count_by is_named es == 100)) ≡ false) × (e ∷ es ≡ more)
joined_ok n e es more h = at (list_any (is_for e.tag (qualifier e)) es) (is_named e && (count_by is_named es == 100)) h
  where
    at : (b c : Bool) → cond b (Err (Twice n)) (cond c (Err (TooMany n)) (Ok (e ∷ es))) ≡ Ok more → (b ≡ false) × (c ≡ false) × (e ∷ es ≡ more)
    at true c h = absurd (let k : Err (Twice n) ≡ Ok more = h in cc)
    at false true h = absurd (let k : Err (TooMany n) ≡ Ok more = h in cc)
    at false false h = (refl, refl, let k : Ok (e ∷ es) ≡ Ok more = h in cc)

few_more : (b : Bool) (k : ℕ) → k ≤ 100 → (b && (k == 100)) ≡ false → cond b 1 0 + k ≤ 100
few_more true k l h = omega (arith, eqb-false k 100 h)
few_more false k l h = omega arith

pub so_far_more : (n : ℕ) (e : Entry) (es more : List Entry) → IsEntry e → SoFar es → joined n e es ≡ Ok more → SoFar more
so_far_more n e es more v s h =
    let j = joined_ok n e es more h in
    subst SoFar j.2 (record {
      entries = All-cons IsEntry e es v s.entries;
      apart = apart_more e es s.apart j.0;
      few = omega (arith, counted is_named e es, few_more (is_named e) (count_by is_named es) s.few j.1);
    })

pub so_far_read : (n : ℕ) (es : List Entry) (ps : List (List ℕ)) (all : List Entry) → SoFar es → entries_on n es ps ≡ Ok all → SoFar all
so_far_read n es [] all s h = subst SoFar (let k : Ok es ≡ Ok all = h in cc) s
so_far_read n es (p ∷ ps) all s h =
    let a = bind_ok (entry_of n p) (λ e. joined n e es >>= λ more. entries_on (n + 1) more ps) all h in
    let b = bind_ok (joined n a.0 es) (λ more. entries_on (n + 1) more ps) all a.2 in
    so_far_read (n + 1) b.0 ps all (so_far_more n a.0 es b.0 (read_spells n p a.0 a.1).0 s b.1) b.2

pub nothing_so_far : SoFar []
nothing_so_far = record { entries = All-nil IsEntry; apart = λ t name. omega arith; few = omega arith }

-- ---- the whole list

pub record LacksNothing (es : List Entry) : Type 0 where
  pub owner : list_any (has_tag UserObj) es ≡ true
  pub owning_group : list_any (has_tag GroupObj) es ≡ true
  pub other : list_any (has_tag Other) es ≡ true
  pub masked : list_any is_named es ≡ true → list_any (has_tag Mask) es ≡ true

pub lacks_nothing : (es : List Entry) → lacking es ≡ None → LacksNothing es
lacks_nothing es h =
    let f = at (list_any (has_tag UserObj) es) (list_any (has_tag GroupObj) es) (list_any (has_tag Other) es) (list_any is_named es) (list_any (has_tag Mask) es) h in
    record { owner = f.0; owning_group = f.1; other = f.2; masked = f.3 }
  where
    at : (u g o n m : Bool) →
        cond (not u) (Some (Missing UserObj)) (cond (not g) (Some (Missing GroupObj)) (cond (not o) (Some (Missing Other)) (cond (n && not m) (Some NoMask) None))) ≡ None →
        (u ≡ true) × (g ≡ true) × (o ≡ true) × (n ≡ true → m ≡ true)
    at false g o n m h = absurd (let k : Some (Missing UserObj) ≡ None = h in cc)
    at true false o n m h = absurd (let k : Some (Missing GroupObj) ≡ None = h in cc)
    at true true false n m h = absurd (let k : Some (Missing Other) ≡ None = h in cc)
    at true true true true false h = absurd (let k : Some NoMask ≡ None = h in cc)
    at true true true true true h = (refl, refl, refl, λ _. refl)
    at true true true false m h = (refl, refl, refl, λ k. absurd (let k : false ≡ true = k in cc))

-- an entry of a type without qualifier is for the empty name
plain_for : (t tag : Tag) (name : Option (List ℕ)) → is_tag User t ≡ false → is_tag Group t ≡ false → IsTrue (is_qualified tag name) →
    is_tag tag t ≡ true → (is_tag tag t && pointwise nat_eq (unwrap_or name []) []) ≡ true
plain_for t UserObj None u g v h = ap (λ (b : Bool). b && true) h
plain_for t GroupObj None u g v h = ap (λ (b : Bool). b && true) h
plain_for t Mask None u g v h = ap (λ (b : Bool). b && true) h
plain_for t Other None u g v h = ap (λ (b : Bool). b && true) h
plain_for t User name u g v h = absurd (let k : true ≡ false = sym h ∙ u in cc)
plain_for t Group name u g v h = absurd (let k : true ≡ false = sym h ∙ g in cc)
plain_for t UserObj (Some n) u g v h = absurd (let k : false ≡ true = v in cc)
plain_for t GroupObj (Some n) u g v h = absurd (let k : false ≡ true = v in cc)
plain_for t Mask (Some n) u g v h = absurd (let k : false ≡ true = v in cc)
plain_for t Other (Some n) u g v h = absurd (let k : false ≡ true = v in cc)

count_plain : (t : Tag) (es : List Entry) → is_tag User t ≡ false → is_tag Group t ≡ false → All IsEntry es → count_by (has_tag t) es ≤ count_by (is_for t []) es
count_plain t [] u g all = omega arith
count_plain t (x ∷ xs) u g all =
    omega (arith, counted (has_tag t) x xs, counted (is_for t []) x xs, at (has_tag t x) refl (is_for t [] x) refl (count_plain t xs u g (All-tail IsEntry x xs all)))
  where
    at : (b : Bool) → has_tag t x ≡ b → (c : Bool) → is_for t [] x ≡ c → count_by (has_tag t) xs ≤ count_by (is_for t []) xs →
        cond b 1 0 + count_by (has_tag t) xs ≤ cond c 1 0 + count_by (is_for t []) xs
    at true e true f rest = omega arith
    at true e false f rest = absurd (let k : true ≡ false = sym (plain_for t x.tag x.name u g (All-head IsEntry x xs all) e) ∙ f in cc)
    at false e true f rest = omega arith
    at false e false f rest = omega arith

pub valid_of : (es : List Entry) → SoFar es → LacksNothing es → IsValidAcl es
valid_of es s l =
    let mask : count_by (has_tag Mask) es ≤ 1 = omega (arith, count_plain Mask es refl refl s.entries, s.apart Mask []) in
    record {
      entries = s.entries;
      owner = omega (arith, count_some (has_tag UserObj) es l.owner, count_plain UserObj es refl refl s.entries, s.apart UserObj []);
      owning_group = omega (arith, count_some (has_tag GroupObj) es l.owning_group, count_plain GroupObj es refl refl s.entries, s.apart GroupObj []);
      other = omega (arith, count_some (has_tag Other) es l.other, count_plain Other es refl refl s.entries, s.apart Other []);
      one_mask = mask;
      masked = λ h. omega (arith, mask, count_some (has_tag Mask) es (l.masked (some_of_count is_named es (omega arith))));
      users_differ = s.apart User;
      groups_differ = s.apart Group;
      few = s.few;
    }

pub valid_moved : (xs ys : List Entry) → IsPermutation xs ys → IsValidAcl xs → IsValidAcl ys
valid_moved xs ys m v = record {
  entries = All-permutation IsEntry xs ys m v.entries;
  owner = count_moved (has_tag UserObj) xs ys m ∙ v.owner;
  owning_group = count_moved (has_tag GroupObj) xs ys m ∙ v.owning_group;
  other = count_moved (has_tag Other) xs ys m ∙ v.other;
  one_mask = omega (arith, count_moved (has_tag Mask) xs ys m, v.one_mask);
  masked = λ h. count_moved (has_tag Mask) xs ys m ∙ v.masked (omega (arith, h, count_moved is_named xs ys m));
  users_differ = λ name. omega (arith, count_moved (is_for User name) xs ys m, v.users_differ name);
  groups_differ = λ name. omega (arith, count_moved (is_for Group name) xs ys m, v.groups_differ name);
  few = omega (arith, count_moved is_named xs ys m, v.few);
}

whole_ok : (o : Option AclError) (es all : List Entry) → whole o es ≡ Ok all → (o ≡ None) × (es ≡ all)
whole_ok (Some e) es all h = absurd (let k : Err e ≡ Ok all = h in cc)
whole_ok None es all h = (refl, let k : Ok es ≡ Ok all = h in cc)

-- what a reading that succeeds went through
pub record Readable (texts : List (List ℕ)) (es : List Entry) : Type 0 where
  pub all : List Entry
  pub read : entries_of texts ≡ Ok all
  pub lacks : lacking all ≡ None
  pub is : arranged all ≡ es

pub readable : (texts : List (List ℕ)) (es : List Entry) → read_pieces texts ≡ Ok es → Readable texts es
readable texts es h =
    let a = bind_ok (entries_of texts) (λ all. whole (lacking all) (arranged all)) es h in
    let w = whole_ok (lacking a.0) (arranged a.0) es a.2 in
    record { all = a.0; read = a.1; lacks = w.0; is = w.1 }

-- what is read is a permission list
pub read_acl : (texts : List (List ℕ)) (es : List Entry) → read_pieces texts ≡ Ok es → IsAcl es
read_acl texts es h =
    let r = readable texts es h in
    let s = so_far_read 1 [] texts r.all nothing_so_far r.read in
    subst IsAcl r.is (record {
      valid = valid_moved r.all (arranged r.all) (arranged_moves r.all) (valid_of r.all s (lacks_nothing r.all r.lacks));
      canonical = arranged_sorted r.all s.apart;
    })
