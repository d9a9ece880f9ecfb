-- What keys tell of entries, and how they are chained.
use Rattle.std.proofs.Common.{◌≡◌, ◌≢◌, ◌∙◌, ap, ap₂, sym, subst, refl, ℕ, zero, suc, ◌+◌, ◌*◌, ◌<◌, ◌≤◌, Bool, true, false, cond, ◌&&◌, ◌||◌, List, [], ◌∷◌, length, map, get_or, arith, true≢false, nat_eq, nat_le, Option, Some, None, ◌⊎◌, inl, inr, set, replicate}
use Rattle.std.specs.{Prelude.{count_by, slice_index}, List.{list_any, list_all}, Cmp.Lexicographic.{pointwise, nat_list_eq_equiv, bytes_decides}}
use Rattle.std.specs.{Slice.Scan.{big_endian}, Option.{unwrap_or}}
use Rattle.std.proofs.lemmas.{Bool.Decides.{Decides-eqb, nat_tests}, Bool.{cases_lt}, List.{length-map, get_or-map, get_or-set_other}, Grind.{get_or-set_at}}
use Rattle.std.proofs.lemmas.List.{Folds.{list_any_none}, Sums.{sum_by-cons}}
use Rattle.mon_text.{specs.Characters.{is_letter}, specs.Names.{is_name_character, is_name, first_of, head_of}, proofs.Padding.{seven}}
use Rattle.mon_acl.specs.declared.entries.Tag.{Tag, TheVariants.{UserObj, User, GroupObj, Group, Mask, Other}}
use Rattle.mon_acl.specs.{declared.entries.Entry.{Entry}, inner.Keys.{key_of, key_in, keys_of, bucket_of, IsIndexOfKey}, inner.Chains.{IsLast, IsChained}}
use Rattle.mon_acl.specs.Entries.{rank, is_tag, has_tag, is_named, sort_key, is_for, qualifier, is_qualified, IsEntry, IsValidAcl, IsIndexOf}

-- ---- names are bytes
abbrev pub AreBytes : List ℕ → Type 0
AreBytes xs = (k : ℕ) → get_or xs k 0 < 256

both : (a b : Bool) → (a && b) ≡ true → (a ≡ true) × (b ≡ true)
both true b h = (refl, h)
both false b h = absurd (true≢false (sym h))

letter : (c : ℕ) → is_letter c ≡ true → c < 256
letter c h = grind (arith, nat_tests)

character : (c : ℕ) → is_name_character c ≡ true → c < 256
character c h = grind (arith, nat_tests)

characters : (cs : List ℕ) → list_all is_name_character cs ≡ true → AreBytes cs
characters [] h k = omega arith
characters (c ∷ cs) h zero = character c (both _ _ h).0
characters (c ∷ cs) h (suc k) = characters cs (both _ _ h).1 k

name_bytes : (name : List ℕ) → is_name name ≡ true → AreBytes name
name_bytes [] h k = omega arith
name_bytes (c ∷ cs) h zero = letter c (both _ _ (both _ _ h).0).0
name_bytes (c ∷ cs) h (suc k) = characters cs (both _ _ (both _ _ h).0).1 k

qualifier_bytes : (t : Tag) (o : Option (List ℕ)) → is_qualified t o ≡ true → AreBytes (unwrap_or o [])
qualifier_bytes t None h k = omega arith
qualifier_bytes UserObj (Some name) h k = absurd (true≢false (sym h))
qualifier_bytes User (Some name) h k = name_bytes name h k
qualifier_bytes GroupObj (Some name) h k = absurd (true≢false (sym h))
qualifier_bytes Group (Some name) h k = name_bytes name h k
qualifier_bytes Mask (Some name) h k = absurd (true≢false (sym h))
qualifier_bytes Other (Some name) h k = absurd (true≢false (sym h))

first_are : (n : ℕ) (xs : List ℕ) → AreBytes xs → AreBytes (first_of n xs)
first_are zero xs h k = omega arith
first_are (suc n) [] h zero = omega arith
first_are (suc n) [] h (suc k) = first_are n [] h k
first_are (suc n) (c ∷ cs) h zero = h 0
first_are (suc n) (c ∷ cs) h (suc k) = first_are n cs (λ j. h (suc j)) k

first_many : (n : ℕ) (xs : List ℕ) → length (first_of n xs) ≡ n
first_many zero xs = refl
first_many (suc n) [] = omega (arith, first_many n [])
first_many (suc n) (c ∷ cs) = omega (arith, first_many n cs)

-- no name is longer than 31 characters
pub name_short : (name : List ℕ) → is_name name ≡ true → length name ≤ 31
name_short [] h = omega arith
name_short (c ∷ cs) h =
    let few : nat_le (length cs) 30 ≡ true = (both (is_letter c && list_all is_name_character cs) (nat_le (length cs) 30) h).1 in
    let bound : length cs ≤ 30 = grind (arith, nat_tests) in
    omega arith

pub qualifier_short : (t : Tag) (o : Option (List ℕ)) → is_qualified t o ≡ true → length (unwrap_or o []) ≤ 31
qualifier_short t None h = omega arith
qualifier_short UserObj (Some name) h = absurd (true≢false (sym h))
qualifier_short User (Some name) h = name_short name h
qualifier_short GroupObj (Some name) h = absurd (true≢false (sym h))
qualifier_short Group (Some name) h = name_short name h
qualifier_short Mask (Some name) h = absurd (true≢false (sym h))
qualifier_short Other (Some name) h = absurd (true≢false (sym h))

-- ---- what a key tells
apart : (a b : ℕ) (us vs : List ℕ) → length us ≡ length vs → AreBytes us → AreBytes vs → big_endian a us ≡ big_endian b vs → (a ≡ b) × (us ≡ vs)
apart a b [] [] e g h s = (s, refl)
apart a b [] (v ∷ vs) e g h s = absurd (omega arith)
apart a b (u ∷ us) [] e g h s = absurd (omega arith)
apart a b (u ∷ us) (v ∷ vs) e g h s =
    let rest = apart (a * 256 + u) (b * 256 + v) us vs (omega arith) (λ k. g (suc k)) (λ k. h (suc k)) s in
    let first : u < 256 = g 0 in
    let second : v < 256 = h 0 in
    let same : a * 256 + u ≡ b * 256 + v = rest.0 in
    let byte : u ≡ v = omega arith in
    (omega arith, ap₂ (λ (c : ℕ) (cs : List ℕ). c ∷ cs) byte rest.1)

whole : (n : ℕ) (xs ys : List ℕ) → length xs ≡ length ys → length xs ≤ n → first_of n xs ≡ first_of n ys → xs ≡ ys
whole n [] [] e l s = refl
whole n [] (d ∷ ds) e l s = absurd (omega arith)
whole n (c ∷ cs) [] e l s = absurd (omega arith)
whole zero (c ∷ cs) (d ∷ ds) e l s = absurd (omega arith)
whole (suc n) (c ∷ cs) (d ∷ ds) e l s =
    let t : c ∷ first_of n cs ≡ d ∷ first_of n ds = s in
    let byte : c ≡ d = cc in
    let rest : first_of n cs ≡ first_of n ds = cc in
    ap₂ (λ (x : ℕ) (xs : List ℕ). x ∷ xs) byte (whole n cs ds (omega arith) (omega arith) rest)

-- the bytes of a head
head_bytes : (q : List ℕ) → AreBytes q → length q ≤ 31 → AreBytes (length q ∷ first_of 7 q)
head_bytes q h l zero = omega arith
head_bytes q h l (suc k) = first_are 7 q h k

eight : (l a b c d e f g : ℕ) → l ≤ 31 → a < 256 → b < 256 → c < 256 → d < 256 → e < 256 → f < 256 → g < 256 →
    big_endian 0 (l ∷ a ∷ b ∷ c ∷ d ∷ e ∷ f ∷ g ∷ []) < 2305843009213693952
eight l a b c d e f g hl ha hb hc hd he hf hg = omega arith

-- so a head leaves room for the type
head_fits : (q : List ℕ) → AreBytes q → length q ≤ 31 → head_of q < 2305843009213693952
head_fits q h l =
    subst (λ (xs : List ℕ). big_endian 0 (length q ∷ xs) < 2305843009213693952) (sym (seven q))
    (eight (length q) (get_or q 0 0) (get_or q 1 0) (get_or q 2 0) (get_or q 3 0) (get_or q 4 0) (get_or q 5 0) (get_or q 6 0) l (h 0) (h 1) (h 2) (h 3) (h 4) (h 5) (h 6))

pub name_fits : (q : List ℕ) → is_name q ≡ true → head_of q < 2305843009213693952
name_fits q h = head_fits q (name_bytes q h) (name_short q h)

pub entry_fits : (e : Entry) → IsEntry e → head_of (qualifier e) < 2305843009213693952
entry_fits e h = head_fits (qualifier e) (qualifier_bytes e.tag e.name h) (qualifier_short e.tag e.name h)

read_alike : (e : Entry) (q : List ℕ) → IsEntry e → AreBytes q → head_of (qualifier e) ≡ head_of q → length q ≤ 7 → qualifier e ≡ q
read_alike e q valid bytes h l =
    let own = head_bytes (qualifier e) (qualifier_bytes e.tag e.name valid) (qualifier_short e.tag e.name valid) in
    let firsts = apart 0 0 (length (qualifier e) ∷ first_of 7 (qualifier e)) (length q ∷ first_of 7 q)
    (omega (arith, first_many 7 (qualifier e), first_many 7 q)) own (head_bytes q bytes (omega arith)) h in
    let alike : length (qualifier e) ∷ first_of 7 (qualifier e) ≡ length q ∷ first_of 7 q = firsts.1 in
    let long : length (qualifier e) ≡ length q = cc in
    let same : first_of 7 (qualifier e) ≡ first_of 7 q = cc in
    whole 7 (qualifier e) q long (omega arith) same

pub ranks_small : (t : Tag) → rank t ≤ 5
ranks_small UserObj = omega arith
ranks_small User = omega arith
ranks_small GroupObj = omega arith
ranks_small Group = omega arith
ranks_small Mask = omega arith
ranks_small Other = omega arith

same_parts : (a b r t : ℕ) → r ≤ 5 → t ≤ 5 → a * 8 + r ≡ b * 8 + t → (a ≡ b) × (r ≡ t)
same_parts a b r t h k e = (omega arith, omega arith)

key_is : (e : Entry) (t : Tag) (q : List ℕ) → rank e.tag ≡ rank t → qualifier e ≡ q → is_for t q e ≡ true
key_is e t q r is =
    let key : sort_key e ≡ rank t ∷ q = ap₂ (λ (x : ℕ) (xs : List ℕ). x ∷ xs) r is in
    subst (λ (x : List ℕ). pointwise nat_eq (sort_key e) x ≡ true) key (nat_list_eq_equiv.refl (sort_key e))

-- a short name is told by the key
pub told_short : (e : Entry) (t : Tag) (q : List ℕ) → IsEntry e → AreBytes q → length q ≤ 7 → key_in e ≡ key_of t q → is_for t q e ≡ true
told_short e t q valid bytes l h =
    let same = same_parts (head_of (qualifier e)) (head_of q) (rank e.tag) (rank t) (ranks_small e.tag) (ranks_small t) h in
    key_is e t q same.1 (read_alike e q valid bytes same.0 l)

-- a long one by the name, where the keys are the same
pub told_long : (e : Entry) (t : Tag) (q : List ℕ) → key_in e ≡ key_of t q → is_for t q e ≡ pointwise nat_eq (qualifier e) q
told_long e t q h =
    let same = same_parts (head_of (qualifier e)) (head_of q) (rank e.tag) (rank t) (ranks_small e.tag) (ranks_small t) h in
    ap (λ (b : Bool). b && pointwise nat_eq (qualifier e) q) ((Decides-eqb (rank e.tag) (rank t)).1 same.1)

key_from : List ℕ → ℕ
key_from [] = 0
key_from (r ∷ q) = head_of q * 8 + r

-- and what has another key is for another
pub told_not : (e : Entry) (t : Tag) (q : List ℕ) → key_in e ≢ key_of t q → is_for t q e ≡ false
unfolding key_from
told_not e t q n = by (is_for t q e) refl
  where
    by : (b : Bool) → is_for t q e ≡ b → b ≡ false
    by false f = refl
    by true f =
        let key : sort_key e ≡ rank t ∷ q = (bytes_decides (sort_key e) (rank t ∷ q)).0 f in
        absurd (n (ap key_from key))

-- ---- how many entries a list has
one_of : (t : Tag) → cond (is_tag t UserObj) 1 0 + cond (is_tag t GroupObj) 1 0 + cond (is_tag t Other) 1 0 + cond (is_tag t Mask) 1 0 + cond (is_tag t User || is_tag t Group) 1 0 ≡ 1
one_of UserObj = refl
one_of User = refl
one_of GroupObj = refl
one_of Group = refl
one_of Mask = refl
one_of Other = refl

pub counted : (p : Entry → Bool) (x : Entry) (xs : List Entry) → count_by p (x ∷ xs) ≡ cond (p x) 1 0 + count_by p xs
counted p x xs = sum_by-cons (λ y. cond (p y) 1 0) x xs

all_counted : (es : List Entry) → length es ≡ count_by (has_tag UserObj) es + count_by (has_tag GroupObj) es + count_by (has_tag Other) es + count_by (has_tag Mask) es + count_by is_named es
all_counted [] = refl
all_counted (e ∷ es) =
    omega (arith, all_counted es, one_of e.tag, counted (has_tag UserObj) e es, counted (has_tag GroupObj) e es, counted (has_tag Other) e es, counted (has_tag Mask) e es, counted is_named e es)

pub few : (es : List Entry) → IsValidAcl es → length es ≤ 104
few es v = omega (arith, all_counted es, v.owner, v.owning_group, v.other, v.one_mask, v.few)

-- ---- chains
pub none_linked : (buckets : List ℕ) (first next : List ℕ) → ((b : ℕ) → slice_index first b ≡ 0) → IsChained buckets 0 first next
none_linked buckets first next zeros = record {
  heads = λ b l. let z = zeros b in record {
    within = omega arith;
    there = λ k e. absurd (omega arith);
    none_behind = λ k h g. absurd (omega arith);
  };
  links = λ i l. absurd (omega arith);
}

pub zeros : (n b : ℕ) → slice_index (replicate n 0) b ≡ 0
zeros zero b = refl
zeros (suc n) zero = refl
zeros (suc n) (suc b) = zeros n b

-- one entry more
module _ (buckets : List ℕ) (i b : ℕ) (first next : List ℕ) (small : b < 128) (many : length first ≡ 128) (room : i < length next) (is : slice_index buckets i ≡ b)
    (chained : IsChained buckets i first next) where
  head : (c : ℕ) → c < 128 → (d : Bool) → nat_eq c b ≡ d → IsLast buckets c (i + 1) (slice_index (set first b (i + 1)) c)
  head c l true e =
      let same : c ≡ b = (Decides-eqb _ _).0 e in
      let put : slice_index (set first b (i + 1)) c ≡ i + 1 = get_or-set_at first b c (i + 1) 0 same (omega arith) in
      record {
        within = omega arith;
        there = λ k f. let at : k ≡ i = omega arith in ap (slice_index buckets) at ∙ is ∙ sym same;
        none_behind = λ k h g. absurd (omega arith);
      }
  head c l false e =
      let differ : c ≢ b = λ same. true≢false (sym ((Decides-eqb _ _).1 same) ∙ e) in
      let left : slice_index (set first b (i + 1)) c ≡ slice_index first c = get_or-set_other first b c (i + 1) 0 differ in
      let old = chained.heads c l in
      let within = old.within in
      record {
        within = omega arith;
        there = λ k f. old.there k (sym left ∙ f);
        none_behind = λ k h g. by k (omega arith) (cases_lt k i) g;
      }
    where
      by : (k : ℕ) → slice_index first c ≤ k → (k < i) ⊎ (i ≤ k) → k < i + 1 → slice_index buckets k ≢ c
      by k h (inl lt) g = (chained.heads c l).none_behind k h lt
      by k h (inr ge) g = let at : k ≡ i = omega arith in λ f. true≢false (sym ((Decides-eqb c b).1 (sym f ∙ ap (slice_index buckets) at ∙ is)) ∙ e)

  link : (j : ℕ) → j < i + 1 → (j < i) ⊎ (i ≤ j) → IsLast buckets (slice_index buckets j) j (slice_index (set next i (slice_index first b)) j)
  link j l (inl lt) =
      let left : slice_index (set next i (slice_index first b)) j ≡ slice_index next j = get_or-set_other next i j (slice_index first b) 0 (λ same. omega arith) in
      subst (λ (p : ℕ). IsLast buckets (slice_index buckets j) j p) (sym left) (chained.links j lt)
  link j l (inr ge) =
      let at : j ≡ i = omega arith in
      let put : slice_index (set next i (slice_index first b)) j ≡ slice_index first b = get_or-set_at next i j (slice_index first b) 0 at room in
      subst (λ (p : ℕ). IsLast buckets (slice_index buckets j) j p) (sym put)
      (subst (λ (k : ℕ). IsLast buckets (slice_index buckets k) k (slice_index first b)) (sym at)
      (subst (λ (c : ℕ). IsLast buckets c i (slice_index first b)) (sym is) (chained.heads b small)))

  pub linked : IsChained buckets (i + 1) (set first b (i + 1)) (set next i (slice_index first b))
  linked = record {
    heads = λ c l. head c l (nat_eq c b) refl;
    links = λ j l. link j l (cases_lt j i);
  }

-- ---- what a walk along a chain knows: the place that it has come to, and that what stands behind it is not what is looked for
pub record IsSearched (buckets : List ℕ) (bucket n place : ℕ) (IsNot : ℕ → Type 0) : Type 0 where
  pub within : place ≤ n
  pub there : (k : ℕ) → place ≡ k + 1 → slice_index buckets k ≡ bucket
  pub none_behind : (k : ℕ) → place ≤ k → k < n → IsNot k

module _ (buckets : List ℕ) (n bucket : ℕ) (first next : List ℕ) (chained : IsChained buckets n first next)
    (IsNot : ℕ → Type 0) (elsewhere : (k : ℕ) → k < n → slice_index buckets k ≢ bucket → IsNot k) where
  pub begun : (b : ℕ) → b ≡ bucket → b < 128 → IsSearched buckets bucket n (slice_index first b) IsNot
  begun b is small =
      let last = chained.heads b small in
      record {
        within = last.within;
        there = λ k e. last.there k e ∙ is;
        none_behind = λ k h l. elsewhere k l (λ e. last.none_behind k h l (e ∙ sym is));
      }

  pub gone_on : (i place : ℕ) → place ≡ i + 1 → IsSearched buckets bucket n place IsNot → IsNot i → IsSearched buckets bucket n (slice_index next i) IsNot
  gone_on i place at searched not_here =
      let bound = searched.within in
      let lies : i < n = omega arith in
      let last = chained.links i lies in
      let same : slice_index buckets i ≡ bucket = searched.there i at in
      let below = last.within in
      record {
        within = omega arith;
        there = λ k e. last.there k e ∙ same;
        none_behind = λ k h l. by k h l last same (cases_lt k i);
      }
    where
      by : (k : ℕ) → slice_index next i ≤ k → k < n → IsLast buckets (slice_index buckets i) i (slice_index next i) →
          slice_index buckets i ≡ bucket → (k < i) ⊎ (i ≤ k) → IsNot k
      by k h l last same (inl lt) = elsewhere k l (λ e. last.none_behind k h lt (e ∙ sym same))
      by k h l last same (inr ge) = at_or_behind (cases_lt i k)
        where
          at_or_behind : (i < k) ⊎ (k ≤ i) → IsNot k
          at_or_behind (inl lt) = searched.none_behind k (omega arith) l
          at_or_behind (inr le) = let is : i ≡ k = omega arith in subst IsNot is not_here

-- ---- a walk that looks for a key

-- another key stands at an index
abbrev pub IsOtherKey : List ℕ → ℕ → ℕ → Type 0
IsOtherKey keys key k = slice_index keys k ≢ key

bucket_at : (keys : List ℕ) (k : ℕ) → k < length keys → slice_index (map bucket_of keys) k ≡ bucket_of (slice_index keys k)
bucket_at keys k h = get_or-map bucket_of keys k 0 0 h

-- what lies in another bucket is another key
pub other_key : (keys : List ℕ) (key k : ℕ) → k < length keys → slice_index (map bucket_of keys) k ≢ bucket_of key → IsOtherKey keys key k
other_key keys key k l n = λ e. n (bucket_at keys k l ∙ ap bucket_of e)

-- the bucket of the key at an index
pub bucket_is : (keys : List ℕ) (i key : ℕ) → i < length keys → key ≡ slice_index keys i → slice_index (map bucket_of keys) i ≡ bucket_of key
bucket_is keys i key l e = bucket_at keys i l ∙ ap bucket_of (sym e)

-- ---- a walk that looks for an entry

-- the entry at an index is for another
abbrev pub IsOther : List Entry → Tag → List ℕ → ℕ → Type 0
IsOther es t q k = (d : Entry) → is_for t q (get_or es k d) ≡ false

key_at : (es : List Entry) (k : ℕ) (d : Entry) → k < length es → slice_index (keys_of es) k ≡ key_in (get_or es k d)
key_at es k d h = get_or-map key_in es k d 0 h

pub many : (keys : List ℕ) (es : List Entry) → keys ≡ keys_of es → length keys ≡ length es
many keys es e = ap length e ∙ length-map es key_in

-- an entry of another key is for another
pub other_entry : (keys : List ℕ) (es : List Entry) (t : Tag) (q : List ℕ) (key k : ℕ) → keys ≡ keys_of es → key ≡ key_of t q → k < length keys →
    IsOtherKey keys key k → IsOther es t q k
other_entry keys es t q key k e is l n d =
    let lies : k < length es = omega (arith, many keys es e) in
    told_not (get_or es k d) t q (λ same. n (ap (λ (ks : List ℕ). slice_index ks k) e ∙ key_at es k d lies ∙ same ∙ sym is))

pub found_none : (es : List Entry) (t : Tag) (q : List ℕ) → ((k : ℕ) → k < length es → IsOther es t q k) → list_any (is_for t q) es ≡ false
found_none es t q none = list_any_none (is_for t q) es (λ k d l. none k l d)

-- the entry of the key of a short name is for it
pub found_by_key : (keys : List ℕ) (es : List Entry) (t : Tag) (q : List ℕ) (key : ℕ) → keys ≡ keys_of es → key ≡ key_of t q → IsValidAcl es → AreBytes q → length q ≤ 7 →
    (result : Option ℕ) → IsIndexOfKey key keys result → IsIndexOf t q es result
found_by_key keys es t q key e is valid bytes short None none =
    found_none es t q (λ k l. let lies : k < length keys = omega (arith, many keys es e) in other_entry keys es t q key k e is lies (none k lies))
found_by_key keys es t q key e is valid bytes short (Some i) (l, at) =
    let lies : i < length es = omega (arith, many keys es e) in
    (lies, λ d. told_short (get_or es i d) t q (valid.entries i d lies) bytes short (sym (key_at es i d lies) ∙ ap (λ (ks : List ℕ). slice_index ks i) (sym e) ∙ at ∙ is))

-- that of a name
pub found_by_name : (keys : List ℕ) (es : List Entry) (t : Tag) (q : List ℕ) (key : ℕ) → keys ≡ keys_of es → key ≡ key_of t q → IsValidAcl es → is_name q ≡ true → length q ≤ 7 →
    (result : Option ℕ) → IsIndexOfKey key keys result → IsIndexOf t q es result
found_by_name keys es t q key e is valid name short = found_by_key keys es t q key e is valid (name_bytes q name) short

-- and of none
pub found_by_type : (keys : List ℕ) (es : List Entry) (t : Tag) (key : ℕ) → keys ≡ keys_of es → key ≡ key_of t [] → IsValidAcl es →
    (result : Option ℕ) → IsIndexOfKey key keys result → IsIndexOf t [] es result
found_by_type keys es t key e is valid = found_by_key keys es t [] key e is valid (λ k. omega arith) (omega arith)

pub few_keys : (keys : List ℕ) (es : List Entry) → keys ≡ keys_of es → IsValidAcl es → length keys ≤ 104
few_keys keys es e valid = omega (arith, many keys es e, few es valid)

-- no name at all is this name where it is empty
pub nameless : (q : List ℕ) → pointwise nat_eq [] q ≡ nat_eq (length q) 0
nameless [] = refl
nameless (c ∷ cs) = grind (arith, nat_tests)
