-- The changes between two catalogues make the one of the other: those that are met stand before the ones that are still to come.
use Rattle.std.proofs.Common.{◌≡◌, ℕ, zero, suc, ◌+◌, nat_eq, nat_le, Bool, true, false, cond, ◌&&◌, ◌||◌, List, [], ◌∷◌, ◌++◌, length, take, drop, map, Option, Some, None, is_some, option_map, Result, Ok, refl, sym, ap, ◌∙◌, subst, arith, append-nil, append_assoc, true≢false}
use Rattle.std.specs.{Prelude.{if◌then◌else◌, ◌==◌}, Option.{option_and_then}, List.{AllByRecursion, IsDistinct, common_prefix_len, list_any}, Map.{keys_of}}
use Rattle.std.specs.{Cmp.Lexicographic.{pointwise, bytes_decides, nat_list_eq_equiv}, Str.Lines.{lines}}
use Rattle.std.proofs.lemmas.{Bool.Decides.{nat_tests}, List.{take-append-drop}, List.Sums.{common_prefix_len-le}, Map.Keys.{IsDistinct-head, IsDistinct-tail}}
use Rattle.mon_text.specs.{Lines.{IsLine}, declared.stop.Stop.{Stop}}
use Rattle.mon_acl.specs.declared.entries.Entry.{Entry}
use Rattle.acl_text.{specs.Printing.{short_form}, proofs.Whole.{one_form}}
use Rattle.mon_catalogue.specs.declared.{mode.Mode.{Mode}, mode.Mode.TheVariants.{Seq, Append}, version.Version.TheVariants.{Two}}
use Rattle.mon_catalogue.specs.{declared.data_set.DataSet.{DataSet}, declared.loading.CatalogueError.{CatalogueError}, Modes.{mode_word}}
use Rattle.mon_catalogue.specs.{Sets.{Sets, find_set, NamesDiffer}, Changes.{without_set, with_changed}, Reading.{catalogue_of}, Text.{set_line, text_of}}
use Rattle.mon_catalogue.specs.Stored.{IsStoredSet, ArePrintable}
use Rattle.mon_catalogue.proofs.{Back.{catalogue_reads_back}, Bytes.{lines_of_text}, Printable.{catalogue_lines_show}}
use Rattle.ledger_text.specs.Records.{Said, Keep}
use Rattle.ledger_sets.specs.{Changes.{head_text, whole, gone, shared, kept, same_head, changed, changes_between}, Laws.{ChangesLead}}
use Rattle.ledger_sets.specs.Applying.{Site, with_sets, kept_as, keeping, put_set, setting, after_said, after_all}

left : (a b : Bool) → (a || b) ≡ false → a ≡ false
left false b h = refl
left true b h = absurd (true≢false h)

right : (a b : Bool) → (a || b) ≡ false → b ≡ false
right false b h = h
right true b h = absurd (true≢false h)

first_of : (a b : Bool) → (a && b) ≡ true → a ≡ true
first_of true b h = refl
first_of false b h = absurd (true≢false (sym h))

second_of : (a b : Bool) → (a && b) ≡ true → b ≡ true
second_of true b h = h
second_of false b h = absurd (true≢false (sym h))

same_name : (x y : List ℕ) → pointwise nat_eq x y ≡ true → x ≡ y
same_name x y h = (bytes_decides x y).0 h

itself : (x : List ℕ) → pointwise nat_eq x x ≡ true
itself x = nat_list_eq_equiv.refl x

-- ---- a name that is none of those before it

abbrev Apart : List ℕ → Sets → Type 0
Apart name sets = list_any (pointwise nat_eq name) (keys_of sets) ≡ false

module _ (name : List ℕ) (set : DataSet) (rest : Sets) where
  find_at : (met : Sets) → Apart name met → find_set name (met ++ (name, set) ∷ rest) ≡ Some set
  find_at [] apart = ap (λ (b : Bool). cond b (Some set) (find_set name rest)) (itself name)
  find_at (one ∷ met) apart =
      ap (λ (b : Bool). cond b (Some one.1) (find_set name (met ++ (name, set) ∷ rest))) (left (pointwise nat_eq name one.0) (list_any (pointwise nat_eq name) (keys_of met)) apart)
      ∙ find_at met (right (pointwise nat_eq name one.0) (list_any (pointwise nat_eq name) (keys_of met)) apart)

  changed_at : (f : DataSet → DataSet) (met : Sets) → Apart name met → with_changed name f (met ++ (name, set) ∷ rest) ≡ met ++ (name, f set) ∷ rest
  changed_at f [] apart = ap (λ (b : Bool). cond b ((name, f set) ∷ rest) ((name, set) ∷ with_changed name f rest)) (itself name)
  changed_at f (one ∷ met) apart =
      ap (λ (b : Bool). cond b ((one.0, f one.1) ∷ (met ++ (name, set) ∷ rest)) (one ∷ with_changed name f (met ++ (name, set) ∷ rest)))
      (left (pointwise nat_eq name one.0) (list_any (pointwise nat_eq name) (keys_of met)) apart)
      ∙ ap (λ (l : Sets). one ∷ l) (changed_at f met (right (pointwise nat_eq name one.0) (list_any (pointwise nat_eq name) (keys_of met)) apart))

  without_at : (met : Sets) → Apart name met → without_set name (met ++ (name, set) ∷ rest) ≡ met ++ rest
  without_at [] apart = ap (λ (b : Bool). cond b rest ((name, set) ∷ without_set name rest)) (itself name)
  without_at (one ∷ met) apart =
      ap (λ (b : Bool). cond b (met ++ (name, set) ∷ rest) (one ∷ without_set name (met ++ (name, set) ∷ rest)))
      (left (pointwise nat_eq name one.0) (list_any (pointwise nat_eq name) (keys_of met)) apart)
      ∙ ap (λ (l : Sets). one ∷ l) (without_at met (right (pointwise nat_eq name one.0) (list_any (pointwise nat_eq name) (keys_of met)) apart))

none_found : (name : List ℕ) (met : Sets) → Apart name met → find_set name met ≡ None
none_found name [] apart = refl
none_found name (one ∷ met) apart =
    ap (λ (b : Bool). cond b (Some one.1) (find_set name met)) (left (pointwise nat_eq name one.0) (list_any (pointwise nat_eq name) (keys_of met)) apart)
    ∙ none_found name met (right (pointwise nat_eq name one.0) (list_any (pointwise nat_eq name) (keys_of met)) apart)

-- none of these is among those that are met, and no two have one name
record Later (met sets : Sets) : Type 0 where
  apart : AllByRecursion (λ named. Apart named.0 met) sets
  differ : NamesDiffer sets

apart_on : (name other : List ℕ) (set : DataSet) (met : Sets) → Apart other met → pointwise nat_eq name other ≡ false → Apart other (met ++ (name, set) ∷ [])
apart_on name other set [] apart differ = ap (λ (b : Bool). b || false) (nat_list_eq_equiv.symm other name ∙ differ)
apart_on name other set (one ∷ met) apart differ =
    ap (λ (b : Bool). b || list_any (pointwise nat_eq other) (keys_of (met ++ (name, set) ∷ [])))
    (left (pointwise nat_eq other one.0) (list_any (pointwise nat_eq other) (keys_of met)) apart)
    ∙ apart_on name other set met (right (pointwise nat_eq other one.0) (list_any (pointwise nat_eq other) (keys_of met)) apart) differ

all_on : (name : List ℕ) (set : DataSet) (met sets : Sets) → AllByRecursion (λ named. Apart named.0 met) sets
    → AllByRecursion (λ y. pointwise nat_eq name y ≡ false) (keys_of sets) → AllByRecursion (λ named. Apart named.0 (met ++ (name, set) ∷ [])) sets
all_on name set met [] apart differ = tt
all_on name set met (one ∷ sets) apart differ = (apart_on name one.0 set met apart.0 differ.0, all_on name set met sets apart.1 differ.1)

-- the next one is met
later_on : (name : List ℕ) (was is : DataSet) (met sets : Sets) → Later met ((name, was) ∷ sets) → Later (met ++ (name, is) ∷ []) sets
later_on name was is met sets l = record {
  apart = all_on name is met sets l.apart.1 (IsDistinct-head (pointwise nat_eq) name (keys_of sets) l.differ);
  differ = IsDistinct-tail (pointwise nat_eq) name (keys_of sets) l.differ;
}

-- or gone
later_behind : (old : List ℕ × DataSet) (met sets : Sets) → Later met (old ∷ sets) → Later met sets
later_behind old met sets l = record { apart = l.apart.1; differ = IsDistinct-tail (pointwise nat_eq) old.0 (keys_of sets) l.differ }

-- ---- one data set

record IsGood (named : List ℕ × DataSet) : Type 0 where
  stored : IsStoredSet named
  printable : AllByRecursion IsLine named.1.records

head_lines : (named : List ℕ × DataSet) → IsGood named → lines (head_text named) ≡ set_line named.0 named.1 ∷ short_form named.1.acl ∷ []
head_lines named good =
    let show = catalogue_lines_show (named ∷ []) (good.stored, tt) (good.printable, tt) in
    lines_of_text (set_line named.0 named.1 ∷ short_form named.1.acl ∷ []) (show.0, (show.1.0, tt))

one_differs : (named : List ℕ × DataSet) → NamesDiffer (named ∷ [])
unfolding IsDistinct
one_differs named = (tt, tt)

spelled : (named : List ℕ × DataSet) → IsGood named → catalogue_of Two (lines (head_text named) ++ lines (text_of named.1.records)) ≡ Ok (named ∷ [])
spelled named good =
    ap (λ (ls : List (List ℕ)). catalogue_of Two (ls ++ lines (text_of named.1.records))) (head_lines named good)
    ∙ ap (λ (ls : List (List ℕ)). catalogue_of Two (set_line named.0 named.1 ∷ short_form named.1.acl ∷ ls)) (lines_of_text named.1.records good.printable)
    ∙ ap (λ (ls : List (List ℕ)). catalogue_of Two (set_line named.0 named.1 ∷ short_form named.1.acl ∷ ls)) (sym (append-nil named.1.records))
    ∙ catalogue_reads_back (named ∷ []) ((one_differs named, omega arith), (good.stored, tt))

set_is : (site : Site) (named : List ℕ × DataSet) (sets : Sets) → IsGood named → after_said (whole named) (with_sets site sets) ≡ Some (with_sets site (put_set named.0 named.1 sets))
set_is site named sets good =
    ap (λ (r : Result Sets (Stop CatalogueError)). option_map (with_sets site) (setting named.0 r sets)) (spelled named good)
    ∙ ap (λ (b : Bool). option_map (with_sets site) (if b then Some (put_set named.0 named.1 sets) else None)) (itself named.0)

put_there : (name : List ℕ) (was is : DataSet) (met rest : Sets) → Apart name met → put_set name is (met ++ (name, was) ∷ rest) ≡ met ++ (name, is) ∷ rest
put_there name was is met rest apart =
    ap (λ (o : Option DataSet). if is_some o then with_changed name (λ _. is) (met ++ (name, was) ∷ rest) else (met ++ (name, was) ∷ rest) ++ (name, is) ∷ [])
    (find_at name was rest met apart)
    ∙ changed_at name was rest (λ _. is) met apart

put_last : (name : List ℕ) (is : DataSet) (met : Sets) → Apart name met → put_set name is met ≡ met ++ (name, is) ∷ []
put_last name is met apart = ap (λ (o : Option DataSet). if is_some o then with_changed name (λ _. is) met else met ++ (name, is) ∷ []) (none_found name met apart)

gone_is : (site : Site) (old : List ℕ × DataSet) (met rest : Sets) → Apart old.0 met → after_said (gone old) (with_sets site (met ++ old ∷ rest)) ≡ Some (with_sets site (met ++ rest))
gone_is site old met rest apart =
    ap (λ (o : Option DataSet). option_map (with_sets site) (if is_some o then Some (without_set old.0 (met ++ old ∷ rest)) else None)) (find_at old.0 old.1 rest met apart)
    ∙ ap (λ (l : Sets). Some (with_sets site l)) (without_at old.0 old.1 rest met apart)

-- ---- records that stay

take_same : (xs ys : List (List ℕ)) → take (common_prefix_len (pointwise nat_eq) xs ys) xs ≡ take (common_prefix_len (pointwise nat_eq) xs ys) ys
take_same [] ys = refl
take_same (x ∷ xs) [] = refl
take_same (x ∷ xs) (y ∷ ys) = by (pointwise nat_eq x y) refl (take_same xs ys)
  where
    by : (b : Bool) → pointwise nat_eq x y ≡ b → take (common_prefix_len (pointwise nat_eq) xs ys) xs ≡ take (common_prefix_len (pointwise nat_eq) xs ys) ys
        → take (cond b (1 + common_prefix_len (pointwise nat_eq) xs ys) 0) (x ∷ xs) ≡ take (cond b (1 + common_prefix_len (pointwise nat_eq) xs ys) 0) (y ∷ ys)
    by true e rest =
        let n : 1 + common_prefix_len (pointwise nat_eq) xs ys ≡ suc (common_prefix_len (pointwise nat_eq) xs ys) = omega arith in
        ap (λ (k : ℕ). take k (x ∷ xs)) n ∙ ap (λ (z : List ℕ). z ∷ take (common_prefix_len (pointwise nat_eq) xs ys) xs) (same_name x y e)
        ∙ ap (λ (l : List (List ℕ)). y ∷ l) rest ∙ ap (λ (k : ℕ). take k (y ∷ ys)) (sym n)
    by false e rest = refl

stays : (xs ys : List (List ℕ)) → take (shared xs ys) xs ++ drop (shared xs ys) ys ≡ ys
stays xs ys = ap (λ (l : List (List ℕ)). l ++ drop (shared xs ys) ys) (take_same xs ys) ∙ take-append-drop (shared xs ys) ys

take_length : (n : ℕ) (xs : List (List ℕ)) → n ≡ length xs → take n xs ≡ xs
take_length n [] e = ap (λ (k : ℕ). take k []) e
take_length zero (x ∷ xs) e = absurd (omega (arith, e))
take_length (suc n) (x ∷ xs) e = ap (λ (l : List (List ℕ)). x ∷ l) (take_length n xs (omega (arith, e)))

all_same : (xs ys : List (List ℕ)) → shared xs ys ≡ length xs → shared xs ys ≡ length ys → xs ≡ ys
all_same xs ys one other = sym (take_length (shared xs ys) xs one) ∙ take_same xs ys ∙ take_length (shared xs ys) ys other

one_mode : (a b : Mode) → pointwise nat_eq (mode_word a) (mode_word b) ≡ true → a ≡ b
one_mode Seq Seq h = refl
one_mode Append Append h = refl
one_mode Seq Append h = absurd (true≢false (sym h))
one_mode Append Seq h = absurd (true≢false (sym h))

lines_behind : (n : ℕ) (ls : List (List ℕ)) → AllByRecursion IsLine ls → AllByRecursion IsLine (drop n ls)
lines_behind zero ls are = are
lines_behind (suc n) [] are = tt
lines_behind (suc n) (l ∷ ls) are = lines_behind n ls are.1

abbrev made : List ℕ → List ℕ → Mode → List Entry → List (List ℕ) → DataSet
made owner group mode acl records = record { owner = owner; group = group; mode = mode; acl = acl; records = records }

-- ---- one that is met

module _ (site : Site) (name : List ℕ) (was is : DataSet) (met rest : Sets) (apart : Apart name met) (before : IsGood (name, was)) (after : IsGood (name, is)) where
  abbrev n : ℕ
  n = shared was.records is.records

  abbrev there : Sets
  there = met ++ (name, was) ∷ rest

  abbrev Done : List Said → Type 0
  Done changes = after_all changes (with_sets site there) ≡ Some (with_sets site (met ++ (name, is) ∷ rest))

  abbrev owners : Bool
  owners = pointwise nat_eq was.owner is.owner

  abbrev groups : Bool
  groups = pointwise nat_eq was.group is.group

  abbrev modes : Bool
  modes = pointwise nat_eq (mode_word was.mode) (mode_word is.mode)

  abbrev lists : Bool
  lists = pointwise nat_eq (short_form was.acl) (short_form is.acl)

  with_records : same_head was is ≡ true → (records : List (List ℕ)) → records ≡ is.records → record was { records = records } ≡ is
  with_records h records same =
      let three = first_of (owners && groups && modes) lists h in
      let two = first_of (owners && groups) modes three in
      parts (same_name was.owner is.owner (first_of owners groups two)) (same_name was.group is.group (second_of owners groups two))
      (one_mode was.mode is.mode (second_of (owners && groups) modes three))
      (one_form was.acl is.acl before.stored.3 after.stored.3 (same_name (short_form was.acl) (short_form is.acl) (second_of (owners && groups && modes) lists h))) same
    where
      parts : was.owner ≡ is.owner → was.group ≡ is.group → was.mode ≡ is.mode → was.acl ≡ is.acl → records ≡ is.records → record was { records = records } ≡ is
      parts a b c d e =
          ap (λ (owner : List ℕ). made owner was.group was.mode was.acl records) a ∙ ap (λ (group : List ℕ). made is.owner group was.mode was.acl records) b
          ∙ ap (λ (mode : Mode). made is.owner is.group mode was.acl records) c ∙ ap (λ (acl : List Entry). made is.owner is.group is.mode acl records) d
          ∙ ap (λ (records : List (List ℕ)). made is.owner is.group is.mode is.acl records) e

  keep_is : same_head was is ≡ true → after_said (Keep 0 name n (text_of (drop n is.records))) (with_sets site there) ≡ Some (with_sets site (met ++ (name, is) ∷ rest))
  keep_is h =
      let all : nat_le n (length was.records) ≡ true = grind (arith, nat_tests, common_prefix_len-le (pointwise nat_eq) was.records is.records) in
      ap (λ (ls : List (List ℕ)). option_map (with_sets site) (keeping name n ls there)) (lines_of_text (drop n is.records) (lines_behind n is.records after.printable))
      ∙ ap (λ (o : Option DataSet). option_map (with_sets site) (option_and_then (λ set. if nat_le n (length set.records) then Some (with_changed name (kept_as n (drop n is.records)) there) else None) o))
      (find_at name was rest met apart)
      ∙ ap (λ (b : Bool). option_map (with_sets site) (if b then Some (with_changed name (kept_as n (drop n is.records)) there) else None)) all
      ∙ ap (λ (l : Sets). Some (with_sets site l)) (changed_at name was rest (kept_as n (drop n is.records)) met apart)
      ∙ ap (λ (set : DataSet). Some (with_sets site (met ++ (name, set) ∷ rest))) (with_records h (take n was.records ++ drop n is.records) (stays was.records is.records))

  kept_is : same_head was is ≡ true → (b : Bool) → (n == length was.records && n == length is.records) ≡ b
      → Done (if b then [] else Keep 0 name n (text_of (drop n is.records)) ∷ [])
  kept_is h true e =
      let one = first_of (n == length was.records) (n == length is.records) e in
      let other = second_of (n == length was.records) (n == length is.records) e in
      let all : n ≡ length was.records = grind (arith, nat_tests, one) in
      let no_more : n ≡ length is.records = grind (arith, nat_tests, other) in
      ap (λ (set : DataSet). Some (with_sets site (met ++ (name, set) ∷ rest))) (with_records h was.records (all_same was.records is.records all no_more))
  kept_is h false e = ap (option_and_then (after_all [])) (keep_is h)

  met_is : Done (changed name was is)
  met_is = by (same_head was is) refl
    where
      by : (b : Bool) → same_head was is ≡ b → Done (if b then kept name was.records is.records n else whole (name, is) ∷ [])
      by true h = kept_is h (n == length was.records && n == length is.records) refl
      by false h =
          ap (option_and_then (after_all [])) (set_is site (name, is) there after)
          ∙ ap (λ (l : Sets). Some (with_sets site l)) (put_there name was is met rest apart)

-- ---- all of them

and_then : (one two : List Said) (site : Site) → after_all (one ++ two) site ≡ option_and_then (after_all two) (after_all one site)
and_then [] two site = refl
and_then (change ∷ one) two site = by (after_said change site) (λ next. and_then one two next)
  where
    by : (o : Option Site) → ((next : Site) → after_all (one ++ two) next ≡ option_and_then (after_all two) (after_all one next))
        → option_and_then (after_all (one ++ two)) o ≡ option_and_then (after_all two) (option_and_then (after_all one) o)
    by None rest = refl
    by (Some next) rest = rest next

abbrev AreGood : Sets → Type 0
AreGood sets = AllByRecursion IsGood sets

news : (site : Site) (after met : Sets) → Later met after → AreGood after → after_all (map whole after) (with_sets site met) ≡ Some (with_sets site (met ++ after))
news site [] met later good = ap (λ (l : Sets). Some (with_sets site l)) (sym (append-nil met))
news site (new ∷ after) met later good =
    ap (option_and_then (after_all (map whole after))) (set_is site new met good.0 ∙ ap (λ (l : Sets). Some (with_sets site l)) (put_last new.0 new.1 met later.apart.0))
    ∙ news site after (met ++ new ∷ []) (later_on new.0 new.1 new.1 met after later) good.1
    ∙ ap (λ (l : Sets). Some (with_sets site l)) (append_assoc met (new ∷ []) after)

leads : (site : Site) (before after met : Sets) → Later met before → Later met after → AreGood before → AreGood after
    → after_all (changes_between before after) (with_sets site (met ++ before)) ≡ Some (with_sets site (met ++ after))
leads site [] after met old new good better = ap (λ (l : Sets). after_all (map whole after) (with_sets site l)) (append-nil met) ∙ news site after met new better
leads site (one ∷ before) [] met old new good better =
    ap (option_and_then (after_all (changes_between before []))) (gone_is site one met before old.apart.0)
    ∙ leads site before [] met (later_behind one met before old) new good.1 better
leads site (one ∷ before) (two ∷ after) met old new good better =
    by (pointwise nat_eq one.0 two.0) refl
    (leads site before (two ∷ after) met (later_behind one met before old) new good.1 better)
    (λ same. leads site before after (met ++ two ∷ [])
    (later_on two.0 one.1 two.1 met before (subst (λ (name : List ℕ). Later met ((name, one.1) ∷ before)) same old))
    (later_on two.0 two.1 two.1 met after new) good.1 better.1)
  where
    goal : List Said → Type 0
    goal changes = after_all changes (with_sets site (met ++ one ∷ before)) ≡ Some (with_sets site (met ++ two ∷ after))

    met_again : (name : List ℕ) → name ≡ two.0 → IsGood (name, one.1) → Apart name met
        → after_all (changes_between before after) (with_sets site ((met ++ two ∷ []) ++ before)) ≡ Some (with_sets site ((met ++ two ∷ []) ++ after))
        → after_all (changed name one.1 two.1 ++ changes_between before after) (with_sets site (met ++ (name, one.1) ∷ before)) ≡ Some (with_sets site (met ++ two ∷ after))
    met_again name same fine apart rest =
        and_then (changed name one.1 two.1) (changes_between before after) (with_sets site (met ++ (name, one.1) ∷ before))
        ∙ ap (option_and_then (after_all (changes_between before after)))
        (met_is site name one.1 two.1 met before apart fine (subst (λ (m : List ℕ). IsGood (m, two.1)) (sym same) better.0))
        ∙ ap (λ (m : List ℕ). after_all (changes_between before after) (with_sets site (met ++ (m, two.1) ∷ before))) same
        ∙ ap (λ (l : Sets). after_all (changes_between before after) (with_sets site l)) (sym (append_assoc met (two ∷ []) before))
        ∙ rest ∙ ap (λ (l : Sets). Some (with_sets site l)) (append_assoc met (two ∷ []) after)

    by : (b : Bool) → pointwise nat_eq one.0 two.0 ≡ b
        → after_all (changes_between before (two ∷ after)) (with_sets site (met ++ before)) ≡ Some (with_sets site (met ++ two ∷ after))
        → (one.0 ≡ two.0 → after_all (changes_between before after) (with_sets site ((met ++ two ∷ []) ++ before)) ≡ Some (with_sets site ((met ++ two ∷ []) ++ after)))
        → after_all (if b then changed one.0 one.1 two.1 ++ changes_between before after else gone one ∷ changes_between before (two ∷ after)) (with_sets site (met ++ one ∷ before))
        ≡ Some (with_sets site (met ++ two ∷ after))
    by true e apart_rest rest = met_again one.0 (same_name one.0 two.0 e) good.0 old.apart.0 (rest (same_name one.0 two.0 e))
    by false e apart_rest rest = ap (option_and_then (after_all (changes_between before (two ∷ after)))) (gone_is site one met before old.apart.0) ∙ apart_rest

-- ---- from the beginning

none_met : (sets : Sets) → AllByRecursion (λ named. Apart named.0 []) sets
none_met [] = tt
none_met (one ∷ sets) = (refl, none_met sets)

all_good : (sets : Sets) → AllByRecursion IsStoredSet sets → ArePrintable sets → AreGood sets
all_good [] stored printable = tt
all_good (one ∷ sets) stored printable = (record { stored = stored.0; printable = printable.0 }, all_good sets stored.1 printable.1)

pub changes_lead : ChangesLead
changes_lead site after before_stored before_printable after_stored after_printable =
    leads site site.sets after []
    (record { apart = none_met site.sets; differ = before_stored.0.0 }) (record { apart = none_met after; differ = after_stored.0.0 })
    (all_good site.sets before_stored.1 before_printable) (all_good after after_stored.1 after_printable)
