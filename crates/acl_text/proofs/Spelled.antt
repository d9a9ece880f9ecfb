-- One entry: what is read from a piece is what the piece spells, and all of it.
use Rattle.std.proofs.Common.{◌≡◌, ◌∙◌, ap, sym, subst, refl, ℕ, Bool, true, false, cond, List, [], ◌∷◌, Option, Some, None, inl, inr, ◌⊎◌, arith}
use Rattle.std.{proofs.lemmas.Bool.{eqb-true, eqb-false, leb-true}, specs.List.{list_all}, specs.Cmp.Lexicographic.{pointwise, bytes_decides}}
use Rattle.std.specs.{Prelude.{Result, Ok, Err, ok_or, option_map, codes, IsTrue, ◌==◌, ◌&&◌, ◌||◌, nat_eq, nat_le}, Option.{unwrap_or}}
use Rattle.mon_text.specs.Names.{is_name}
use Rattle.mon_acl.specs.declared.{entries.Perms.{Perms}, entries.Tag.{Tag}, entries.Entry.{Entry}, refusals.AclError.{AclError}}
use Rattle.mon_acl.specs.{declared.entries.Tag.TheVariants.{UserObj, User, GroupObj, Group, Mask, Other}, Entries.{is_qualified, qualifier, IsEntry}}
use Rattle.mon_acl.specs.declared.refusals.AclError.TheVariants.{BadTag, BadQualifier, BadPerms}
use Rattle.acl_text.specs.Texts.{fields, is_permission, times, once_if, may_leave_out, SpellsTag, SpellsPerms, SpellsFields, SpellsEntry}
use Rattle.acl_text.specs.Refusals.{◌>>=◌, is_either, type_of, named_type, qualified, parts_of, is_perms, perms_of, entry_of, entry_of_fields}

-- ---- results in a row

pub bind_ok : {A B : Type 0} (r : Result A AclError) (f : A → Result B AclError) (y : B) → (r >>= f) ≡ Ok y → (x : A) × (r ≡ Ok x) × (f x ≡ Ok y)
bind_ok (Ok x) f y h = (x, refl, h)
bind_ok (Err e) f y h = absurd (let t : Err e ≡ Ok y = h in cc)

or_ok : {A : Type 0} (o : Option A) (e : AclError) (x : A) → ok_or o e ≡ Ok x → o ≡ Some x
or_ok (Some y) e x h = let t : Ok y ≡ Ok x = h in cc
or_ok None e x h = absurd (let t : Err e ≡ Ok x = h in cc)

pub if_some : {A : Type 0} (b : Bool) (o : Option A) (x : A) → cond b o None ≡ Some x → (b ≡ true) × (o ≡ Some x)
if_some true o x h = (refl, h)
if_some false o x h = absurd (let t : None ≡ Some x = h in cc)

pub both : (a b : Bool) → (a && b) ≡ true → (a ≡ true) × (b ≡ true)
both true b h = (refl, h)
both false b h = absurd (let t : false ≡ true = h in cc)

-- ---- the type

same_text : (w a : List ℕ) → pointwise nat_eq w a ≡ true → w ≡ a
same_text w a h = (bytes_decides w a).0 h

either : (w a b : List ℕ) → is_either w a b ≡ true → (w ≡ a) ⊎ (w ≡ b)
either w a b h = at (pointwise nat_eq w a) refl h
  where
    at : (t : Bool) → pointwise nat_eq w a ≡ t → (t || pointwise nat_eq w b) ≡ true → (w ≡ a) ⊎ (w ≡ b)
    at true e h = inl (same_text w a e)
    at false e h = inr (same_text w b h)

-- the types without a qualifier
abbrev pub is_plain : Tag → Bool
is_plain UserObj = true
is_plain User = false
is_plain GroupObj = true
is_plain Group = false
is_plain Mask = true
is_plain Other = true

abbrev pub plain_of : Tag → Tag
plain_of User = UserObj
plain_of Group = GroupObj
plain_of t = t

typed : (word : List ℕ) (t : Tag) → type_of word ≡ Some t → SpellsTag word t × (is_plain t ≡ true)
typed word t h =
    at (is_either word (codes "user") (codes "u")) refl (is_either word (codes "group") (codes "g")) refl
    (is_either word (codes "mask") (codes "m")) refl (is_either word (codes "other") (codes "o")) refl h
  where
    found : (s : Tag) → SpellsTag word s → is_plain s ≡ true → Some s ≡ Some t → SpellsTag word t × (is_plain t ≡ true)
    found s w p h = let same : s ≡ t = (let k : Some s ≡ Some t = h in cc) in subst (λ (u : Tag). SpellsTag word u × (is_plain u ≡ true)) same (w, p)

    at : (a : Bool) → is_either word (codes "user") (codes "u") ≡ a → (b : Bool) → is_either word (codes "group") (codes "g") ≡ b →
        (c : Bool) → is_either word (codes "mask") (codes "m") ≡ c → (d : Bool) → is_either word (codes "other") (codes "o") ≡ d →
        cond a (Some UserObj) (cond b (Some GroupObj) (cond c (Some Mask) (cond d (Some Other) None))) ≡ Some t → SpellsTag word t × (is_plain t ≡ true)
    at true ea b eb c ec d ed h = found UserObj (either word _ _ ea) refl h
    at false ea true eb c ec d ed h = found GroupObj (either word _ _ eb) refl h
    at false ea false eb true ec d ed h = found Mask (either word _ _ ec) refl h
    at false ea false eb false ec true ed h = found Other (either word _ _ ed) refl h
    at false ea false eb false ec false ed h = absurd (let k : None ≡ Some t = h in cc)

type_spelled : (word : List ℕ) (t : Tag) → SpellsTag word t → type_of word ≡ Some (plain_of t)
type_spelled word UserObj (inl h) = ap type_of h
type_spelled word UserObj (inr h) = ap type_of h
type_spelled word User (inl h) = ap type_of h
type_spelled word User (inr h) = ap type_of h
type_spelled word GroupObj (inl h) = ap type_of h
type_spelled word GroupObj (inr h) = ap type_of h
type_spelled word Group (inl h) = ap type_of h
type_spelled word Group (inr h) = ap type_of h
type_spelled word Mask (inl h) = ap type_of h
type_spelled word Mask (inr h) = ap type_of h
type_spelled word Other (inl h) = ap type_of h
type_spelled word Other (inr h) = ap type_of h

-- ---- the qualifier

-- what a qualifier makes of the type of a word
pub record Whole (plain : Tag) (name : List ℕ) (t : Tag) (o : Option (List ℕ)) : Type 0 where
  pub valid : IsTrue (is_qualified t o)
  pub same_word : plain_of t ≡ plain
  pub is : name ≡ unwrap_or o []
  pub left_out : name ≡ [] → t ≡ plain

whole_of : (plain : Tag) (name : List ℕ) (w : Tag × Option (List ℕ)) → is_plain plain ≡ true → qualified plain name ≡ Some w → Whole plain name w.0 w.1
whole_of plain [] w p h = at (let k : Some (plain, None) ≡ Some w = h in cc)
  where
    valid : (t : Tag) → is_plain t ≡ true → IsTrue (is_qualified t None) × (plain_of t ≡ t)
    valid UserObj p = (refl, refl)
    valid User p = absurd (let k : false ≡ true = p in cc)
    valid GroupObj p = (refl, refl)
    valid Group p = absurd (let k : false ≡ true = p in cc)
    valid Mask p = (refl, refl)
    valid Other p = (refl, refl)

    at : (plain, None) ≡ w → Whole plain [] w.0 w.1
    at e = subst (λ (v : Tag × Option (List ℕ)). Whole plain [] v.0 v.1) e (record { valid = (valid plain p).0; same_word = (valid plain p).1; is = refl; left_out = λ _. refl })
whole_of plain (c ∷ cs) w p h = at plain (if_some (is_name (c ∷ cs)) (option_map (λ t. (t, Some (c ∷ cs))) (named_type plain)) w h)
  where
    some : (plain t : Tag) → plain_of t ≡ plain → IsTrue (is_qualified t (Some (c ∷ cs))) → Some (t, Some (c ∷ cs)) ≡ Some w → Whole plain (c ∷ cs) w.0 w.1
    some plain t s v h =
        let e : (t, Some (c ∷ cs)) ≡ w = (let k : Some (t, Some (c ∷ cs)) ≡ Some w = h in cc) in
        subst (λ (u : Tag × Option (List ℕ)). Whole plain (c ∷ cs) u.0 u.1) e (record { valid = v; same_word = s; is = refl; left_out = λ n. absurd (let k : (c ∷ cs) ≡ [] = n in cc) })

    at : (plain : Tag) → (is_name (c ∷ cs) ≡ true) × (option_map (λ t. (t, Some (c ∷ cs))) (named_type plain) ≡ Some w) → Whole plain (c ∷ cs) w.0 w.1
    at UserObj n = some UserObj User refl n.0 n.1
    at GroupObj n = some GroupObj Group refl n.0 n.1
    at User n = absurd (let k : None ≡ Some w = n.1 in cc)
    at Group n = absurd (let k : None ≡ Some w = n.1 in cc)
    at Mask n = absurd (let k : None ≡ Some w = n.1 in cc)
    at Other n = absurd (let k : None ≡ Some w = n.1 in cc)

qualified_spelled : (t : Tag) (o : Option (List ℕ)) → IsTrue (is_qualified t o) → qualified (plain_of t) (unwrap_or o []) ≡ Some (t, o)
qualified_spelled UserObj None h = refl
qualified_spelled GroupObj None h = refl
qualified_spelled Mask None h = refl
qualified_spelled Other None h = refl
qualified_spelled User (Some []) h = absurd (let k : false ≡ true = h in cc)
qualified_spelled User (Some (c ∷ cs)) h = ap (λ (b : Bool). cond b (Some (User, Some (c ∷ cs))) None) h
qualified_spelled Group (Some []) h = absurd (let k : false ≡ true = h in cc)
qualified_spelled Group (Some (c ∷ cs)) h = ap (λ (b : Bool). cond b (Some (Group, Some (c ∷ cs))) None) h
qualified_spelled User None h = absurd (let k : false ≡ true = h in cc)
qualified_spelled Group None h = absurd (let k : false ≡ true = h in cc)
qualified_spelled UserObj (Some n) h = absurd (let k : false ≡ true = h in cc)
qualified_spelled GroupObj (Some n) h = absurd (let k : false ≡ true = h in cc)
qualified_spelled Mask (Some n) h = absurd (let k : false ≡ true = h in cc)
qualified_spelled Other (Some n) h = absurd (let k : false ≡ true = h in cc)

-- ---- the permissions

le_one : (n : ℕ) → nat_le n 1 ≡ true → n ≡ once_if (n == 1)
le_one n h = at (n == 1) refl
  where
    at : (b : Bool) → (n == 1) ≡ b → n ≡ once_if b
    at true e = eqb-true n 1 e
    at false e = omega (arith, eqb-false n 1 e, leb-true n 1 h)

perms_spell : (field : List ℕ) (p : Perms) → perms_of field ≡ Some p → SpellsPerms field p
perms_spell field p h =
    let some = if_some (is_perms field) (Some (record { read = times 114 field == 1; write = times 119 field == 1; execute = times 120 field == 1 })) p h in
    let r : record { read = times 114 field == 1; write = times 119 field == 1; execute = times 120 field == 1 } ≡ p = (let k : Some (record { read = times 114 field == 1; write = times 119 field == 1; execute = times 120 field == 1 }) ≡ Some p = some.1 in cc) in
    let x = both (list_all is_permission field && nat_le (times 114 field) 1 && nat_le (times 119 field) 1) (nat_le (times 120 field) 1) some.0 in
    let w = both (list_all is_permission field && nat_le (times 114 field) 1) (nat_le (times 119 field) 1) x.0 in
    let l = both (list_all is_permission field) (nat_le (times 114 field) 1) w.0 in
    subst (SpellsPerms field) r (l.0, le_one (times 114 field) l.1, le_one (times 119 field) w.1, le_one (times 120 field) x.1)

once : (held : Bool) (n : ℕ) → n ≡ once_if held → (nat_le n 1 ≡ true) × ((n == 1) ≡ held)
once true n h = (ap (λ k. nat_le k 1) h, ap (λ k. k == 1) h)
once false n h = (ap (λ k. nat_le k 1) h, ap (λ k. k == 1) h)

perms_spelled : (field : List ℕ) (p : Perms) → SpellsPerms field p → perms_of field ≡ Some p
perms_spelled field p s =
    let r = once p.read (times 114 field) s.1 in
    let w = once p.write (times 119 field) s.2 in
    let x = once p.execute (times 120 field) s.3 in
    at (list_all is_permission field) (nat_le (times 114 field) 1) (nat_le (times 119 field) 1) (nat_le (times 120 field) 1)
    (times 114 field == 1) (times 119 field == 1) (times 120 field == 1) s.0 r.0 w.0 x.0 r.1 w.1 x.1
  where
    at : (a b c d e f g : Bool) → a ≡ true → b ≡ true → c ≡ true → d ≡ true → e ≡ p.read → f ≡ p.write → g ≡ p.execute →
        cond (a && b && c && d) (Some (record { read = e; write = f; execute = g })) None ≡ Some p
    at a b c d e f g ha hb hc hd he hf hg =
        ap (λ (t : Bool). cond (t && b && c && d) (Some (record { read = e; write = f; execute = g })) None) ha
        ∙ ap (λ (t : Bool). cond (t && c && d) (Some (record { read = e; write = f; execute = g })) None) hb
        ∙ ap (λ (t : Bool). cond (t && d) (Some (record { read = e; write = f; execute = g })) None) hc
        ∙ ap (λ (t : Bool). cond t (Some (record { read = e; write = f; execute = g })) None) hd
        ∙ ap (λ (t : Bool). Some (record { read = t; write = f; execute = g })) he
        ∙ ap (λ (t : Bool). Some (record { read = p.read; write = t; execute = g })) hf
        ∙ ap (λ (t : Bool). Some (record { read = p.read; write = p.write; execute = t })) hg

-- ---- the entry

same_words : (t plain : Tag) (word : List ℕ) → plain_of t ≡ plain → SpellsTag word plain → SpellsTag word t
same_words t plain word h s = at t (subst (SpellsTag word) (sym h) s)
  where
    at : (u : Tag) → SpellsTag word (plain_of u) → SpellsTag word u
    at UserObj s = s
    at User s = s
    at GroupObj s = s
    at Group s = s
    at Mask s = s
    at Other s = s

-- the fields behind the first
pub record Parts (plain : Tag) (rest : List (List ℕ)) (name perms : List ℕ) : Type 0 where
  pub here : (rest ≡ name ∷ perms ∷ []) ⊎ ((rest ≡ perms ∷ []) × (name ≡ []) × (may_leave_out plain ≡ true))

parts_are : (plain : Tag) (rest : List (List ℕ)) (q : List ℕ × List ℕ) → parts_of plain rest ≡ Some q → Parts plain rest q.0 q.1
parts_are plain [] q h = absurd (let k : None ≡ Some q = h in cc)
parts_are plain (a ∷ []) q h =
    let s = if_some (may_leave_out plain) (Some ([], a)) q h in
    let e : ([], a) ≡ q = (let k : Some ([], a) ≡ Some q = s.1 in cc) in
    record { here = inr (ap (λ (v : List ℕ × List ℕ). v.1 ∷ []) e, sym (ap (λ (v : List ℕ × List ℕ). v.0) e), s.0) }
parts_are plain (a ∷ b ∷ []) q h =
    let e : (a, b) ≡ q = (let k : Some (a, b) ≡ Some q = h in cc) in
    record { here = inl (ap (λ (v : List ℕ × List ℕ). v.0 ∷ v.1 ∷ []) e) }
parts_are plain (a ∷ b ∷ c ∷ ds) q h = absurd (let k : None ≡ Some q = h in cc)

spell_fields : (word : List ℕ) (rest : List (List ℕ)) (name perms : List ℕ) (plain : Tag) (e : Entry) →
    SpellsTag word plain → Parts plain rest name perms → Whole plain name e.tag e.name → SpellsPerms perms e.perms → SpellsFields (word ∷ rest) e
spell_fields word rest name perms plain e s parts w p = at parts.here
  where
    at : (rest ≡ name ∷ perms ∷ []) ⊎ ((rest ≡ perms ∷ []) × (name ≡ []) × (may_leave_out plain ≡ true)) → SpellsFields (word ∷ rest) e
    at (inl three) = subst (λ (r : List (List ℕ)). SpellsFields (word ∷ r) e) (sym three) (same_words e.tag plain word w.same_word s, w.is, p)
    at (inr two) =
        subst (λ (r : List (List ℕ)). SpellsFields (word ∷ r) e) (sym two.0)
        (same_words e.tag plain word w.same_word s, subst (λ (t : Tag). IsTrue (may_leave_out t)) (sym (w.left_out two.1)) two.2, p)

read_spells_fields : (n : ℕ) (fs : List (List ℕ)) (e : Entry) → entry_of_fields n fs ≡ Ok e → IsEntry e × SpellsFields fs e
read_spells_fields n [] e h = absurd (let k : Err (BadTag n) ≡ Ok e = h in cc)
read_spells_fields n (word ∷ rest) e h =
    let a = bind_ok (ok_or (type_of word) (BadTag n)) _ e h in
    let b = bind_ok (ok_or (parts_of a.0 rest) (BadPerms n)) _ e a.2 in
    let c = bind_ok (ok_or (qualified a.0 b.0.0) (BadQualifier n)) _ e b.2 in
    let d = bind_ok (ok_or (perms_of b.0.1) (BadPerms n)) _ e c.2 in
    let same : record { tag = c.0.0; name = c.0.1; perms = d.0 } ≡ e = (let k : Ok (record { tag = c.0.0; name = c.0.1; perms = d.0 }) ≡ Ok e = d.2 in cc) in
    let t = typed word a.0 (or_ok (type_of word) (BadTag n) a.0 a.1) in
    let w = whole_of a.0 b.0.0 c.0 t.1 (or_ok (qualified a.0 b.0.0) (BadQualifier n) c.0 c.1) in
    subst (λ (f : Entry). IsEntry f × SpellsFields (word ∷ rest) f) same (
      w.valid,
      spell_fields word rest b.0.0 b.0.1 a.0 (record { tag = c.0.0; name = c.0.1; perms = d.0 }) t.0
          (parts_are a.0 rest b.0 (or_ok (parts_of a.0 rest) (BadPerms n) b.0 b.1)) w (perms_spell b.0.1 d.0 (or_ok (perms_of b.0.1) (BadPerms n) d.0 d.1)),
    )

-- what is read is spelled
pub read_spells : (n : ℕ) (piece : List ℕ) (e : Entry) → entry_of n piece ≡ Ok e → SpellsEntry piece e
read_spells n piece e h = read_spells_fields n (fields piece) e h

in_a_row : (n : ℕ) (word : List ℕ) (rest : List (List ℕ)) (name perms : List ℕ) (e : Entry) → SpellsTag word e.tag → parts_of (plain_of e.tag) rest ≡ Some (name, perms) →
    name ≡ qualifier e → IsEntry e → SpellsPerms perms e.perms → entry_of_fields n (word ∷ rest) ≡ Ok e
in_a_row n word rest name perms e s parts same valid p =
    ap (λ (o : Option Tag). ok_or o (BadTag n) >>= λ plain. ok_or (parts_of plain rest) (BadPerms n) >>= λ q. ok_or (qualified plain q.0) (BadQualifier n) >>= λ whole. ok_or (perms_of q.1) (BadPerms n) >>= λ ps. Ok (record { tag = whole.0; name = whole.1; perms = ps })) (type_spelled word e.tag s)
    ∙ ap (λ (o : Option (List ℕ × List ℕ)). ok_or o (BadPerms n) >>= λ q. ok_or (qualified (plain_of e.tag) q.0) (BadQualifier n) >>= λ whole. ok_or (perms_of q.1) (BadPerms n) >>= λ ps. Ok (record { tag = whole.0; name = whole.1; perms = ps })) parts
    ∙ ap (λ (o : Option (Tag × Option (List ℕ))). ok_or o (BadQualifier n) >>= λ whole. ok_or (perms_of perms) (BadPerms n) >>= λ ps. Ok (record { tag = whole.0; name = whole.1; perms = ps })) (ap (qualified (plain_of e.tag)) same ∙ qualified_spelled e.tag e.name valid)
    ∙ ap (λ (o : Option Perms). ok_or o (BadPerms n) >>= λ ps. Ok (record { tag = e.tag; name = e.name; perms = ps })) (perms_spelled perms e.perms p)

-- where the qualifier is left out there is none
none_left_out : (t : Tag) (o : Option (List ℕ)) → IsTrue (may_leave_out t) → IsTrue (is_qualified t o) → ([] ≡ unwrap_or o []) × (may_leave_out (plain_of t) ≡ true)
none_left_out Mask None l v = (refl, refl)
none_left_out Other None l v = (refl, refl)
none_left_out Mask (Some n) l v = absurd (let k : false ≡ true = v in cc)
none_left_out Other (Some n) l v = absurd (let k : false ≡ true = v in cc)
none_left_out UserObj o l v = absurd (let k : false ≡ true = l in cc)
none_left_out User o l v = absurd (let k : false ≡ true = l in cc)
none_left_out GroupObj o l v = absurd (let k : false ≡ true = l in cc)
none_left_out Group o l v = absurd (let k : false ≡ true = l in cc)

spelled_fields : (n : ℕ) (fs : List (List ℕ)) (e : Entry) → IsEntry e → SpellsFields fs e → entry_of_fields n fs ≡ Ok e
spelled_fields n [] e v s = absurd s
spelled_fields n (word ∷ []) e v s = absurd s
spelled_fields n (word ∷ perms ∷ []) e v s =
    let l = none_left_out e.tag e.name s.1 v in
    in_a_row n word (perms ∷ []) [] perms e s.0 (ap (λ (b : Bool). cond b (Some ([], perms)) None) l.1) l.0 v s.2
spelled_fields n (word ∷ name ∷ perms ∷ []) e v s = in_a_row n word (name ∷ perms ∷ []) name perms e s.0 refl s.1 v s.2
spelled_fields n (word ∷ name ∷ perms ∷ more ∷ rest) e v s = absurd s

-- what is spelled is read
pub spelled_read : (n : ℕ) (piece : List ℕ) (e : Entry) → SpellsEntry piece e → entry_of n piece ≡ Ok e
spelled_read n piece e s = spelled_fields n (fields piece) e s.0 s.1
