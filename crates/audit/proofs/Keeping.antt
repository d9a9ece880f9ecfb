-- Words that are kept of a line are those of the next one of the same act on the same unit.
use Rattle.std.proofs.Common.{◌≡◌, ◌≢◌, ℕ, Bool, true, false, List, ◌++◌, length, Option, None, Some, option_map, slice_get, refl, sym, ap, subst, ◌∙◌, append_assoc}
use Rattle.std.specs.{declared.alloc.Global.{Global}, Prelude.{Box, codes, decimal, nat_eq, Result, Ok, Err, IfSome, IfOk, OnErr}}
use Rattle.std.specs.{Option.{option_and_then, option_map_or, unwrap_or}, Cmp.Lexicographic.{pointwise, bytes_decides}}
use Rattle.std.proofs.lemmas.Option.{slice_get-map, IfSome_then}
use Rattle.mon_access.specs.declared.account.Account.{Account}
use Rattle.mon_catalogue.specs.declared.{mode.Mode.{Mode}, mode.Mode.TheVariants.{Seq, Append}, data_set.DataSet.{DataSet}}
use Rattle.mon_catalogue.specs.{Sets.{Sets, find_set}, Writing.{Change, recorded}, Changes.{with_changed}}
use Rattle.mon_catalogue.proofs.Changed.{other_sets_stay, named_set_changes}
use Rattle.interaction.specs.declared.{request.Act.{Act}, request.Request.{Request}, answer.Answer.{Answer}}
use Rattle.interaction.specs.declared.answer.Answer.TheVariants.{Done, Got, EndOfFile, Denied, Full}
use Rattle.interaction.specs.declared.request.Act.TheVariants as asks
use Rattle.mon_guard.specs.Acting.{left}
use Rattle.mon_unit.specs.declared.{note.NoteAct.{NoteAct}, note.NoteAct.TheVariants.{Read, Write, Endfile, Rewind}, tie.Tie.{Tie}}
use Rattle.mon_unit.specs.declared.{tie.Target.{Target}, tie.Target.TheVariants.{Untied, Data, Spool, Set}, service.UnitService.{UnitService}}
use Rattle.mon_unit.specs.{Tying.{tie_at, tied_to}, Serving.{Reach, set_at, set_of, serve}, Lent.{UnitAnswers, reach_of}}
use Rattle.mon_unit.proofs.{Changed.{effect, changed_at}, Looks.{targets_stay}}
use Rattle.mon_command.specs.{Printouts.{word, number}, Replies.{reason_text}}
use Rattle.audit.specs.{declared.request.AuditedRequest.{AuditedRequest}, declared.cached_line.CachedLine.{CachedLine}, Words.{job_line, target_word}}
use Rattle.audit.specs.{declared.audit_cache.AuditCache.{AuditCache}, Requests.{act_word, place_words, place_in, request_line, grant, asked_of}}
use Rattle.audit.specs.inner.{Parts.{grant_words}, KeptWords.{text_of, head_words, target_words, outcome_words, again_line}}
use Rattle.audit.specs.inner.Keeping.{KeptFits, held, LineFits, Keeps, IsLineOf, named, looked, is_append, appends}

-- THE LINE

regroup : (j n a k b s w u t p o g l : List ℕ)
    → (j ++ n ++ a ++ k ++ b) ++ s ++ (w ++ u ++ t ++ b) ++ p ++ ((o ++ g) ++ l) ≡ j ++ n ++ a ++ (k ++ ((b ++ s) ++ w ++ u ++ t ++ (b ++ p)) ++ o ++ g) ++ l
regroup j n a k b s w u t p o g l = simp append_assoc

tells_with : (a : AuditedRequest) (o g : List ℕ)
    → head_words a.number a.account ++ decimal a.statement ++ target_words a.act a.unit a.target ++ decimal a.place ++ ((o ++ g) ++ codes "\n")
    ≡ job_line a.number a.account (codes " ASKED" ++ place_words a ++ o ++ g)
tells_with a o g =
    regroup (codes "JOB") (number a.number) (word a.account) (codes " ASKED") (codes " ") (decimal a.statement) (word (act_word a.act)) (number a.unit) (word (target_word a.target)) (decimal a.place) o g
    (codes "\n")

tells_by : (a : AuditedRequest) (answer : Answer)
    → head_words a.number a.account ++ decimal a.statement ++ target_words a.act a.unit a.target ++ decimal a.place ++ (outcome_words (grant_words a.grant) answer ++ codes "\n")
    ≡ request_line a answer
tells_by a Done = tells_with a (word (codes "DONE")) (grant_words a.grant)
tells_by a (Got line) = tells_with a (word (codes "GOT")) (grant_words a.grant)
tells_by a EndOfFile = tells_with a (word (codes "EOF")) (grant_words a.grant)
tells_by a Full = tells_with a (word (codes "FULL")) (grant_words a.grant)
tells_by a (Denied reason) = tells_with a (word (codes "DENIED")) (word (reason_text reason))

tells : (a : AuditedRequest) (k : CachedLine) (answer : Answer) → text_of k.head ≡ head_words a.number a.account → text_of k.target ≡ target_words a.act a.unit a.target
    → text_of k.grant ≡ grant_words a.grant → again_line (text_of k.head) a.statement (text_of k.target) a.place (text_of k.grant) answer ≡ request_line a answer
tells a k answer head target grant =
    ap (λ (t : List ℕ). t ++ decimal a.statement ++ text_of k.target ++ decimal a.place ++ (outcome_words (text_of k.grant) answer ++ codes "\n")) head
    ∙ ap (λ (t : List ℕ). head_words a.number a.account ++ decimal a.statement ++ t ++ decimal a.place ++ (outcome_words (text_of k.grant) answer ++ codes "\n")) target
    ∙ ap (λ (t : List ℕ). head_words a.number a.account ++ decimal a.statement ++ target_words a.act a.unit a.target ++ decimal a.place ++ (outcome_words t answer ++ codes "\n")) grant
    ∙ tells_by a answer

-- WHAT IT SAYS

reads_look : (u : ℕ) (t : Target) → set_at (asks.Read u) t ≡ named t
reads_look u Untied = refl
reads_look u Data = refl
reads_look u Spool = refl
reads_look u (Set name) = refl

writes_look : (u : ℕ) (line : List ℕ) (t : Target) → set_at (asks.Write u line) t ≡ named t
writes_look u line Untied = refl
writes_look u line Data = refl
writes_look u line Spool = refl
writes_look u line (Set name) = refl

abbrev found : Sets → Option (List ℕ) → Option DataSet
found sets name = option_and_then (λ n. find_set n sets) name

-- the place is the unit's position
abbrev told_place : NoteAct → ℕ → Option DataSet → ℕ
told_place act p set = option_map_or (λ s. place_in act s.mode (length s.records) p) set p

place_by : (m : Mode) (r p : ℕ) → is_append m ≡ false → place_in Write m r p ≡ p
place_by Seq r p e = refl
place_by Append r p e = absurd cc

write_place : (set : Option DataSet) (p : ℕ) → appends Write set ≡ false → told_place Write p set ≡ p
write_place None p e = refl
write_place (Some s) p e = place_by s.mode (length s.records) p e

read_place : (set : Option DataSet) (p : ℕ) → told_place Read p set ≡ p
read_place None p = refl
read_place (Some s) p = refl

is_tie : (o : Option Tie) (tie : Tie) → o ≡ Some tie → unwrap_or o (tied_to Untied) ≡ tie
is_tie o tie is = ap (λ (x : Option Tie). unwrap_or x (tied_to Untied)) is

-- WHAT STAYS

target_at : (o : Option Tie) → (unwrap_or o (tied_to Untied)).target ≡ unwrap_or (option_map (λ (t : Tie). t.target) o) Untied
target_at None = refl
target_at (Some tie) = refl

target_stays : (account : Account) (reach : Reach) (q : Request) (u : ℕ) → (tie_at (serve account reach q).1.units u).target ≡ (tie_at reach.units u).target
target_stays account reach q u =
    target_at (slice_get (serve account reach q).1.units.ties u)
    ∙ ap (λ (o : Option Target). unwrap_or o Untied)
    (sym (slice_get-map (λ (t : Tie). t.target) (serve account reach q).1.units.ties u) ∙ ap (λ (l : List Target). slice_get l u) (targets_stay account reach q)
    ∙ slice_get-map (λ (t : Tie). t.target) reach.units.ties u)
    ∙ sym (target_at (slice_get reach.units.ties u))

-- a data set is left as a change of its records leaves it
as_it_was : (o : Option DataSet) → o ≡ option_map (left None) o
as_it_was None = refl
as_it_was (Some set) = refl

as_changed : (c : Change) (o : Option DataSet) → option_map (recorded c) o ≡ option_map (left (Some c)) o
as_changed c None = refl
as_changed c (Some set) = refl

set_after : (name : List ℕ) (o : Option (List ℕ)) (c : Option Change) (sets : Sets) → (d : Option Change) × (find_set name (changed_at o c sets) ≡ option_map (left d) (find_set name sets))
set_after name None c sets = (None, as_it_was (find_set name sets))
set_after name (Some n) None sets = (None, as_it_was (find_set name sets))
set_after name (Some n) (Some c) sets = by (pointwise nat_eq name n) refl
  where
    by : (b : Bool) → pointwise nat_eq name n ≡ b → (d : Option Change) × (find_set name (with_changed n (recorded c) sets) ≡ option_map (left d) (find_set name sets))
    by true e = (
      Some c,
      subst (λ (m : List ℕ). find_set name (with_changed m (recorded c) sets) ≡ option_map (left (Some c)) (find_set name sets)) ((bytes_decides name n).0 e)
          ((named_set_changes name sets (recorded c)).1 ∙ as_changed c (find_set name sets)),
    )
    by false e =
        let differ : name ≢ n = λ q. (let no : false ≡ true = sym e ∙ (bytes_decides name n).1 q in absurd cc) in
        (None, (other_sets_stay n name sets (recorded c) differ).1 ∙ as_it_was (find_set name sets))

found_after : (name o : Option (List ℕ)) (c : Option Change) (sets : Sets) → (d : Option Change) × (found (changed_at o c sets) name ≡ option_map (left d) (found sets name))
found_after None o c sets = (None, refl)
found_after (Some name) o c sets = set_after name o c sets

looked_after : (account : Account) (reach : Reach) (q : Request) (u : ℕ) → (d : Option Change) × (looked (serve account reach q).1 u ≡ option_map (left d) (looked reach u))
looked_after account reach q u =
    let there = found_after (named (tie_at reach.units u).target) (set_of reach.units q) (effect account reach.units q (found reach.sets (set_of reach.units q))).change reach.sets in
    (there.0, ap (λ (t : Target). found (serve account reach q).1.sets (named t)) (target_stays account reach q u) ∙ there.1)

same_grant : (account : Account) (act : NoteAct) (d : Option Change) (o : Option DataSet) → option_and_then (grant account act) (option_map (left d) o) ≡ option_and_then (grant account act) o
same_grant account act d None = refl
same_grant account act None (Some set) = refl
same_grant account act (Some c) (Some set) = refl

same_mode : (act : NoteAct) (d : Option Change) (o : Option DataSet) → appends act (option_map (left d) o) ≡ appends act o
same_mode Write d None = refl
same_mode Write None (Some set) = refl
same_mode Write (Some c) (Some set) = refl
same_mode Read d o = refl
same_mode Endfile d o = refl
same_mode Rewind d o = refl

-- so a line that fits goes on fitting
line_after : (n : ℕ) (account : Account) (reach : Reach) (q : Request) (act : NoteAct) (u : ℕ) (k : CachedLine) → LineFits n account reach act u k → LineFits n account (serve account reach q).1 act u k
line_after n account reach q act u k fits =
    let there = looked_after account reach q u in
    record {
      head = fits.head;
      target = fits.target ∙ ap (target_words act u) (sym (target_stays account reach q u));
      grant = fits.grant ∙ ap grant_words (sym (ap (option_and_then (grant account act)) there.1 ∙ same_grant account act there.0 (looked reach u)));
      moves = ap (appends act) there.1 ∙ same_mode act there.0 (looked reach u) ∙ fits.moves;
    }

after : (n : ℕ) (account : Account) (reach : Reach) (q : Request) (kept : AuditCache) → KeptFits n account reach kept → KeptFits n account (serve account reach q).1 kept
after n account reach q kept fits =
    (IfSome_then (held kept.read) fits.0 (λ k. line_after n account reach q Read k.unit k), IfSome_then (held kept.write) fits.1 (λ k. line_after n account reach q Write k.unit k))

-- what fits where a request is served, in the terms of who serves it
reached : (n : ℕ) (s t : UnitService) (q : Request) (answer : Answer) (kept : AuditCache) → UnitAnswers s q answer t
    → KeptFits n s.account.now (serve s.account.now (reach_of s) q).1 kept → KeptFits n t.account.now (reach_of t) kept
reached n s t q answer kept served fits =
    subst (λ (a : Account). KeptFits n a (reach_of t) kept) (sym (ap (λ x. x.now) served.0.account))
    (subst (λ (r : Reach). KeptFits n s.account.now r kept) (ap (λ (p : Answer × Reach). p.1) served.1) fits)

-- what is kept stays that of the lines to come,
pub kept_after : (n : ℕ) (s t : UnitService) (q : Request) (answer : Answer) (kept : AuditCache) → UnitAnswers s q answer t
    → KeptFits n s.account.now (reach_of s) kept → KeptFits n t.account.now (reach_of t) kept
kept_after n s t q answer kept served fits = reached n s t q answer kept served (after n s.account.now (reach_of s) q kept fits)

pub kept_either : {E : Type 0} (n : ℕ) (s t : UnitService) (q : Request) (kept : AuditCache) (r : Result Answer E) → IfOk r (λ answer. UnitAnswers s q answer t) → OnErr r (t ≡ s)
    → KeptFits n s.account.now (reach_of s) kept → KeptFits n t.account.now (reach_of t) kept
kept_either n s t q kept (Ok answer) served same fits = kept_after n s t q answer kept served fits
kept_either n s t q kept (Err error) served same fits = subst (λ (u : UnitService). KeptFits n u.account.now (reach_of u) kept) (sym same) fits

-- WHAT IS NEW

-- the words of what was asked fit
new_line : (n : ℕ) (account : Account) (reach : Reach) (q : Request) (act : NoteAct) (u : ℕ) (set : Option (List ℕ)) (k : CachedLine) → set ≡ named (tie_at reach.units u).target
    → k.unit ≡ u → text_of k.head ≡ head_words n account.name → text_of k.target ≡ target_words act u (tie_at reach.units u).target
    → text_of k.grant ≡ grant_words (option_and_then (grant account act) (found reach.sets set)) → appends act (found (serve account reach q).1.sets (named (tie_at reach.units u).target)) ≡ false
    → LineFits n account (serve account reach q).1 act k.unit k
new_line n account reach q act u set k looks unit head target granted moves =
    let there = looked_after account reach q u in
    subst (λ (v : ℕ). LineFits n account (serve account reach q).1 act v k) (sym unit) (record {
      head = head;
      target = target ∙ ap (target_words act u) (sym (target_stays account reach q u));
      grant = granted ∙ ap (λ (name : Option (List ℕ)). grant_words (option_and_then (grant account act) (found reach.sets name))) looks
          ∙ ap grant_words (sym (ap (option_and_then (grant account act)) there.1 ∙ same_grant account act there.0 (looked reach u)));
      moves = ap (λ (t : Target). appends act (found (serve account reach q).1.sets (named t))) (target_stays account reach q u) ∙ moves;
    })

new_fits : (n : ℕ) (account : Account) (reach : Reach) (statement : ℕ) (act : Act) (old new : AuditCache) → let q : Request = record { statement = statement; act = act } in
    KeptFits n account (serve account reach q).1 old → Keeps (asked_of n account reach q) (serve account reach q).1.sets old new → KeptFits n account (serve account reach q).1 new
new_fits n account reach statement (asks.Read u) old new fits keeps =
    let q : Request = record { statement = statement; act = asks.Read u } in (
      IfSome_then (held new.read) keeps.0 (λ k is. new_line n account reach q Read u _ k (reads_look u (tie_at reach.units u).target) is.0.unit is.0.head is.0.target is.0.grant is.1),
      subst (λ (o : Option (Box CachedLine Global)). IfSome (held o) (λ k. LineFits n account (serve account reach q).1 Write k.unit k)) (sym keeps.1) fits.1,
    )
new_fits n account reach statement (asks.Write u line) old new fits keeps =
    let q : Request = record { statement = statement; act = asks.Write u line } in (
      subst (λ (o : Option (Box CachedLine Global)). IfSome (held o) (λ k. LineFits n account (serve account reach q).1 Read k.unit k)) (sym keeps.0) fits.0,
      IfSome_then (held new.write) keeps.1 (λ k is. new_line n account reach q Write u _ k (writes_look u line (tie_at reach.units u).target) is.0.unit is.0.head is.0.target is.0.grant is.1),
    )
new_fits n account reach statement (asks.Endfile u) old new fits keeps =
    let q : Request = record { statement = statement; act = asks.Endfile u } in (
      subst (λ (o : Option (Box CachedLine Global)). IfSome (held o) (λ k. LineFits n account (serve account reach q).1 Read k.unit k)) (sym keeps.0) fits.0,
      subst (λ (o : Option (Box CachedLine Global)). IfSome (held o) (λ k. LineFits n account (serve account reach q).1 Write k.unit k)) (sym keeps.1) fits.1,
    )
new_fits n account reach statement (asks.Rewind u) old new fits keeps =
    let q : Request = record { statement = statement; act = asks.Rewind u } in (
      subst (λ (o : Option (Box CachedLine Global)). IfSome (held o) (λ k. LineFits n account (serve account reach q).1 Read k.unit k)) (sym keeps.0) fits.0,
      subst (λ (o : Option (Box CachedLine Global)). IfSome (held o) (λ k. LineFits n account (serve account reach q).1 Write k.unit k)) (sym keeps.1) fits.1,
    )

pub kept_new : (n m : ℕ) (s t : UnitService) (q : Request) (answer : Answer) (asked : AuditedRequest) (old new : AuditCache) → UnitAnswers s q answer t
    → KeptFits n s.account.now (reach_of s) old → asked ≡ asked_of n s.account.now (reach_of s) q → Keeps asked t.catalogue.now old new → m ≡ n → KeptFits m t.account.now (reach_of t) new
kept_new n m s t q answer asked old new served fits is keeps same =
    subst (λ (x : ℕ). KeptFits x t.account.now (reach_of t) new) (sym same)
    (reached n s t q answer new served
    (new_fits n s.account.now (reach_of s) q.statement q.act old new (after n s.account.now (reach_of s) q old fits)
    (subst (λ (sets : Sets). Keeps (asked_of n s.account.now (reach_of s) q) sets old new) (sym (ap (λ (p : Answer × Reach). p.1.sets) served.1))
    (subst (λ (a : AuditedRequest). Keeps a t.catalogue.now old new) is keeps))))

-- WHAT IS KNOWN

line_of : (o : Option CachedLine) (k : CachedLine) (P : CachedLine → Type 0) → o ≡ Some k → IfSome o P → P k
line_of o k P is has = subst (λ (x : Option CachedLine). IfSome x P) is has

known_read : (n : ℕ) (account : Account) (reach : Reach) (u statement : ℕ) (k : CachedLine) (tie : Tie) (answer : Answer) → k.unit ≡ u → LineFits n account reach Read k.unit k
    → slice_get reach.units.ties k.unit ≡ Some tie → again_line (text_of k.head) statement (text_of k.target) tie.position (text_of k.grant) answer ≡ request_line (asked_of n account reach (record { statement = statement; act = asks.Read u })) answer
known_read n account reach u statement k tie answer unit fits is =
    let q : Request = record { statement = statement; act = asks.Read k.unit } in
    let looks = reads_look k.unit (tie_at reach.units k.unit).target in
    let here : again_line (text_of k.head) statement (text_of k.target) tie.position (text_of k.grant) answer ≡ request_line (asked_of n account reach q) answer =
    ap (λ (p : ℕ). again_line (text_of k.head) statement (text_of k.target) p (text_of k.grant) answer) (ap (λ (t : Tie). t.position) (sym (is_tie (slice_get reach.units.ties k.unit) tie is)) ∙ sym (read_place (found reach.sets (set_at (asks.Read k.unit) (tie_at reach.units k.unit).target)) (tie_at reach.units k.unit).position))
    ∙ tells (asked_of n account reach q) k answer fits.head fits.target
    (fits.grant ∙ ap (λ (name : Option (List ℕ)). grant_words (option_and_then (grant account Read) (found reach.sets name))) (sym looks)) in
    subst (λ (v : ℕ). again_line (text_of k.head) statement (text_of k.target) tie.position (text_of k.grant) answer ≡ request_line (asked_of n account reach (record { statement = statement; act = asks.Read v })) answer) unit here

known_write : (n : ℕ) (account : Account) (reach : Reach) (u statement : ℕ) (line : List ℕ) (k : CachedLine) (tie : Tie) (answer : Answer) → k.unit ≡ u → LineFits n account reach Write k.unit k
    → slice_get reach.units.ties k.unit ≡ Some tie → again_line (text_of k.head) statement (text_of k.target) tie.position (text_of k.grant) answer ≡ request_line (asked_of n account reach (record { statement = statement; act = asks.Write u line })) answer
known_write n account reach u statement line k tie answer unit fits is =
    let q : Request = record { statement = statement; act = asks.Write k.unit line } in
    let looks = writes_look k.unit line (tie_at reach.units k.unit).target in
    let there = found reach.sets (set_at (asks.Write k.unit line) (tie_at reach.units k.unit).target) in
    let here : again_line (text_of k.head) statement (text_of k.target) tie.position (text_of k.grant) answer ≡ request_line (asked_of n account reach q) answer =
    ap (λ (p : ℕ). again_line (text_of k.head) statement (text_of k.target) p (text_of k.grant) answer) (ap (λ (t : Tie). t.position) (sym (is_tie (slice_get reach.units.ties k.unit) tie is))
    ∙ sym (write_place there (tie_at reach.units k.unit).position (ap (λ (name : Option (List ℕ)). appends Write (found reach.sets name)) looks ∙ fits.moves)))
    ∙ tells (asked_of n account reach q) k answer fits.head fits.target
    (fits.grant ∙ ap (λ (name : Option (List ℕ)). grant_words (option_and_then (grant account Write) (found reach.sets name))) (sym looks)) in
    subst (λ (v : ℕ). again_line (text_of k.head) statement (text_of k.target) tie.position (text_of k.grant) answer ≡ request_line (asked_of n account reach (record { statement = statement; act = asks.Write v line })) answer) unit here

pub known : (n : ℕ) (account : Account) (reach : Reach) (kept : AuditCache) (act : Act) (k : CachedLine) (tie : Tie) → KeptFits n account reach kept → IsLineOf kept act k
    → slice_get reach.units.ties k.unit ≡ Some tie → (statement : ℕ) (answer : Answer)
    → again_line (text_of k.head) statement (text_of k.target) tie.position (text_of k.grant) answer ≡ request_line (asked_of n account reach (record { statement = statement; act = act })) answer
known n account reach kept (asks.Read u) k tie fits of is statement answer =
    known_read n account reach u statement k tie answer of.1 (line_of (held kept.read) k (λ k. LineFits n account reach Read k.unit k) of.0 fits.0) is
known n account reach kept (asks.Write u line) k tie fits of is statement answer =
    known_write n account reach u statement line k tie answer of.1 (line_of (held kept.write) k (λ k. LineFits n account reach Write k.unit k) of.0 fits.1) is
known n account reach kept (asks.Endfile u) k tie fits of is statement answer = absurd of
known n account reach kept (asks.Rewind u) k tie fits of is statement answer = absurd of
