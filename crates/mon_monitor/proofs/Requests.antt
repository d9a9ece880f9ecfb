-- One request of a job, where what may differ is what its account may not see.
use Rattle.std.proofs.Common.{◌≡◌, ℕ, ◌+◌, zero, suc, true, nat_le, if◌then◌else◌, List, [], ◌∷◌, ◌++◌, length, length-append, Option, Some, None, option_map, refl, ap, sym, ◌∙◌, subst, inl, inr, ◌⊎◌, slice_get, slice_set}
use Rattle.mon_monitor.proofs.Common.{Perms, Account, Decision, Mode, Seq, Append, DataSet, SetFull, Sets, find_set, Change, Put, Cut, Add, writing, recorded, change_refusal, named_set_changes, Denied, Full, reason_of, to_write, decision_on, is_granted, by_decision, ended, or_denied, Acted, only_answered, read_at, changing, left, changed, Act, Read, Write, Endfile, Rewind, Request, Target, Untied, Data, Spool, Set, Tie, NoteAct, NoteTarget, UnitState, tie_at, Reach, unit_of, note_act, note_target, moved, on_set, acted_at, set_at, set_of, serve, Effect, effect_of, effect, changed_at, Same, serve_alike, LooksAlike, Both, TiesFit, RequestAgrees, RequestsAgree, or_untied, looked, made, to_read, Answer}
use Rattle.mon_acl.specs.declared.entries.Entry.{Entry}
use Rattle.mon_access.specs.declared.access.Decision.TheVariants as decision
use Rattle.mon_access.specs.AccessCheck.{decision as access_check}
use Rattle.interaction.specs.declared.answer.Reason.TheVariants.{Mode as WrongMode}
use Rattle.interaction.specs.declared.answer.Answer.TheVariants as answer
use Rattle.mon_unit.specs.Serving.{noted, spooled}
use Rattle.mon_monitor.proofs.Finding.{BothFound, found_both, both_changed}

abbrev with_records : List (List ℕ) → DataSet → DataSet
with_records records set = record set { records = records }

pub like_itself : (account : Account) (d : DataSet) → LooksAlike account d d
like_itself account d = record {
  owner = refl;
  group = refl;
  mode = refl;
  acl = refl;
  owned = λ h. refl;
  read = λ h. refl;
  counted = λ h. refl;
  added = λ m h. refl;
}

alike_as_same : (account : Account) (d e : DataSet) → d ≡ e → LooksAlike account d e
alike_as_same account d e same = subst (λ (z : DataSet). LooksAlike account d z) same (like_itself account d)

-- what an act on one set comes to in both: it leaves them alike, and the same where the position moves
record OneAct (account : Account) (d e : DataSet) (x y : Acted) : Type 0 where
  pub act : x ≡ y
  pub alike : LooksAlike account (left x.change d) (left x.change e)
  pub moves : (p : ℕ) → x.position ≡ Some p → left x.change d ≡ left x.change e

module _ (account : Account) (d e : DataSet) (l : LooksAlike account d e) where
  pub decided_alike : (request : Perms) → decision_on account d request ≡ decision_on account e request
  decided_alike request =
      ap (λ (o : List ℕ). access_check account o d.group d.acl request) l.owner
      ∙ ap (λ (g : List ℕ). access_check account e.owner g d.acl request) l.group
      ∙ ap (λ (acl : List Entry). access_check account e.owner e.group acl request) l.acl

  with_alike : (records : List (List ℕ)) → with_records records d ≡ with_records records e
  with_alike records =
      ap (λ (o : List ℕ). let x : DataSet = record { owner = o; group = d.group; mode = d.mode; acl = d.acl; records = records } in x) l.owner
      ∙ ap (λ (g : List ℕ). let x : DataSet = record { owner = e.owner; group = g; mode = d.mode; acl = d.acl; records = records } in x) l.group
      ∙ ap (λ (m : Mode). let x : DataSet = record { owner = e.owner; group = e.group; mode = m; acl = d.acl; records = records } in x) l.mode
      ∙ ap (λ (acl : List Entry). let x : DataSet = record { owner = e.owner; group = e.group; mode = e.mode; acl = acl; records = records } in x) l.acl

  same_set : d.records ≡ e.records → d ≡ e
  same_set same = with_alike d.records ∙ ap (λ (r : List (List ℕ)). with_records r e) same

  -- nothing is done
  told_alone : (x : Acted) → x.change ≡ None → x.position ≡ None → OneAct account d e x x
  told_alone x none still = record {
    act = refl;
    alike = subst (λ (c : Option Change). LooksAlike account (left c d) (left c e)) (sym none) l;
    moves = λ p h. (let no : None ≡ Some p = sym still ∙ h in absurd cc);
  }

  -- both are left the same
  left_same : (x : Acted) → left x.change d ≡ left x.change e → OneAct account d e x x
  left_same x same = record { act = refl; alike = alike_as_same account (left x.change d) (left x.change e) same; moves = λ p h. same }

  -- what is decided is decided in both
  by_check : (request : Perms) (x y : Acted) → (is_granted (decision_on account d request) ≡ true → OneAct account d e x y)
      → OneAct account d e (or_denied (by_decision d.acl (decision_on account d request) x)) (or_denied (by_decision e.acl (decision_on account e request) y))
  by_check request x y granted =
      subst (λ (k : Decision). OneAct account d e (or_denied (by_decision d.acl (decision_on account d request) x)) (or_denied (by_decision e.acl k y))) (decided_alike request)
      (subst (λ (acl : List Entry). OneAct account d e (or_denied (by_decision d.acl (decision_on account d request) x)) (or_denied (by_decision acl (decision_on account d request) y))) l.acl
      (by (decision_on account d request) refl))
    where
      by : (k : Decision) → decision_on account d request ≡ k → OneAct account d e (or_denied (by_decision d.acl k x)) (or_denied (by_decision d.acl k y))
      by decision.Granted is = granted (ap is_granted is)
      by (decision.Denied r) is = told_alone (only_answered (Denied (reason_of d.acl r))) refl refl

  -- at the first record
  reads_alike : (u : ℕ) → OneAct account d e (on_set account (Read u) 0 (Some d)) (on_set account (Read u) 0 (Some e))
  reads_alike u = by_check to_read (read_at 0 (slice_get d.records 0)) (read_at 0 (slice_get e.records 0)) (λ granted.
      let same = l.read granted in
      subst (λ (r : List (List ℕ)). OneAct account d e (read_at 0 (slice_get d.records 0)) (read_at 0 (slice_get r 0))) same
      (left_same (read_at 0 (slice_get d.records 0)) (ap (left (read_at 0 (slice_get d.records 0)).change) (same_set same))))

  -- a line more at the end
  added_alike : (line : List ℕ) → length d.records ≡ length e.records → LooksAlike account (recorded (Add line) d) (recorded (Add line) e)
  added_alike line many = record {
    owner = l.owner;
    group = l.group;
    mode = l.mode;
    acl = l.acl;
    owned = λ own. ap (λ (r : List (List ℕ)). r ++ line ∷ []) (l.owned own);
    read = λ granted. ap (λ (r : List (List ℕ)). r ++ line ∷ []) (l.read granted);
    counted = λ granted. longer;
    added = λ is granted. longer;
  }
    where
      longer : length (d.records ++ line ∷ []) ≡ length (e.records ++ line ∷ [])
      longer = length-append d.records (line ∷ []) ∙ ap (λ (n : ℕ). n + 1) many ∙ sym (length-append e.records (line ∷ []))

  adds_alike : (line : List ℕ) → length d.records ≡ length e.records → OneAct account d e (changing (Add line) d.records) (changing (Add line) e.records)
  adds_alike line many =
      subst (λ (o : Option SetFull). OneAct account d e (changing (Add line) d.records) (made (Add line) e.records o))
      (ap (λ (n : ℕ). if nat_le 100000 n then Some (record {}) else None) many) (by (change_refusal (Add line) d.records))
    where
      by : (o : Option SetFull) → OneAct account d e (made (Add line) d.records o) (made (Add line) e.records o)
      by None = record { act = refl; alike = added_alike line many; moves = λ p h. absurd cc }
      by (Some full) = told_alone (only_answered Full) refl refl

  writes_alike : (u : ℕ) (line : List ℕ) → OneAct account d e (on_set account (Write u line) 0 (Some d)) (on_set account (Write u line) 0 (Some e))
  writes_alike u line = by_check to_write (changing (writing d.mode 0 line) d.records) (changing (writing e.mode 0 line) e.records) (λ granted.
      subst (λ (m : Mode). OneAct account d e (changing (writing d.mode 0 line) d.records) (changing (writing m 0 line) e.records)) l.mode (by granted d.mode refl))
    where
      by : is_granted (decision_on account d to_write) ≡ true → (m : Mode) → d.mode ≡ m
          → OneAct account d e (changing (writing m 0 line) d.records) (changing (writing m 0 line) e.records)
      by granted Seq is = left_same (changing (Put 0 line) d.records) (with_alike (line ∷ []))
      by granted Append is = adds_alike line (l.added is granted)

  ends_alike : (u : ℕ) → OneAct account d e (on_set account (Endfile u) 0 (Some d)) (on_set account (Endfile u) 0 (Some e))
  ends_alike u = by_check to_write (ended d.mode 0 d.records) (ended e.mode 0 e.records) (λ granted.
      subst (λ (m : Mode). OneAct account d e (ended d.mode 0 d.records) (ended m 0 e.records)) l.mode (by d.mode))
    where
      by : (m : Mode) → OneAct account d e (ended m 0 d.records) (ended m 0 e.records)
      by Seq = left_same (changing (Cut 0) d.records) (with_alike [])
      by Append = told_alone (only_answered (Denied WrongMode)) refl refl

-- what an act comes to in both, on the sets of one name
record OneEffect (account : Account) (o k : Option DataSet) (x y : Acted) : Type 0 where
  pub act : x ≡ y
  pub alike : (d e : DataSet) → o ≡ Some d → k ≡ Some e → LooksAlike account (left x.change d) (left x.change e)
  pub moves : (p : ℕ) → x.position ≡ Some p → (p ≡ 0) ⊎ (option_map (left x.change) o ≡ option_map (left x.change) k)

module _ (account : Account) where
  one_effect : (d e : DataSet) (x y : Acted) → OneAct account d e x y → OneEffect account (Some d) (Some e) x y
  one_effect d e x y h = record {
    act = h.act;
    alike = λ a b da eb.
        let one : d ≡ a = cc (da) in
        let other : e ≡ b = cc (eb) in
        subst (λ (z : DataSet). LooksAlike account (left x.change z) (left x.change b)) one
        (subst (λ (z : DataSet). LooksAlike account (left x.change d) (left x.change z)) other h.alike);
    moves = λ p is. inr (ap (λ (z : DataSet). Some z) (h.moves p is));
  }

  -- nothing is there in both
  none_there : (x : Acted) → OneEffect account None None x x
  none_there x = record { act = refl; alike = λ a b da eb. absurd cc; moves = λ p is. inr refl }

  at_start : (act : Act) (d e : DataSet) → LooksAlike account d e → OneEffect account (Some d) (Some e) (on_set account act 0 (Some d)) (on_set account act 0 (Some e))
  at_start (Rewind u) d e l = record {
    act = refl;
    alike = λ a b da eb.
        let one : d ≡ a = cc (da) in
        let other : e ≡ b = cc (eb) in
        subst (λ (z : DataSet). LooksAlike account z b) one (subst (λ (z : DataSet). LooksAlike account d z) other l);
    moves = λ p is. inl (cc (is));
  }
  at_start (Read u) d e l = one_effect d e (on_set account (Read u) 0 (Some d)) (on_set account (Read u) 0 (Some e)) (reads_alike account d e l u)
  at_start (Write u line) d e l = one_effect d e (on_set account (Write u line) 0 (Some d)) (on_set account (Write u line) 0 (Some e)) (writes_alike account d e l u line)
  at_start (Endfile u) d e l = one_effect d e (on_set account (Endfile u) 0 (Some d)) (on_set account (Endfile u) 0 (Some e)) (ends_alike account d e l u)

  no_set : (act : Act) (p : ℕ) → OneEffect account None None (on_set account act p None) (on_set account act p None)
  no_set act p = none_there (on_set account act p None)

  met_alike : (act : Act) (o k : Option DataSet) → BothFound (LooksAlike account) o k → OneEffect account o k (on_set account act 0 o) (on_set account act 0 k)
  met_alike act None None h = no_set act 0
  met_alike act None (Some e) h = absurd h
  met_alike act (Some d) None h = absurd h
  met_alike act (Some d) (Some e) h = at_start act d e h

  met_same : (act : Act) (p : ℕ) (o k : Option DataSet) → o ≡ k → OneEffect account o k (on_set account act p o) (on_set account act p k)
  met_same act p o k same =
      let x = on_set account act p o in
      record {
        act = ap (on_set account act p) same;
        alike = λ d e od ke. (let one : d ≡ e = cc (od, ke, same) in alike_as_same account (left x.change d) (left x.change e) (ap (left x.change) one));
        moves = λ n is. inr (ap (option_map (left x.change)) same);
      }

  -- wherever the unit stands
  met : (act : Act) (p : ℕ) (o k : Option DataSet) → BothFound (LooksAlike account) o k → (p ≡ 0) ⊎ (o ≡ k)
      → OneEffect account o k (on_set account act p o) (on_set account act p k)
  met act p o k h fit = elim fit [
    | inl start ↦ subst (λ (n : ℕ). OneEffect account o k (on_set account act n o) (on_set account act n k)) (sym start) (met_alike act o k h)
    | inr same ↦ met_same act p o k same
  ]

  -- the set of the name, as the change leaves it
  as_left : (n : List ℕ) (change : Option Change) (sets : Sets) → find_set n (changed n change sets) ≡ option_map (left change) (find_set n sets)
  as_left n None sets = by (find_set n sets)
    where
      by : (o : Option DataSet) → o ≡ option_map (λ (d : DataSet). d) o
      by None = refl
      by (Some d) = refl
  as_left n (Some c) sets = (named_set_changes n sets (recorded c)).1

  module _ (sets others : Sets) (alike : Both (LooksAlike account) sets others) where
    both_after : (n : List ℕ) (change : Option Change)
        → ((d e : DataSet) → find_set n sets ≡ Some d → find_set n others ≡ Some e → LooksAlike account (left change d) (left change e))
        → Both (LooksAlike account) (changed n change sets) (changed n change others)
    both_after n None each = alike
    both_after n (Some c) each = both_changed (LooksAlike account) (recorded c) n sets others (λ d e is is' l. each d e is is') alike

    -- what the act of a request comes to, by what its unit is tied to
    record AtTarget (act : Act) (units : UnitState) (p : ℕ) (g : Target) : Type 0 where
      pub acted : acted_at account act units p g (looked (set_at act g) sets) ≡ acted_at account act units p g (looked (set_at act g) others)
      pub both : Both (LooksAlike account) (changed_at (set_at act g) (acted_at account act units p g (looked (set_at act g) sets)).change sets)
          (changed_at (set_at act g) (acted_at account act units p g (looked (set_at act g) sets)).change others)
      pub moves : (name : List ℕ) → g ≡ Set name → (n : ℕ) → (acted_at account act units p g (looked (set_at act g) sets)).position ≡ Some n
          → (n ≡ 0) ⊎ Same name (changed_at (set_at act g) (acted_at account act units p g (looked (set_at act g) sets)).change sets)
          (changed_at (set_at act g) (acted_at account act units p g (looked (set_at act g) sets)).change others)

    module _ (name : List ℕ) (x y : Acted) (one : OneEffect account (find_set name sets) (find_set name others) x y) where
      of_one : (other : List ℕ) → Set name ≡ Set other → (n : ℕ) → x.position ≡ Some n
          → (n ≡ 0) ⊎ Same other (changed name x.change sets) (changed name x.change others)
      of_one other is n h =
          let same : name ≡ other = cc (is) in
          subst (λ (k : List ℕ). (n ≡ 0) ⊎ Same k (changed name x.change sets) (changed name x.change others)) same
          (elim (one.moves n h) [
            | inl z ↦ inl z
            | inr f ↦ inr (as_left name x.change sets ∙ f ∙ sym (as_left name x.change others))
          ])

    at_target : (act : Act) (units : UnitState) (p : ℕ) (g : Target) → ((name : List ℕ) → g ≡ Set name → (p ≡ 0) ⊎ Same name sets others) → AtTarget act units p g
    at_target act units p Untied fit = record { acted = refl; both = alike; moves = λ name is. absurd cc }
    at_target act units p Data fit = record { acted = refl; both = alike; moves = λ name is. absurd cc }
    at_target act units p Spool fit = record { acted = refl; both = alike; moves = λ name is. absurd cc }
    at_target (Rewind u) units p (Set name) fit = record { acted = refl; both = alike; moves = λ other is n h. inl (cc (h)) }
    at_target (Read u) units p (Set name) fit =
        let one = met (Read u) p (find_set name sets) (find_set name others) (found_both (LooksAlike account) name sets others alike) (fit name refl) in
        record {
          acted = one.act;
          both = both_after name (on_set account (Read u) p (find_set name sets)).change one.alike;
          moves = of_one name (on_set account (Read u) p (find_set name sets)) (on_set account (Read u) p (find_set name others)) one;
        }
    at_target (Write u line) units p (Set name) fit =
        let one = met (Write u line) p (find_set name sets) (find_set name others) (found_both (LooksAlike account) name sets others alike) (fit name refl) in
        record {
          acted = one.act;
          both = both_after name (on_set account (Write u line) p (find_set name sets)).change one.alike;
          moves = of_one name (on_set account (Write u line) p (find_set name sets)) (on_set account (Write u line) p (find_set name others)) one;
        }
    at_target (Endfile u) units p (Set name) fit =
        let one = met (Endfile u) p (find_set name sets) (find_set name others) (found_both (LooksAlike account) name sets others alike) (fit name refl) in
        record {
          acted = one.act;
          both = both_after name (on_set account (Endfile u) p (find_set name sets)).change one.alike;
          moves = of_one name (on_set account (Endfile u) p (find_set name sets)) (on_set account (Endfile u) p (find_set name others)) one;
        }

pub ties_stay : (sets others after after' : Sets) (units : UnitState) → ((n : List ℕ) → Same n sets others → Same n after after')
    → TiesFit sets others units → TiesFit after after' units
ties_stay sets others after after' units same fits = λ u tie name is tied. elim (fits u tie name is tied) [ inl z ↦ inl z | inr h ↦ inr (same name h) ]

-- the ties after a request
pub get_after_set : {A : Type 0} (xs : List A) (i j : ℕ) (x y : A) → slice_get (slice_set xs i x) j ≡ Some y → (slice_get xs j ≡ Some y) ⊎ (y ≡ x)
get_after_set [] i j x y h = inl h
get_after_set (z ∷ xs) zero zero x y h = inr (cc (h))
get_after_set (z ∷ xs) zero (suc j) x y h = inl h
get_after_set (z ∷ xs) (suc i) zero x y h = inl h
get_after_set (z ∷ xs) (suc i) (suc j) x y h = get_after_set xs i j x y h

noted_ties : (k : ℕ) (act : NoteAct) (of : NoteTarget) (a : Answer) (units : UnitState) → (noted k act of a units).ties ≡ units.ties
noted_ties k act of (answer.Denied reason) units = refl
noted_ties k act of answer.Full units = refl
noted_ties k act of answer.Done units = refl
noted_ties k act of (answer.Got line) units = refl
noted_ties k act of answer.EndOfFile units = refl

spooled_ties : (act : Act) (target : Target) (units : UnitState) → (spooled act target units).ties ≡ units.ties
spooled_ties (Write u line) Spool units = refl
spooled_ties (Write u line) Untied units = refl
spooled_ties (Write u line) Data units = refl
spooled_ties (Write u line) (Set name) units = refl
spooled_ties (Read u) target units = refl
spooled_ties (Endfile u) target units = refl
spooled_ties (Rewind u) target units = refl

abbrev placed : ℕ → Option ℕ → List Tie → List Tie
placed u None ties = ties
placed u (Some p) ties = slice_set ties u (record (or_untied (slice_get ties u)) { position = p })

moved_ties : (u : ℕ) (p : Option ℕ) (units : UnitState) → (moved u p units).ties ≡ placed u p units.ties
moved_ties u None units = refl
moved_ties u (Some p) units = refl

effect_ties : (q : Request) (target : Target) (units : UnitState) (x : Acted) → (effect_of q target units x).units.ties ≡ placed (unit_of q.act) x.position units.ties
effect_ties q target units x =
    noted_ties q.statement (note_act q.act) (note_target (unit_of q.act) target) x.answer (moved (unit_of q.act) x.position (spooled q.act target units))
    ∙ moved_ties (unit_of q.act) x.position (spooled q.act target units)
    ∙ ap (placed (unit_of q.act) x.position) (spooled_ties q.act target units)

tie_there : (o : Option Tie) (name : List ℕ) → (or_untied o).target ≡ Set name → o ≡ Some (or_untied o)
tie_there None name h = absurd cc
tie_there (Some tie) name h = refl

module _ (account : Account) (units : UnitState) (sets others : Sets) (alike : Both (LooksAlike account) sets others) (fits : TiesFit sets others units) (q : Request) where
  tie : Tie
  tie = tie_at units (unit_of q.act)

  fit_here : (name : List ℕ) → (tie_at units (unit_of q.act)).target ≡ Set name → ((tie_at units (unit_of q.act)).position ≡ 0) ⊎ Same name sets others
  fit_here name is = fits (unit_of q.act) (tie_at units (unit_of q.act)) name (tie_there (slice_get units.ties (unit_of q.act)) name is) is

  here : AtTarget account sets others alike q.act units (tie_at units (unit_of q.act)).position (tie_at units (unit_of q.act)).target
  here = at_target account sets others alike q.act units (tie_at units (unit_of q.act)).position (tie_at units (unit_of q.act)).target fit_here

  effect_alike : effect account units q (looked (set_of units q) sets) ≡ effect account units q (looked (set_of units q) others)
  effect_alike = ap (effect_of q (tie_at units (unit_of q.act)).target units) here.acted

  abbrev after : Reach
  after = (serve account (record { sets = sets; units = units }) q).1

  abbrev other_after : Reach
  other_after = (serve account (record { sets = others; units = units }) q).1

  both_then : Both (LooksAlike account) after.sets other_after.sets
  both_then = subst (λ (x : Effect). Both (LooksAlike account) after.sets (changed_at (set_of units q) x.change others)) effect_alike here.both

  same_then : (name : List ℕ) → Same name sets others → Same name after.sets other_after.sets
  same_then = (serve_alike account units q sets others effect_alike).same

  moved_then : (name : List ℕ) → (tie_at units (unit_of q.act)).target ≡ Set name → (n : ℕ)
      → (acted_at account q.act units (tie_at units (unit_of q.act)).position (tie_at units (unit_of q.act)).target (looked (set_of units q) sets)).position ≡ Some n
      → (n ≡ 0) ⊎ Same name after.sets other_after.sets
  moved_then name is n h = elim (here.moves name is n h) [
    | inl z ↦ inl z
    | inr same ↦ inr (same ∙ ap (λ (x : Effect). find_set name (changed_at (set_of units q) x.change others)) effect_alike)
  ]

  fits_then : TiesFit after.sets other_after.sets after.units
  fits_then u t name is tied =
      let x = acted_at account q.act units (tie_at units (unit_of q.act)).position (tie_at units (unit_of q.act)).target (looked (set_of units q) sets) in
      by x.position refl (ap (λ (l : List Tie). slice_get l u) (sym (effect_ties q (tie_at units (unit_of q.act)).target units x)) ∙ is)
    where
      kept : slice_get units.ties u ≡ Some t → (t.position ≡ 0) ⊎ Same name after.sets other_after.sets
      kept was = elim (fits u t name was tied) [ inl z ↦ inl z | inr same ↦ inr (same_then name same) ]

      by : (o : Option ℕ)
          → (acted_at account q.act units (tie_at units (unit_of q.act)).position (tie_at units (unit_of q.act)).target (looked (set_of units q) sets)).position ≡ o
          → slice_get (placed (unit_of q.act) o units.ties) u ≡ Some t → (t.position ≡ 0) ⊎ Same name after.sets other_after.sets
      by None e was = kept was
      by (Some n) e was = elim (get_after_set units.ties (unit_of q.act) u (record (tie_at units (unit_of q.act)) { position = n }) t was) [
        | inl old ↦ kept old
        | inr new ↦
            let target : (tie_at units (unit_of q.act)).target ≡ Set name = sym (ap (λ (z : Tie). z.target) new) ∙ tied in
            let position : t.position ≡ n = ap (λ (z : Tie). z.position) new in
            elim (moved_then name target n e) [
              | inl z ↦ inl (position ∙ z)
              | inr same ↦ inr same
            ]
      ]

  pub request_agrees : RequestAgrees account (record { sets = sets; units = units }) (record { sets = others; units = units }) q
  request_agrees = record {
    answer = (serve_alike account units q sets others effect_alike).answer;
    after = record { units = (serve_alike account units q sets others effect_alike).units; sets = both_then; ties = fits_then };
    same = same_then;
  }

pub requests_agree : RequestsAgree
requests_agree account reach other agree q =
    subst (λ (u : UnitState). RequestAgrees account reach (record { sets = other.sets; units = u }) q) agree.units
    (request_agrees account reach.units reach.sets other.sets agree.sets agree.ties q)
