-- A request looks at one data set at the most: what follows from what it sees, and what it leaves.
use Rattle.std.proofs.Common.{◌≡◌, ◌≢◌, ℕ, zero, suc, nat_eq, Bool, true, false, List, [], ◌∷◌, map, Option, Some, None, option_map, refl, ap, sym, ◌∙◌, subst, slice_get}
use Rattle.std.{specs.Prelude.{slice_set}, specs.Map.{keys_of}, specs.Cmp.Lexicographic.{pointwise, bytes_decides}, proofs.lemmas.Option.{slice_get-map}}
use Rattle.mon_access.specs.declared.account.Account.{Account}
use Rattle.mon_catalogue.specs.{declared.data_set.DataSet.{DataSet}, Sets.{Sets, find_set}, Changes.{with_changed}, Writing.{Change, recorded}}
use Rattle.mon_catalogue.proofs.Changed.{other_sets_stay, named_set_changes, order_stays}
use Rattle.interaction.specs.declared.request.{Act.{Act}, Act.TheVariants.{Read, Write, Endfile, Rewind}, Request.{Request}}
use Rattle.interaction.specs.{declared.answer.Answer.{Answer}, Asking.{Asking}, declared.answer.Answer.TheVariants.{Done, Got, EndOfFile, Denied, Full}}
use Rattle.mon_unit.specs.declared.tie.{Target.{Target}, Target.TheVariants.{Untied, Data, Spool, Set}, Tie.{Tie}}
use Rattle.mon_unit.specs.{declared.note.NoteAct.{NoteAct}, declared.note.NoteTarget.{NoteTarget}, State.{UnitState}, Tying.{tie_at}}
use Rattle.mon_unit.specs.{Serving.{Reach, unit_of, note_act, note_target, acted_at, noted, moved, spooled, set_at, set_of, serve}, Runs.{run, run_cut}}
use Rattle.mon_unit.{proofs.Changed.{Effect, effect, changed_at}, specs.Laws.{targets, TiedTo, Same, LooksOnce, OneLook, OneChange, KeepsToTies}}
use Rattle.mon_unit.proofs.{Runs.{run_keeps, run_cut_keeps}, Shorthand.{or_untied, looked}}

-- a change of one set keeps what was the same, the other sets and the names
changed_same : (name other : List ℕ) (f : DataSet → DataSet) (sets others : Sets) → Same other sets others
    → Same other (with_changed name f sets) (with_changed name f others)
changed_same name other f sets others same = by (pointwise nat_eq other name) refl
  where
    by : (b : Bool) → pointwise nat_eq other name ≡ b → Same other (with_changed name f sets) (with_changed name f others)
    by true e =
        subst (λ (n : List ℕ). find_set other sets ≡ find_set other others → Same other (with_changed n f sets) (with_changed n f others)) ((bytes_decides other name).0 e)
        (λ s. (named_set_changes other sets f).1 ∙ ap (option_map f) s ∙ sym (named_set_changes other others f).1) same
    by false e =
        let differ : other ≢ name = λ q. (let no : false ≡ true = sym e ∙ (bytes_decides other name).1 q in absurd cc) in
        (other_sets_stay name other sets f differ).1 ∙ same ∙ sym (other_sets_stay name other others f differ).1

change_same : (o : Option (List ℕ)) (c : Option Change) (name : List ℕ) (sets others : Sets) → Same name sets others
    → Same name (changed_at o c sets) (changed_at o c others)
change_same None c name sets others h = h
change_same (Some n) None name sets others h = h
change_same (Some n) (Some change) name sets others h = changed_same n name (recorded change) sets others h

change_other : (o : Option (List ℕ)) (c : Option Change) (name : List ℕ) (sets : Sets) → o ≢ Some name → Same name (changed_at o c sets) sets
change_other None c name sets h = refl
change_other (Some n) None name sets h = refl
change_other (Some n) (Some change) name sets h =
    (other_sets_stay n name sets (recorded change) (λ q. h (ap (λ (k : List ℕ). Some k) (sym q)))).1

change_names : (o : Option (List ℕ)) (c : Option Change) (sets : Sets) → keys_of (changed_at o c sets) ≡ keys_of sets
change_names None c sets = refl
change_names (Some n) None sets = refl
change_names (Some n) (Some change) sets = (order_stays n sets (recorded change)).1

-- where a request has one effect on both, the answers and the units are the same, and what was the same stays so
pub serve_alike : (account : Account) (units : UnitState) (q : Request) (sets others : Sets)
    → effect account units q (looked (set_of units q) sets) ≡ effect account units q (looked (set_of units q) others)
    → LooksOnce account units q sets others
serve_alike account units q sets others e = record {
  answer = ap (λ (x : Effect). x.answer) e;
  units = ap (λ (x : Effect). x.units) e;
  same = λ name h. change_same (set_of units q) (effect account units q (looked (set_of units q) sets)).change name sets others h
      ∙ ap (λ (x : Effect). find_set name (changed_at (set_of units q) x.change others)) e;
}

pub one_look : OneLook
one_look account units q sets others same = serve_alike account units q sets others (ap (effect account units q) same)

pub one_change : OneChange
one_change account reach q =
    let e = effect account reach.units q (looked (set_of reach.units q) reach.sets) in
    ((λ name other. change_other (set_of reach.units q) e.change name reach.sets other), change_names (set_of reach.units q) e.change reach.sets)

-- the set that is looked at is one that a unit is tied to
pub looks_at_tied : (units : UnitState) (q : Request) (name : List ℕ) → set_of units q ≡ Some name → TiedTo units name
looks_at_tied units q name h =
    (unit_of q.act, slice_get-map (λ (t : Tie). t.target) units.ties (unit_of q.act) ∙ by (slice_get units.ties (unit_of q.act)) h)
  where
    target : (act : Act) (t : Target) → set_at act t ≡ Some name → t ≡ Set name
    target act Untied e = absurd cc
    target act Data e = absurd cc
    target act Spool e = absurd cc
    target (Rewind u) (Set n) e = absurd cc
    target (Read u) (Set n) e = cc (e)
    target (Write u line) (Set n) e = cc (e)
    target (Endfile u) (Set n) e = cc (e)

    by : (o : Option Tie) → set_at q.act (or_untied o).target ≡ Some name → option_map (λ (t : Tie). t.target) o ≡ Some (Set name)
    by None e = absurd cc
    by (Some tie) e = ap (λ (t : Target). Some t) (target q.act tie.target e)

-- no request changes what the units are tied to
position_stays : (ties : List Tie) (u p : ℕ)
    → map (λ (t : Tie). t.target) (slice_set ties u (record (or_untied (slice_get ties u)) { position = p })) ≡ map (λ (t : Tie). t.target) ties
position_stays [] u p = refl
position_stays (tie ∷ ties) zero p = refl
position_stays (tie ∷ ties) (suc u) p = ap (λ (l : List Target). tie.target ∷ l) (position_stays ties u p)

move_stays : (u : ℕ) (p : Option ℕ) (units : UnitState) → targets (moved u p units) ≡ targets units
move_stays u None units = refl
move_stays u (Some p) units = position_stays units.ties u p

note_stays : (s : ℕ) (act : NoteAct) (of : NoteTarget) (a : Answer) (units : UnitState) → targets (noted s act of a units) ≡ targets units
note_stays s act of (Denied reason) units = refl
note_stays s act of Full units = refl
note_stays s act of Done units = refl
note_stays s act of (Got line) units = refl
note_stays s act of EndOfFile units = refl

spool_stays : (act : Act) (target : Target) (units : UnitState) → targets (spooled act target units) ≡ targets units
spool_stays (Write u line) Spool units = refl
spool_stays (Write u line) Untied units = refl
spool_stays (Write u line) Data units = refl
spool_stays (Write u line) (Set name) units = refl
spool_stays (Read u) target units = refl
spool_stays (Endfile u) target units = refl
spool_stays (Rewind u) target units = refl

pub targets_stay : (account : Account) (reach : Reach) (q : Request) → targets (serve account reach q).1.units ≡ targets reach.units
targets_stay account reach q =
    let target = (tie_at reach.units (unit_of q.act)).target in
    let position = (tie_at reach.units (unit_of q.act)).position in
    let a = acted_at account q.act reach.units position target (looked (set_of reach.units q) reach.sets) in
    let spooled = spooled q.act target reach.units in
    note_stays q.statement (note_act q.act) (note_target (unit_of q.act) target) a.answer (moved (unit_of q.act) a.position spooled)
    ∙ move_stays (unit_of q.act) a.position spooled ∙ spool_stays q.act target reach.units

-- so a whole interaction keeps to them
module _ (account : Account) (reach : Reach) where
  here : KeepsToTies reach reach
  here = record { targets = refl; others = λ name h. refl; names = refl }

  keeps : (s : Reach) (q : Request) → KeepsToTies reach s → KeepsToTies reach (serve account s q).1
  keeps s q h =
      let still : (name : List ℕ) → (¬ TiedTo reach.units name) → set_of s.units q ≢ Some name =
      λ name free e. (let tied = looks_at_tied s.units q name e in
      free (subst (λ (l : List Target). (u : ℕ) × (slice_get l u ≡ Some (Set name))) h.targets tied)) in
      record {
        targets = targets_stay account s q ∙ h.targets;
        others = λ name free. (one_change account s q).0 name (still name free) ∙ h.others name free;
        names = (one_change account s q).1 ∙ h.names;
      }

  pub run_keeps_to_ties : {A : Type 0} (talk : Asking A) → KeepsToTies reach (run (serve account) talk reach).1
  run_keeps_to_ties talk = run_keeps (serve account) (KeepsToTies reach) keeps talk reach here

  pub cut_keeps_to_ties : {A : Type 0} (k : ℕ) (talk : Asking A) → KeepsToTies reach (run_cut (serve account) k talk reach)
  cut_keeps_to_ties k talk = run_cut_keeps (serve account) (KeepsToTies reach) keeps k talk reach here
