-- What keeps rows fitting the sets.
use Rattle.std.proofs.Common.{◌≡◌, ◌≢◌, ℕ, Bool, true, false, cond, not, List, [], ◌∷◌, ◌++◌, ◌⊎◌, inl, inr, length, take, filter, Option, None, Some, option_map, slice_index_or, Result, Ok, Err, refl, sym, ap, subst, ◌∙◌}
use Rattle.std.specs.{Prelude.{bytes_eq, OnOk, OnErr, slice_get, is_some, nat_le, if◌then◌else◌}, List.{Contains}, Map.{values_of}}
use Rattle.std.proofs.lemmas.{Option.{slice_get_within, slice_get-get_or, slice_get-map}, List.{map-append}, Bool.{not-true}}
use Rattle.std.proofs.{lemmas.List.Elements.{All-push, All-contains, All-filter, filter_passes}, Math.Seq.{take-append_seam, take-length}}
use Rattle.std.proofs.lemmas.{Slice.Eq.{bytes_eq-Decides}, Bool.Decides.{not_from_Decides}}
use Rattle.indexmap.{specs.IndexMap.{IndexMap, get, insert_entry}, proofs.CallerLemmas.{insert_entry-new}}
use Rattle.mon_access.specs.declared.{account.Account.{Account}, compiled.CompiledAcl.{CompiledAcl}}
use Rattle.mon_catalogue.specs.{declared.mode.Mode.{Mode}, declared.data_set.DataSet.{DataSet}, Sets.{Sets, find_set, create_refusal}}
use Rattle.mon_catalogue.specs.{Writing.{Change, recorded}, Changes.{with_changed, without_set, with_acl}, declared.catalogue.CreateError.{CreateError}}
use Rattle.mon_catalogue.specs.declared.catalogue.CreateError.TheVariants.{NameTaken, CatalogueFull}
use Rattle.mon_catalogue.proofs.{Changed.{other_sets_stay, named_set_changes}, Shorthand.{listed}}
use Rattle.mon_acl.specs.declared.entries.Entry.{Entry}
use Rattle.mon_guard.specs.{declared.cache.CachedDecision.{CachedDecision}, Acting.{left, changed}, Owning.{new_set, created}}
use Rattle.mon_guard.specs.{Cache.{ready_on, Fits, CacheFits, is_beside, cache_beside, Begins}, inner.Keeping.{row_on, FitOn, MayKeep}}
use Rattle.mon_guard.proofs.{Owned.{behind}, Acting.{left_so, left_as_it_was}, Shorthand.{created_unless}}
use Rattle.mon_text.specs.{declared.stop.Stop.{Stop}, Stops.{refused_as}}

-- rows that fit go on fitting where each by itself does
still_fit : (rows : List CachedDecision) (sets after : Sets) → ((row : CachedDecision) → Fits sets row → Fits after row) → CacheFits rows sets → CacheFits rows after
still_fit rows sets after step fit = λ k d within. step _ (fit k d within)

-- the rows of a name fit its set
fits_there : (account : Account) (ready : CompiledAcl) (o : Option DataSet) (set : DataSet) → o ≡ Some set → option_map (ready_on account) o ≡ Some ready
    → ready ≡ ready_on account set
fits_there account ready o set is fits =
    let same : Some (ready_on account set) ≡ Some ready = sym (ap (option_map (ready_on account)) is) ∙ fits in cc

pub fit_on : (rows : List CachedDecision) (sets : Sets) (name : List ℕ) (set : DataSet) → CacheFits rows sets → find_set name sets ≡ Some set → FitOn name set rows
fit_on rows sets name set fit there row has same =
    fits_there row.account row.ready (find_set row.set sets) set (ap (λ n. find_set n sets) same ∙ there) (All-contains (Fits sets) rows row fit has)

-- a row that is kept fits
pub kept_fit : (account : Account) (name : List ℕ) (set : DataSet) (sets : Sets) (old new : List CachedDecision) → MayKeep account name set old new
    → find_set name sets ≡ Some set → CacheFits old sets → CacheFits new sets
kept_fit account name set sets old new (inl same) there fit = subst (λ (r : List CachedDecision). CacheFits r sets) (sym same) fit
kept_fit account name set sets old new (inr more) there fit =
    subst (λ (r : List CachedDecision). CacheFits r sets) (sym more)
    (All-push (Fits sets) old (row_on account name set) fit (ap (option_map (ready_on account)) there))

pub kept_begins : (account : Account) (name : List ℕ) (set : DataSet) (old new : List CachedDecision) → MayKeep account name set old new → Begins old new
kept_begins account name set old new (inl same) = ap (take (length old)) same ∙ take-length old
kept_begins account name set old new (inr more) = ap (take (length old)) more ∙ take-append_seam old (row_on account name set ∷ [])

-- what is done to records changes no decision
same_ready : (account : Account) (change : Change) (o : Option DataSet)
    → option_map (ready_on account) (option_map (recorded change) o) ≡ option_map (ready_on account) o
same_ready account change None = refl
same_ready account change (Some set) = refl

change_fits : (name : List ℕ) (change : Option Change) (sets : Sets) (row : CachedDecision) → Fits sets row → Fits (changed name change sets) row
change_fits name None sets row fits = fits
change_fits name (Some change) sets row fits = by (bytes_eq row.set name) refl
  where
    by : (b : Bool) → bytes_eq row.set name ≡ b → Fits (with_changed name (recorded change) sets) row
    by true e =
        let same : row.set ≡ name = (bytes_eq-Decides row.set name).0 e in
        ap (λ n. option_map (ready_on row.account) (find_set n (with_changed name (recorded change) sets))) same
        ∙ ap (option_map (ready_on row.account)) (named_set_changes name sets (recorded change)).1
        ∙ same_ready row.account change (find_set name sets)
        ∙ ap (λ n. option_map (ready_on row.account) (find_set n sets)) (sym same)
        ∙ fits
    by false e =
        ap (option_map (ready_on row.account)) (other_sets_stay name row.set sets (recorded change) (not_from_Decides _ (bytes_eq-Decides row.set name) e)).1
        ∙ fits

pub changed_fit : (rows : List CachedDecision) (name : List ℕ) (change : Option Change) (sets : Sets) → CacheFits rows sets → CacheFits rows (changed name change sets)
changed_fit rows name change sets = still_fit rows sets (changed name change sets) (change_fits name change sets)

-- the rows of other sets fit, whatever becomes of the set of this name
beside_fit : (rows : List CachedDecision) (name : List ℕ) (sets after : Sets)
    → ((other : List ℕ) → other ≢ name → find_set other after ≡ find_set other sets) → CacheFits rows sets → CacheFits (cache_beside name rows) after
beside_fit rows name sets after stays fit = λ k d within.
    let passes = filter_passes (is_beside name) rows k d within in
    let fits = All-filter (is_beside name) (Fits sets) rows fit k d within in
    let row = slice_index_or (cache_beside name rows) k d in
    let differ : row.set ≢ name = not_from_Decides _ (bytes_eq-Decides row.set name) (not-true _ passes) in
    ap (option_map (ready_on row.account)) (stays row.set differ) ∙ fits

pub listed_fit : (rows : List CachedDecision) (name : List ℕ) (acl : List Entry) (sets : Sets) → CacheFits rows sets → CacheFits (cache_beside name rows) (with_acl name acl sets)
listed_fit rows name acl sets =
    beside_fit rows name sets (with_acl name acl sets) (λ other differ. (other_sets_stay name other sets (listed acl) differ).1)

pub without_fit : (rows : List CachedDecision) (name : List ℕ) (sets : Sets) → CacheFits rows sets → CacheFits (cache_beside name rows) (without_set name sets)
without_fit rows name sets =
    beside_fit rows name sets (without_set name sets) (λ other differ. (other_sets_stay name other sets (λ set. set) differ).0)

-- a new set has no rows
create_fits : (name : List ℕ) (set : DataSet) (sets : Sets) → find_set name sets ≡ None → (row : CachedDecision) → Fits sets row → Fits (sets ++ (name, set) ∷ []) row
create_fits name set sets absent row fits = ap (option_map (ready_on row.account)) (behind row.set name set differ sets) ∙ fits
  where
    differ : row.set ≢ name
    differ same =
        let no : None ≡ Some row.ready = sym (ap (λ n. option_map (ready_on row.account) (find_set n sets)) same ∙ ap (option_map (ready_on row.account)) absent) ∙ fits in
        absurd cc

pub created_fit : (rows : List CachedDecision) (account : Account) (name : List ℕ) (mode : Mode) (sets : Sets) → CacheFits rows sets
    → CacheFits rows (created account sets name mode).1
created_fit rows account name mode sets = by (find_set name sets) refl (nat_le 1000 (length sets))
  where
    by : (o : Option DataSet) → find_set name sets ≡ o → (full : Bool) → CacheFits rows sets
        → CacheFits rows (created_unless (if is_some o then Some NameTaken else if full then Some CatalogueFull else None) account sets name mode).1
    by None is true fit = fit
    by None is false fit = still_fit rows sets _ (create_fits name (new_set account mode) sets is) fit
    by (Some set) is full fit = fit

after_ready : (account : Account) (change : Option Change) (set : DataSet) → ready_on account (left change set) ≡ ready_on account set
after_ready account None set = refl
after_ready account (Some change) set = refl

-- a row that is kept of a set as the act leaves it fits
pub kept_after : (account : Account) (name : List ℕ) (change : Option Change) (set : DataSet) (sets : Sets) (old new : List CachedDecision)
    → MayKeep account name (left change set) old new → Some set ≡ find_set name sets → CacheFits old sets → CacheFits new (changed name change sets)
kept_after account name change set sets old new kept there fit =
    changed_fit new name change sets
    (kept_fit account name set sets old new
    (subst (λ (r : CompiledAcl). (new ≡ old) ⊎ (new ≡ old ++ (record { account = account; set = name; ready = r }) ∷ [])) (after_ready account change set) kept)
    (sym there) fit)

pub ruleset fitting = (fit_on, kept_fit, kept_begins, listed_fit, without_fit, created_fit, take-length)

-- in the forms that the guard's calls leave
pub without_fits : (rows new : List CachedDecision) (name : List ℕ) (sets after : Sets) → new ≡ cache_beside name rows → after ≡ without_set name sets
    → CacheFits rows sets → CacheFits new after
without_fits rows new name sets after is out fit =
    subst (λ (r : List CachedDecision). CacheFits r after) (sym is) (subst (λ (s : Sets). CacheFits (cache_beside name rows) s) (sym out) (without_fit rows name sets fit))

pub listed_fits : (rows new : List CachedDecision) (name : List ℕ) (acl : List Entry) (sets after : Sets) → new ≡ cache_beside name rows → after ≡ with_acl name acl sets
    → CacheFits rows sets → CacheFits new after
listed_fits rows new name acl sets after is out fit =
    subst (λ (r : List CachedDecision). CacheFits r after) (sym is) (subst (λ (s : Sets). CacheFits (cache_beside name rows) s) (sym out) (listed_fit rows name acl sets fit))

absent_where : (o : Option DataSet) (full : Bool) → None ≡ (if is_some o then Some NameTaken else if full then Some CatalogueFull else None) → o ≡ None
absent_where None full e = refl
absent_where (Some set) full e = absurd cc

pub put_last_fits : (r : Result (Unit {0}) (Stop CreateError)) (rows : List CachedDecision) (name : List ℕ) (set : DataSet) (sets after : Sets)
    → refused_as r ≡ create_refusal name sets → OnOk r (after ≡ sets ++ (name, set) ∷ []) → OnErr r (after ≡ sets) → CacheFits rows sets → CacheFits rows after
put_last_fits (Ok done) rows name set sets after refused put not fit =
    subst (λ (s : Sets). CacheFits rows s) (sym put)
    (still_fit rows sets _ (create_fits name set sets (absent_where (find_set name sets) (nat_le 1000 (length sets)) refused)) fit)
put_last_fits (Err stop) rows name set sets after refused put not fit = subst (λ (s : Sets). CacheFits rows s) (sym not) fit

pub kept_left : (account : Account) (name : List ℕ) (out set : DataSet) (change : Option Change) (sets : Sets) (old new : List CachedDecision)
    → MayKeep account name out old new → out ≡ left change set → Some set ≡ find_set name sets → CacheFits old sets
    → CacheFits new (with_changed name (λ _. out) sets)
kept_left account name out set change sets old new kept is there fit =
    subst (λ (s : DataSet). CacheFits new (with_changed name (λ _. s) sets)) (sym is)
    (subst (λ (s : Sets). CacheFits new s) (sym (left_so name change sets set there))
    (kept_after account name change set sets old new (subst (λ (s : DataSet). MayKeep account name s old new) is kept) there fit))

pub left_fits : (rows : List CachedDecision) (name : List ℕ) (out set : DataSet) (sets : Sets) → out ≡ set → Some set ≡ find_set name sets → CacheFits rows sets
    → CacheFits rows (with_changed name (λ _. out) sets)
left_fits rows name out set sets is there fit =
    subst (λ (s : DataSet). CacheFits rows (with_changed name (λ _. s) sets)) (sym is)
    (subst (λ (s : Sets). CacheFits rows s) (sym (left_as_it_was name sets set there)) fit)

pub left_changed : (name : List ℕ) (out set : DataSet) (change : Option Change) (sets : Sets) → out ≡ left change set → Some set ≡ find_set name sets
    → with_changed name (λ _. out) sets ≡ changed name change sets
left_changed name out set change sets is there = ap (λ (s : DataSet). with_changed name (λ _. s) sets) is ∙ left_so name change sets set there

-- how rows are stored
one_more : {E : Type 0} {K : Type 0} (r : Result (Option CachedDecision) E) (old new put : List (K × CachedDecision)) (key : K) (row : CachedDecision)
    → OnOk r (new ≡ put) → OnErr r (new ≡ old) → put ≡ old ++ (key, row) ∷ []
    → (values_of new ≡ values_of old) ⊎ (values_of new ≡ values_of old ++ row ∷ [])
one_more {E} {K} (Ok x) old new put key row done not one = inr (ap values_of (done ∙ one) ∙ map-append (λ (e : K × CachedDecision). e.1) old _)
one_more (Err x) old new put key row done not one = inl (ap values_of not)

is_none : {A : Type 0} (o : Option A) → is_some o ≡ false → o ≡ None
is_none None e = refl
is_none (Some x) e = absurd cc

pub stored_one_more : {E K S : Type 0} (eq : K → K → Bool) (m : IndexMap K CachedDecision S) (r : Result (Option CachedDecision) E) (new : List (K × CachedDecision)) (key : K) (row kept : CachedDecision)
    → is_some (get eq m key) ≡ false → row ≡ kept → OnOk r (new ≡ insert_entry eq m.entries key row) → OnErr r (new ≡ m.entries)
    → (values_of new ≡ values_of m.entries) ⊎ (values_of new ≡ values_of m.entries ++ kept ∷ [])
stored_one_more eq m r new key row kept absent is done not =
    subst (λ (k : CachedDecision). (values_of new ≡ values_of m.entries) ⊎ (values_of new ≡ values_of m.entries ++ k ∷ [])) is
    (one_more r m.entries new (insert_entry eq m.entries key row) key row done not (insert_entry-new eq m key row (is_none (get eq m key) absent)))

module _ {K : Type 0} (p : CachedDecision → Bool) where
  abbrev test : K × CachedDecision → Bool
  test e = p e.1

  stored_by : (e : K × CachedDecision) (es : List (K × CachedDecision)) (b : Bool) → values_of (filter test es) ≡ filter p (values_of es)
      → values_of (cond b (e ∷ filter test es) (filter test es)) ≡ cond b (e.1 ∷ filter p (values_of es)) (filter p (values_of es))
  stored_by e es true rest = ap (λ (rows : List CachedDecision). e.1 ∷ rows) rest
  stored_by e es false rest = rest

  pub stored_beside : (entries : List (K × CachedDecision)) → values_of (filter test entries) ≡ filter p (values_of entries)
  stored_beside [] = refl
  stored_beside (e ∷ es) = stored_by e es (p e.1) (stored_beside es)

has_at : {X : Type 0} (xs : List X) (i : ℕ) (x : X) → slice_get xs i ≡ Some x → Contains xs x
has_at xs i x h =
    let within = slice_get_within xs i x h in
    let same : Some (slice_index_or xs i x) ≡ Some x = sym (slice_get-get_or xs i x within) ∙ h in
    (i, within, cc)

pub at_place : {K : Type 0} (entries : List (K × CachedDecision)) (i : ℕ) (e : K × CachedDecision) → slice_get entries i ≡ Some e → Contains (values_of entries) e.1
at_place {K} entries i e h = has_at (values_of entries) i e.1 (slice_get-map (λ (e : K × CachedDecision). e.1) entries i ∙ ap (option_map (λ (e : K × CachedDecision). e.1)) h)
