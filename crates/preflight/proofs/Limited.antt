-- Each limit is that of the number that has its name.
use Rattle.std.proofs.Common.{◌≡◌, ℕ, ◌+◌, ◌≤◌, ◌<◌, Bool, true, false, nat_lt, if◌then◌else◌, Option, Some, None, refl, ap, subst, ◌∙◌, arith}
use Rattle.std.{specs.Option.{option_or}, proofs.lemmas.Bool.Decides.{nat_tests}}
use Rattle.preflight.specs.{declared.quota.Quota.{Quota}, declared.quota.HandedIn.{HandedIn}, declared.quota.Limit.{Limit}, Allowances.{above, broken_limit}}
use Rattle.preflight.specs.declared.quota.Limit.TheVariants.{Texts, Bytes, Jobs, Statements, Largest, Work, DataSets, Records}
use Rattle.preflight.specs.Laws.{AreWithin, IsAbove, LimitsAreTold}

-- ---- one limit, and those behind it

at_most : (limit n : ℕ) → nat_lt limit n ≡ false → n ≤ limit
at_most limit n e = grind (arith, nat_tests, e)

not_above : (limit n : ℕ) → n ≤ limit → nat_lt limit n ≡ false
not_above limit n less = grind (arith, nat_tests, less)

more : (limit n : ℕ) → nat_lt limit n ≡ true → limit < n
more limit n e = grind (arith, nat_tests, e)

none_some : {A : Type 0} (name : Limit) → Some name ≡ None → A
none_some name is = cc

some_none : {A : Type 0} (name : Limit) → None ≡ Some name → A
some_none name is = cc

same : (name limit : Limit) → Some name ≡ Some limit → name ≡ limit
same name limit is = cc

-- where none is told, this one is kept and so are those behind it
kept : (limit n : ℕ) (name : Limit) (rest : Option Limit) → option_or (above limit n name) rest ≡ None → (n ≤ limit) × (rest ≡ None)
kept limit n name rest = by (nat_lt limit n) refl
  where
    by : (b : Bool) → nat_lt limit n ≡ b → option_or (if b then Some name else None) rest ≡ None → (n ≤ limit) × (rest ≡ None)
    by true e is = none_some name is
    by false e is = (at_most limit n e, is)

last_kept : (limit n : ℕ) (name : Limit) → above limit n name ≡ None → n ≤ limit
last_kept limit n name = by (nat_lt limit n) refl
  where
    by : (b : Bool) → nat_lt limit n ≡ b → (if b then Some name else None) ≡ None → n ≤ limit
    by true e is = none_some name is
    by false e is = at_most limit n e

-- a limit that is kept is not told
passed : (limit n : ℕ) (name : Limit) (rest : Option Limit) → n ≤ limit → option_or (above limit n name) rest ≡ rest
passed limit n name rest less = ap (λ (b : Bool). option_or (if b then Some name else None) rest) (not_above limit n less)

last_passed : (limit n : ℕ) (name : Limit) → n ≤ limit → above limit n name ≡ None
last_passed limit n name less = ap (λ (b : Bool). (let o : Option Limit = if b then Some name else None in o)) (not_above limit n less)

-- one that is told is broken
broken : (P : Limit → Type 0) (limit n : ℕ) (name : Limit) (rest : Option Limit) → (limit < n → P name) → ((told : Limit) → rest ≡ Some told → P told)
    → (told : Limit) → option_or (above limit n name) rest ≡ Some told → P told
broken P limit n name rest here later told = by (nat_lt limit n) refl
  where
    by : (b : Bool) → nat_lt limit n ≡ b → option_or (if b then Some name else None) rest ≡ Some told → P told
    by true e is = subst P (same name told is) (here (more limit n e))
    by false e is = later told is

last_broken : (P : Limit → Type 0) (limit n : ℕ) (name : Limit) → (limit < n → P name) → (told : Limit) → above limit n name ≡ Some told → P told
last_broken P limit n name here told = by (nat_lt limit n) refl
  where
    by : (b : Bool) → nat_lt limit n ≡ b → (if b then Some name else None) ≡ Some told → P told
    by true e is = subst P (same name told is) (here (more limit n e))
    by false e is = some_none told is

-- ---- all of them

module _ (limits : Quota) (handed : HandedIn) where
  -- the limits from this one on
  abbrev from_records : Option Limit
  from_records = above limits.records handed.records Records

  abbrev from_sets : Option Limit
  from_sets = option_or (above limits.data_sets (handed.data_sets + handed.tally.creates) DataSets) from_records

  abbrev from_work : Option Limit
  from_work = option_or (above limits.work handed.tally.work Work) from_sets

  abbrev from_largest : Option Limit
  from_largest = option_or (above limits.largest handed.tally.largest Largest) from_work

  abbrev from_statements : Option Limit
  from_statements = option_or (above limits.statements handed.tally.statements Statements) from_largest

  abbrev from_jobs : Option Limit
  from_jobs = option_or (above limits.jobs handed.tally.jobs Jobs) from_statements

  abbrev from_bytes : Option Limit
  from_bytes = option_or (above limits.bytes handed.tally.bytes Bytes) from_jobs

  are_within : broken_limit limits handed ≡ None → AreWithin limits handed
  are_within is =
      let texts = kept limits.texts handed.texts Texts from_bytes is in
      let bytes = kept limits.bytes handed.tally.bytes Bytes from_jobs texts.1 in
      let jobs = kept limits.jobs handed.tally.jobs Jobs from_statements bytes.1 in
      let statements = kept limits.statements handed.tally.statements Statements from_largest jobs.1 in
      let largest = kept limits.largest handed.tally.largest Largest from_work statements.1 in
      let work = kept limits.work handed.tally.work Work from_sets largest.1 in
      let data_sets = kept limits.data_sets (handed.data_sets + handed.tally.creates) DataSets from_records work.1 in
      record {
        texts = texts.0;
        bytes = bytes.0;
        jobs = jobs.0;
        statements = statements.0;
        largest = largest.0;
        work = work.0;
        data_sets = data_sets.0;
        records = last_kept limits.records handed.records Records data_sets.1;
      }

  none_broken : AreWithin limits handed → broken_limit limits handed ≡ None
  none_broken all =
      passed limits.texts handed.texts Texts from_bytes all.texts
      ∙ passed limits.bytes handed.tally.bytes Bytes from_jobs all.bytes
      ∙ passed limits.jobs handed.tally.jobs Jobs from_statements all.jobs
      ∙ passed limits.statements handed.tally.statements Statements from_largest all.statements
      ∙ passed limits.largest handed.tally.largest Largest from_work all.largest
      ∙ passed limits.work handed.tally.work Work from_sets all.work
      ∙ passed limits.data_sets (handed.data_sets + handed.tally.creates) DataSets from_records all.data_sets
      ∙ last_passed limits.records handed.records Records all.records

  abbrev Told : Limit → Type 0
  Told limit = IsAbove limits handed limit

  is_broken : (limit : Limit) → broken_limit limits handed ≡ Some limit → IsAbove limits handed limit
  is_broken =
      broken Told limits.texts handed.texts Texts from_bytes (λ over. over)
      (broken Told limits.bytes handed.tally.bytes Bytes from_jobs (λ over. over)
      (broken Told limits.jobs handed.tally.jobs Jobs from_statements (λ over. over)
      (broken Told limits.statements handed.tally.statements Statements from_largest (λ over. over)
      (broken Told limits.largest handed.tally.largest Largest from_work (λ over. over)
      (broken Told limits.work handed.tally.work Work from_sets (λ over. over)
      (broken Told limits.data_sets (handed.data_sets + handed.tally.creates) DataSets from_records (λ over. over)
      (last_broken Told limits.records handed.records Records (λ over. over))))))))

pub limits_are_told : LimitsAreTold
limits_are_told limits handed = ((are_within limits handed, none_broken limits handed), is_broken limits handed)
