-- What `clap` takes a word for, by what is held before it.
use Rattle.std.proofs.Common.{◌≡◌, ◌∙◌, ◌||◌, ◌<◌, ◌==◌, ℕ, Bool, true, false, List, [], ◌∷◌, ◌++◌, length, get_or, Option, Some, None, refl, sym, ap, codes, arith, true≢false}
use Rattle.std.specs.{Prelude.{◌&&◌, if◌then◌else◌, option_and_then, slice_get, unwrap_or}, List.{after_first, before_first, list_any, position_or_len}}
use Rattle.std.specs.{Option.{option_map_or}, Str.{bytes_eq, chars}}
use Rattle.std.proofs.lemmas.{List.Folds.{list_any_at}, List.Sums.{passes_at_first, split_at_first}, Bool.Decides.{nat_tests}, Slice.Eq.{bytes_eq-Decides}}
use Rattle.clap.specs.{Lexer.{has_byte, long_of, long_of_rest, short_of, strip_byte}, Kinds.{Kinds, or_else}, declared.error.kind.ErrorKind.{ErrorKind}}
use Rattle.clap.specs.Faults.{bundle_fault, bundle_step_fault, flag_word_fault, flags_fault, long_fault, other_fault, settle_fault, short_fault, step_fault}
use Rattle.clap.specs.Simple.{Shape, built, filled, help_rule, version_rule}
use Rattle.clap.proofs.{OnLiterals.{clap_on_literals}, CutLemmas.{before_first-Lacks}}
use Rattle.clap.specs.Walk.{Held, Row, Rule, Step, Text, Waiting, after_flag, arg_by_long, arg_by_short, bundle_met, bundle_step, has_row, idle, long_or_other, option, plain, plain_word, settled, short_or_plain, subcommand_or_other, trailing}
use Rattle.snomon_library.{specs.CommandLine.{check_rule, slots_rule, snomon}, proofs.Numbers.{passes}}

abbrev pub top : Shape
top = (built snomon).top

abbrev pub rules : List Rule
rules = top.rules

abbrev pub check : Rule
check = filled check_rule

abbrev pub slots : Rule
slots = filled slots_rule

abbrev help : Rule
help = filled help_rule

abbrev version : Rule
version = filled version_rule

abbrev pub check_id : Text
check_id = codes "check"

abbrev pub slots_id : Text
slots_id = codes "slots"

-- what is held: the rows of what was used, and an option that waits for its value, or has one and is not used yet
abbrev pub holding : List Row → Option (Text × List Text) → Held
holding rows pending = record { rows = rows; pending = pending; skip = 0 }

-- such an option can be used
abbrev pub Settles : Held → Type 0
Settles h = settle_fault rules false h ≡ []

abbrev pub Lacks : Text → Held → Type 0
Lacks id h = has_row id (settled rules h).rows ≡ false

-- a word waits to be the value of `--slots`, or none does
abbrev pub waiting_if : Bool → Waiting
waiting_if waits = if waits then option slots_id else idle

-- what a word may be
pub data Word (waits : Bool) (h : Held) (w : Text) : Type 0 where
  ends : w ≡ codes "--" → Word waits h w
  checks : w ≡ codes "--check" → Settles h → Lacks check_id h → Word waits h w
  asks : w ≡ codes "--slots" → Settles h → Word waits h w
  tells : (text : Text) → w ≡ codes "--slots=" ++ text → Settles h → Lacks slots_id h → passes text ≡ true → Word waits h w
  is_value : waits ≡ true → subcommand_or_other rules None (waiting_if waits) 1 w h ≡ plain_word rules (option slots_id) w h → Word waits h w

pub no_kind : (k : ErrorKind) (ks : Kinds) → k ∷ ks ≡ [] → ⊥
no_kind k ks e = cc

pub first_empty : (ks next : Kinds) → or_else ks next ≡ [] → ks ≡ []
first_empty [] next e = refl
first_empty (k ∷ ks) next e = e

pub second_empty : (ks next : Kinds) → or_else ks next ≡ [] → next ≡ []
second_empty [] next e = e
second_empty (k ∷ ks) next e = absurd (no_kind k ks e)

-- a use that passes is the first, and its value is accepted
pub once : (again : Bool) (later : Kinds) → or_else (if again && true then ErrorKind.ArgumentConflict ∷ [] else []) later ≡ [] → again ≡ false
once true later e = absurd (no_kind _ _ e)
once false later e = refl

pub accepted : (ok : Bool) (k : ErrorKind) → or_else (if ok then [] else k ∷ []) [] ≡ [] → ok ≡ true
accepted true k e = refl
accepted false k e = absurd (no_kind _ _ e)

-- ---- the text of a word with a long name

abbrev is_equals : ℕ → Bool
is_equals x = x == 61

found_below : (xs : Text) → has_byte 61 xs ≡ true → position_or_len is_equals xs < length xs
found_below [] e = absurd (true≢false (sym e))
found_below (x ∷ xs) e = go (x == 61) refl e (found_below xs)
  where
    go : (here : Bool) → (x == 61) ≡ here → (here || has_byte 61 xs) ≡ true → (has_byte 61 xs ≡ true → position_or_len is_equals xs < length xs)
        → position_or_len is_equals (x ∷ xs) < length (x ∷ xs)
    go true is e later = rw is (omega arith)
    go false is e later = let below = later e in rw is (omega arith)

-- a text is what stands before its first `=`, that, and what stands behind it
cut : (xs : Text) → has_byte 61 xs ≡ true → xs ≡ before_first is_equals xs ++ 61 ∷ after_first is_equals xs
cut xs e =
    let below = found_below xs e in
    let at = passes_at_first is_equals xs 0 below in
    let is : get_or xs (position_or_len is_equals xs) 0 ≡ 61 = grind (arith, nat_tests) in
    split_at_first is_equals xs 0 below ∙ ap (λ (x : ℕ). before_first is_equals xs ++ x ∷ after_first is_equals xs) is

-- a text with no `=` is all that stands before the first
uncut : (xs : Text) → has_byte 61 xs ≡ false → before_first is_equals xs ≡ xs
uncut xs e = before_first-Lacks 61 xs (λ i lt is.
    let found : list_any is_equals xs ≡ true = list_any_at is_equals xs i 0 lt (rw is refl) in
    true≢false (sym found ∙ e))

abbrev spelled : Text → Option Text → Text
spelled name None = name
spelled name (Some value) = name ++ 61 ∷ value

abbrev named : Option (Text × Option Text) → Text
named o = (unwrap_or o ([], None)).0

abbrev valued : Option (Text × Option Text) → Option Text
valued o = (unwrap_or o ([], None)).1

-- the word that is read as a name and a value
long_word_is : (w name : Text) (value : Option Text) → long_of w ≡ Some (name, value) → w ≡ codes "--" ++ spelled name value
long_word_is [] name value e = cc
long_word_is (a ∷ rest) name value e = first (a == 45) refl rest e
  where
    whole : (text : Text) (has : Bool) → has_byte 61 text ≡ has
        → before_first is_equals text ≡ name → (if has then Some (after_first is_equals text) else None) ≡ value
        → text ≡ spelled name value
    whole text true is name_is value_is = cut text is ∙ (λ i. spelled (name_is i) (value_is i))
    whole text false is name_is value_is = sym (uncut text is) ∙ (λ i. spelled (name_is i) (value_is i))

    second : (b : ℕ) (is_hyphen : Bool) → (b == 45) ≡ is_hyphen → (rest : Text)
        → option_and_then long_of_rest (if is_hyphen then Some rest else None) ≡ Some (name, value) → b ∷ rest ≡ codes "-" ++ spelled name value
    second b true is [] e = absurd cc
    second b true is (x ∷ xs) e =
        let text = whole (x ∷ xs) (has_byte 61 (x ∷ xs)) refl (ap named e) (ap valued e) in
        let hyphen : b ≡ 45 = grind (arith, nat_tests) in
        λ i. hyphen i ∷ text i
    second b false is rest e = absurd cc

    first : (is_hyphen : Bool) → (a == 45) ≡ is_hyphen → (rest : Text)
        → option_and_then long_of_rest (option_and_then (strip_byte 45) (if is_hyphen then Some rest else None)) ≡ Some (name, value)
        → a ∷ rest ≡ codes "--" ++ spelled name value
    first true is [] e = absurd cc
    first true is (b ∷ rest) e =
        let tail = second b (b == 45) refl rest e in
        let hyphen : a ≡ 45 = grind (arith, nat_tests) in
        λ i. hyphen i ∷ tail i
    first false is rest e = absurd cc

-- ---- what a word is that passes

module _ (rows : List Row) (pending : Option (Text × List Text)) where
  abbrev h : Held
  h = holding rows pending

  -- no short flag passes: those that there are ask for help or for the version
  no_short_flag : (x : ℕ) (rest : Text) (next : Held → Kinds) → short_fault rules false (arg_by_short rules x) rest h next ≡ [] → ⊥
  no_short_flag x rest next e = go (104 == x) (86 == x) e
    where
      go : (is_help is_version : Bool)
          → short_fault rules false (if is_help || false then Some help else (if is_version || false then Some version else None)) rest h next ≡ []
          → ⊥
      go true is_version e = no_kind _ _ (second_empty _ _ (first_empty _ _ e))
      go false true e = no_kind _ _ (second_empty _ _ (first_empty _ _ e))
      go false false e = no_kind _ _ e

  -- what a long name may be that passes
  data Long (name : Text) (value : Option Text) : Type 0 where
    is_check : check_id ≡ name → value ≡ None → Settles h → Lacks check_id h → Long name value
    is_slots : slots_id ≡ name → value ≡ None → Settles h → Long name value
    has_value : (text : Text) → slots_id ≡ name → value ≡ Some text → Settles h → Lacks slots_id h → passes text ≡ true → Long name value

  long_passes : (name : Text) (value : Option Text) → long_fault rules false (arg_by_long rules name) value h ≡ [] → Long name value
  long_passes name value e =
      go (bytes_eq check_id name) (bytes_eq slots_id name) (bytes_eq (codes "help") name) (bytes_eq (codes "version") name) refl refl value e
    where
      go : (check_is slots_is is_help is_version : Bool) → bytes_eq check_id name ≡ check_is → bytes_eq slots_id name ≡ slots_is
          → (value : Option Text)
          → long_fault rules false (if check_is || false then Some check else (if slots_is || false then Some slots
          else (if is_help || false then Some help else (if is_version || false then Some version else None)))) value h ≡ []
          → Long name value
      go true slots_is is_help is_version one two (Some text) e = absurd (no_kind _ _ e)
      go true slots_is is_help is_version one two None e =
          is_check ((bytes_eq-Decides check_id name).0 one) refl (first_empty _ _ e)
          (once (has_row check_id (settled rules h).rows) _ (second_empty _ _ e))
      go false true is_help is_version one two (Some text) e =
          let its_use = second_empty _ _ e in
          has_value text ((bytes_eq-Decides slots_id name).0 two) refl (first_empty _ _ e)
          (once (has_row slots_id (settled rules h).rows) _ its_use) (accepted (passes text) _ (second_empty _ _ its_use))
      go false true is_help is_version one two None e = is_slots ((bytes_eq-Decides slots_id name).0 two) refl e
      go false false true is_version one two (Some text) e = absurd (no_kind _ _ e)
      go false false true is_version one two None e = absurd (no_kind _ _ (second_empty _ _ e))
      go false false false true one two (Some text) e = absurd (no_kind _ _ e)
      go false false false true one two None e = absurd (no_kind _ _ (second_empty _ _ e))
      go false false false false one two value e = absurd (no_kind _ _ e)

  -- which word that is
  as_word : (waits : Bool) (w name : Text) (value : Option Text) → long_of w ≡ Some (name, value) → Long name value → Word waits h w
  as_word waits w name value e (is_check name_is none settles lacks) =
      checks (long_word_is w name value e ∙ (λ i. codes "--" ++ spelled (sym name_is i) (none i))) settles lacks
  as_word waits w name value e (is_slots name_is none settles) =
      asks (long_word_is w name value e ∙ (λ i. codes "--" ++ spelled (sym name_is i) (none i))) settles
  as_word waits w name value e (has_value text name_is some settles lacks passes) =
      tells text (long_word_is w name value e ∙ (λ i. codes "--" ++ spelled (sym name_is i) (some i))) settles lacks passes

  module _ (w : Text) (no_end : bytes_eq w (codes "--") ≡ false) (no_long : long_of w ≡ None) where
    abbrev met_short : Bool → Option Text → Held × Step
    met_short waits s = short_or_plain rules (waiting_if waits) w s h

    -- a word with no long name that passes is a value
    plain_is : (s : Option Text) → short_of w ≡ s → met_short true s ≡ plain_word rules (option slots_id) w h
        → subcommand_or_other rules None (option slots_id) 1 w h ≡ plain_word rules (option slots_id) w h
    plain_is s is met =
        ap (λ (b : Bool). if b then (h, trailing 1) else long_or_other rules (option slots_id) w (long_of w) h) no_end
        ∙ ap (λ (l : Option (Text × Option Text)). long_or_other rules (option slots_id) w l h) no_long
        ∙ ap (met_short true) is ∙ met

    abbrev met_flags : Bool → ℕ → Text → Option ℕ → Held × Step
    met_flags waits more flags first =
        let met = bundle_step rules first flags 0 plain h (bundle_met rules more) in
        after_flag rules (waiting_if waits) w met.0 met.1

    short_word : (waits : Bool) (s : Option Text) → short_of w ≡ s
        → or_else (option_map_or (λ flags. bundle_fault rules false flags h) s [])
        (step_fault top 1 (met_short waits s).0 (met_short waits s).1) ≡ []
        → Word waits h w
    unfolding clap_on_literals
    short_word true None is e = is_value refl (plain_is None is refl)
    short_word false None is e = absurd (no_kind _ _ e)
    short_word true (Some []) is e = is_value refl (plain_is (Some []) is refl)
    short_word false (Some []) is e = absurd (no_kind _ _ e)
    short_word waits (Some (x ∷ xs)) is e = go waits (slice_get (chars (x ∷ xs)) 0) refl e
      where
        go : (waits : Bool) (first : Option ℕ) → slice_get (chars (x ∷ xs)) 0 ≡ first
            → or_else (bundle_step_fault rules false first (x ∷ xs) 0 h (flags_fault rules false (length xs)))
            (step_fault top 1 (met_flags waits (length xs) (x ∷ xs) first).0 (met_flags waits (length xs) (x ∷ xs) first).1) ≡ []
            → Word waits h w
        go true None at e = is_value refl (plain_is (Some (x ∷ xs)) is (ap (met_flags true (length xs) (x ∷ xs)) at))
        go false None at e = absurd (no_kind _ _ e)
        go waits (Some c) at e = absurd (no_short_flag c _ _ (first_empty _ _ e))

  abbrev met_word : Bool → Text → Held × Step
  met_word waits w = subcommand_or_other rules None (waiting_if waits) 1 w h

  abbrev met_long : Bool → Text → Option (Text × Option Text) → Held × Step
  met_long waits w l = long_or_other rules (waiting_if waits) w l h

  -- what a word is that passes, where one waits to be a value and where none does
  pub word_taken : (waits : Bool) (w : Text)
      → or_else (other_fault top None w h) (step_fault top 1 (met_word waits w).0 (met_word waits w).1) ≡ []
      → Word waits h w
  word_taken waits w e = go (bytes_eq w (codes "--")) refl e
    where
      long : bytes_eq w (codes "--") ≡ false → (l : Option (Text × Option Text)) → long_of w ≡ l
          → or_else (flag_word_fault rules false l w h) (step_fault top 1 (met_long waits w l).0 (met_long waits w l).1) ≡ []
          → Word waits h w
      long no_end None is e = short_word w no_end is waits (short_of w) refl e
      long no_end (Some p) is e = as_word waits w p.0 p.1 is (long_passes p.0 p.1 (first_empty _ _ e))

      go : (is_end : Bool) → bytes_eq w (codes "--") ≡ is_end
          → or_else (if is_end then [] else flag_word_fault rules false (long_of w) w h)
          (step_fault top 1 (if is_end then (h, trailing 1) else met_long waits w (long_of w)).0
          (if is_end then (h, trailing 1) else met_long waits w (long_of w)).1) ≡ []
          → Word waits h w
      go true is e = ends ((bytes_eq-Decides w (codes "--")).0 is)
      go false is e = long is (long_of w) refl e
