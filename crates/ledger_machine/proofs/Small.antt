-- What a text leaves and changes can be written.
use Rattle.std.proofs.Common.{◌≡◌, ◌<◌, ◌≤◌, ◌^◌, ℕ, suc, ◌+◌, Bool, true, false, List, [], ◌∷◌, ◌++◌, length, map, drop, Some, Result, Ok, Err, OnOk, refl, sym, ap, ◌∙◌, subst, arith}
use Rattle.std.specs.Prelude.{if◌then◌else◌, ◌==◌, ◌&&◌, nat_eq}
use Rattle.std.specs.List.{AllByRecursion}
use Rattle.std.specs.Cmp.Lexicographic.{pointwise}
use Rattle.std.proofs.lemmas.List.Sums.{common_prefix_len-le}
use Rattle.std.specs.Str.Lines.{lines}
use Rattle.mon_access.specs.declared.account.Account.{Account}
use Rattle.mon_catalogue.specs.declared.data_set.DataSet.{DataSet}
use Rattle.mon_catalogue.specs.Sets.{Sets}
use Rattle.mon_catalogue.specs.Stored.{IsStored, IsStoredSet, ArePrintable}
use Rattle.mon_monitor.specs.SystemStates.{SystemState, first_system}
use Rattle.mon_monitor.specs.Played.{played}
use Rattle.mon_monitor.specs.Audit.{audit_of}
use Rattle.deck_syntax.specs.Decks.{Asked}
use Rattle.deck_syntax.specs.Sections.{Closed}
use Rattle.deck_run.specs.Laws.{jobs_in}
use Rattle.preflight.specs.Examined.{Verdict, Admits}
use Rattle.preflight.specs.Rounds.{Handed}
use Rattle.preflight.specs.inner.Reading.{examined}
use Rattle.ledger_text.specs.Text.{commit_text, AreShort}
use Rattle.ledger_text.specs.Records.{Said, Keep, fields_of, numbers_of}
use Rattle.mon_catalogue.specs.Text.{text_of}
use Rattle.ledger_run.proofs.Writing.{short}
use Rattle.ledger_sets.specs.Applying.{Site, no_site, after_changes}
use Rattle.ledger_sets.specs.Changes.{shared, kept, same_head, changed, changes_between, run_changes, whole, gone, said_text, change_text}
use Rattle.ledger_sets.specs.Laws.{AreSmall}
use Rattle.ledger_machine.specs.Running.{asked_events, asked_ahead}
use Rattle.ledger_machine.specs.Steps.{slots, admitted, handed_in, text_in, accounts_of, ran_over, changes_over}
use Rattle.ledger_machine.specs.Decks.{IsWritten}
use Rattle.ledger_machine.specs.Written.{IsWrittenAsked, LeavesWritten, LeavesWrittenBehind}

pub ok_so : {T E P Q : Type 0} (r : Result T E) → (P → Q) → OnOk r P → OnOk r Q
ok_so (Ok x) f h = f h
ok_so (Err e) f h = tt

-- ---- numbers

abbrev Few : Said → Type 0
Few said = AllByRecursion (λ n. n < 2 ^ 63) (numbers_of said)

all_both : {A : Type 0} (P : A → Type 0) (xs ys : List A) → AllByRecursion P xs → AllByRecursion P ys → AllByRecursion P (xs ++ ys)
all_both P [] ys a b = b
all_both P (x ∷ xs) ys a b = (a.0, all_both P xs ys a.1 b)

few_kept : (name : List ℕ) (was is : List (List ℕ)) (n : ℕ) → n < 2 ^ 63 → AllByRecursion Few (kept name was is n)
few_kept name was is n less = by (n == length was && n == length is)
  where
    by : (b : Bool) → AllByRecursion Few (if b then [] else Keep 0 name n (text_of (drop n is)) ∷ [])
    by true = tt
    by false = ((omega arith, (less, tt)), tt)

few_changed : (name : List ℕ) (was is : DataSet) → length was.records ≤ 100000 → AllByRecursion Few (changed name was is)
few_changed name was is most = by (same_head was is)
  where
    less : shared was.records is.records < 2 ^ 63
    less = let h = (common_prefix_len-le (pointwise nat_eq) was.records is.records).0 in omega (arith, h, most)

    by : (b : Bool) → AllByRecursion Few (if b then kept name was.records is.records (shared was.records is.records) else whole (name, is) ∷ [])
    by true = few_kept name was.records is.records (shared was.records is.records) less
    by false = ((omega arith, tt), tt)

few_whole : (after : Sets) → AllByRecursion Few (map whole after)
few_whole [] = tt
few_whole (new ∷ after) = ((omega arith, tt), few_whole after)

few_between : (before after : Sets) → AllByRecursion IsStoredSet before → AllByRecursion Few (changes_between before after)
few_between [] after stored = few_whole after
few_between (old ∷ before) [] stored = ((omega arith, tt), few_between before [] stored.1)
few_between (old ∷ before) (new ∷ after) stored = by (pointwise nat_eq old.0 new.0) (few_between before after stored.1) (few_between before (new ∷ after) stored.1)
  where
    by : (b : Bool) → AllByRecursion Few (changes_between before after) → AllByRecursion Few (changes_between before (new ∷ after))
        → AllByRecursion Few (if b then changed old.0 old.1 new.1 ++ changes_between before after else gone old ∷ changes_between before (new ∷ after))
    by true met other = all_both Few (changed old.0 old.1 new.1) (changes_between before after) (few_changed old.0 old.1 new.1 stored.0.4.0) met
    by false met other = ((omega arith, tt), other)

-- ---- and lengths

short_fields : (changes : List Said) → AllByRecursion (λ field. length field < 2 ^ 63) (map said_text changes) → AllByRecursion (λ said. AreShort (fields_of 0 said)) changes
short_fields [] all = tt
short_fields (said ∷ changes) all = (short (fields_of 0 said) all.0, short_fields changes all.1)

pub small : (jobs : ℕ) (audit : List ℕ) (before after : Sets) → AllByRecursion IsStoredSet before → jobs < 2 ^ 63 → length (change_text (run_changes jobs audit before after)) < 2 ^ 63
    → AreSmall (run_changes jobs audit before after)
small jobs audit before after stored few less =
    let texts : AreShort (map said_text (run_changes jobs audit before after)) = short (map said_text (run_changes jobs audit before after)) less in
    record {
      numbers = ((few, tt), few_between before after stored);
      fields = short_fields (run_changes jobs audit before after) texts.1;
      texts = texts;
    }

-- ---- what was played is what the text does

pub written_so : (site : Site) (accounts : List Account) (asked : List Asked) (jobs' : ℕ) (w w' : SystemState) (told told' : List ℕ) (sets : Sets)
    → w ≡ first_system slots accounts site.sets → told ≡ []
    → (played (asked_events site.jobs asked) [] w).after ≡ w' → told' ≡ told ++ audit_of (asked_events site.jobs asked) [] w → site.jobs + jobs_in asked ≡ jobs'
    → sets ≡ w'.scheduler.sets → IsStored sets → ArePrintable sets → AreSmall (run_changes jobs' told' site.sets sets) → IsWrittenAsked site accounts asked
written_so site accounts asked jobs' w w' told told' sets first silent leaves tells counted left stored printable small =
    let events = asked_events site.jobs asked in
    let start = first_system slots accounts site.sets in
    let lines_are : told' ≡ audit_of events [] start =
    tells ∙ ap (λ (t : List ℕ). t ++ audit_of events [] w) silent ∙ ap (λ (v : SystemState). audit_of events [] v) first in
    let sets_are : sets ≡ (played events [] start).after.scheduler.sets =
    left ∙ ap (λ (v : SystemState). v.scheduler.sets) (sym leaves) ∙ ap (λ (v : SystemState). (played events [] v).after.scheduler.sets) first in
    record {
      stored = subst IsStored sets_are stored;
      printable = subst ArePrintable sets_are printable;
      small =
          subst (λ (s : Sets). AreSmall (run_changes (site.jobs + jobs_in asked) (audit_of events [] start) site.sets s)) sets_are
          (subst (λ (l : List ℕ). AreSmall (run_changes (site.jobs + jobs_in asked) l site.sets sets)) lines_are
          (subst (λ (n : ℕ). AreSmall (run_changes n told' site.sets sets)) (sym counted) small));
    }

-- ---- the text of a file

same_accounts : (a b : List Account) → Some a ≡ Some b → a ≡ b
same_accounts a b e = cc (e)

same_text : (a b : Handed) → Some a ≡ Some b → a ≡ b
same_text a b e = cc (e)

pub written_file : (file line own text : List ℕ) (site : Site) (accounts : List Account) → lines file ≡ line ∷ lines text → own ≡ line
    → examined own 1 Closed (lines text) ≡ Admits (asked_ahead Closed (lines text)) → accounts_of site ≡ Some accounts
    → IsWrittenAsked site accounts (asked_ahead Closed (lines text)) → LeavesWritten file site
written_file file line own text site accounts parts same admits known w = record { written = λ others handed known' is. by others handed known' is }
  where
    it : Handed
    it = record { own = line; lines = lines text; asked = asked_ahead Closed (lines text) }

    here : text_in file ≡ Some it
    here =
        ap handed_in parts
        ∙ ap (λ (name : List ℕ). admitted line (lines text) (examined name 1 Closed (lines text))) (sym same)
        ∙ ap (λ (v : Verdict). admitted line (lines text) v) admits

    whole_one : IsWritten site accounts it
    whole_one = record { stored = w.stored; printable = w.printable; small = w.small }

    by : (others : List Account) (handed : Handed) → accounts_of site ≡ Some others → text_in file ≡ Some handed → IsWritten site others handed
    by others handed known' is =
        subst (λ (a : List Account). IsWritten site a handed) (same_accounts accounts others (sym known ∙ known'))
        (subst (λ (h : Handed). IsWritten site accounts h) (same_text it handed (sym here ∙ is)) whole_one)

same_site : (a b : Site) → Some a ≡ Some b → a ≡ b
same_site a b e = cc (e)

pub written_behind : (file : List ℕ) (behind : List (List ℕ)) (site : Site) → after_changes behind no_site ≡ Some site → LeavesWritten file site → LeavesWrittenBehind file behind
written_behind file behind site is leaves = record { leaves = λ other found. subst (LeavesWritten file) (same_site site other (sym is ∙ found)) leaves }
