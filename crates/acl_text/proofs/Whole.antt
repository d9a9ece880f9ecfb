-- The laws, and what they say of a call that reads. What holds of the texts of entries holds of both forms.
use Rattle.std.proofs.Common.{◌≡◌, ◌∙◌, ap, sym, subst, refl, ℕ, List, Option, Some, None}
use Rattle.std.{specs.Prelude.{◌↔◌, Result, Ok, Err, IfOk, IsErrOf}, proofs.lemmas.List.Sorted.{IsPermutation-refl, IsPermutation-sym, IsPermutation-trans}}
use Rattle.mon_text.specs.{declared.stop.Stop.{Stop}, declared.stop.Stop.TheVariants.{Refused}, Stops.{Gives}}
use Rattle.mon_acl.specs.{declared.entries.Entry.{Entry}, declared.refusals.AclError.{AclError}, Entries.{mask_of}}
use Rattle.acl_text.specs.{Texts.{pieces, long_pieces, SpellList}, Refusals.{◌>>=◌, entries_of, lacking, refusal_in, first_refusal}}
use Rattle.acl_text.specs.{Reading.{arranged, read_pieces, read_short, read_long}, Printing.{short_form, long_form}}
use Rattle.acl_text.proofs.{Spelling.{reordered}, Lines.{reordered_lines}, Lacks.{whole}}
use Rattle.acl_text.specs.Laws.{ReadingSpells, OneList, RefusedOrSpells, ReadsBack, OneForm, OneOrder, AnyOrder, LongReadingSpells, OneLongList, LongRefusedOrSpells, LongReadsBack, OneLongForm, AnyLineOrder, CommentsSayNothing}
use Rattle.acl_text.proofs.Listed as listed
use Rattle.acl_text.proofs.Comments as comments

-- ---- the texts of entries, in either form

read_or_spelled : (texts : List (List ℕ)) (es : List Entry) → SpellList texts es ↔ (read_pieces texts ≡ Ok es)
read_or_spelled texts es = (listed.list_is_read texts es, listed.read_is_list texts es)

-- what is refused, and what is not
refusal_of_err : (texts : List (List ℕ)) (e : AclError) → read_pieces texts ≡ Err e → first_refusal texts ≡ Some e
refusal_of_err texts e h = at (entries_of texts) h
  where
    lacks : (all : List Entry) (o : Option AclError) → whole o (arranged all) ≡ Err e → o ≡ Some e
    lacks all (Some d) h = let k : Err d ≡ Err e = h in cc
    lacks all None h = absurd (let k : Ok (arranged all) ≡ Err e = h in cc)

    at : (r : Result (List Entry) AclError) → (r >>= λ all. whole (lacking all) (arranged all)) ≡ Err e → refusal_in r ≡ Some e
    at (Ok all) h = lacks all (lacking all) h
    at (Err d) h = let k : Err d ≡ Err e = h in cc

refusal_of_ok : (texts : List (List ℕ)) (es : List Entry) → read_pieces texts ≡ Ok es → first_refusal texts ≡ None
refusal_of_ok texts es h = at (entries_of texts) h
  where
    lacks : (all : List Entry) (o : Option AclError) → whole o (arranged all) ≡ Ok es → o ≡ None
    lacks all (Some d) h = absurd (let k : Err d ≡ Ok es = h in cc)
    lacks all None h = refl

    at : (r : Result (List Entry) AclError) → (r >>= λ all. whole (lacking all) (arranged all)) ≡ Ok es → refusal_in r ≡ None
    at (Ok all) h = lacks all (lacking all) h
    at (Err d) h = absurd (let k : Err d ≡ Ok es = h in cc)

spells : (texts : List (List ℕ)) → first_refusal texts ≡ None → (es : List Entry) × SpellList texts es
spells texts h = at (read_pieces texts) refl
  where
    at : (r : Result (List Entry) AclError) → read_pieces texts ≡ r → (es : List Entry) × SpellList texts es
    at (Ok es) e = (es, listed.read_is_list texts es e)
    at (Err d) e = absurd (let k : None ≡ Some d = sym h ∙ refusal_of_err texts d e in cc)

refused_or_spelled : (texts : List (List ℕ)) → (first_refusal texts ≡ None) ↔ ((es : List Entry) × SpellList texts es)
refused_or_spelled texts = (spells texts, λ s. refusal_of_ok texts s.0 (listed.list_is_read texts s.0 s.1))

-- ---- the short form

pub reading_spells : ReadingSpells
reading_spells text = read_or_spelled (pieces text)

pub one_list : OneList
one_list text = listed.one_list (pieces text)

pub refused_or_spells : RefusedOrSpells
refused_or_spells text = refused_or_spelled (pieces text)

pub any_order : AnyOrder
any_order = reordered

pub reads_back : ReadsBack
reads_back es acl = listed.list_is_read (pieces (short_form es)) es (reordered es es acl (IsPermutation-refl es))

pub one_form : OneForm
one_form es fs acl bcl same = let e : Ok es ≡ Ok fs = sym (reads_back es acl) ∙ ap read_short same ∙ reads_back fs bcl in cc

-- ---- the long form

pub long_reading_spells : LongReadingSpells
long_reading_spells text = read_or_spelled (long_pieces text)

pub one_long_list : OneLongList
one_long_list text = listed.one_list (long_pieces text)

pub long_refused_or_spells : LongRefusedOrSpells
long_refused_or_spells text = refused_or_spelled (long_pieces text)

pub any_line_order : AnyLineOrder
any_line_order = reordered_lines

pub long_reads_back : LongReadsBack
long_reads_back es acl = listed.list_is_read (long_pieces (long_form es)) es (reordered_lines (mask_of es) es es acl (IsPermutation-refl es))

pub one_long_form : OneLongForm
one_long_form es fs acl bcl same =
    let e : Ok es ≡ Ok fs = sym (long_reads_back es acl) ∙ ap read_long same ∙ long_reads_back fs bcl in cc

pub comments_say_nothing : CommentsSayNothing
comments_say_nothing = comments.say_nothing

-- ---- one order

pub one_order : OneOrder
one_order es v =
    let c = listed.canonical_order es v in
    (c.0, c.1, c.2, λ ds m s. listed.one_order ds c.0 s c.2.canonical (IsPermutation-trans ds es c.0 (IsPermutation-sym es ds m) c.1))

-- ---- a call that reads

pub gives_list : (texts : List (List ℕ)) (r : Result (List Entry) (Stop AclError)) → Gives (λ es. es) r (read_pieces texts) → IfOk r (λ es. SpellList texts es)
gives_list texts (Ok es) h = listed.read_is_list texts es h
gives_list texts (Err s) h = tt

pub gives_only : (texts : List (List ℕ)) (r : Result (List Entry) (Stop AclError)) → Gives (λ es. es) r (read_pieces texts) →
    (es : List Entry) → SpellList texts es → Gives (λ es. es) r (Ok es)
gives_only texts r h es s = subst (λ (read : Result (List Entry) AclError). Gives (λ es. es) r read) (listed.list_is_read texts es s) h

pub gives_refusal : (texts : List (List ℕ)) (r : Result (List Entry) (Stop AclError)) → Gives (λ es. es) r (read_pieces texts) →
    (refusal : AclError) → IsErrOf r (Refused refusal) → first_refusal texts ≡ Some refusal
gives_refusal texts r h refusal is =
    refusal_of_err texts refusal (subst (λ (s : Result (List Entry) (Stop AclError)). Gives (λ es. es) s (read_pieces texts)) is h)
