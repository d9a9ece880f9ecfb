-- Only the index is opened whose digest the ledger has.
use Rattle.std.proofs.Common.{◌≡◌, ◌⊎◌, inl, inr, ℕ, Bool, true, false, List, Option, Some, None, Result, Ok, Err, refl, sym, ap, ◌∙◌, arith}
use Rattle.std.specs.{Prelude.{◌≢◌, ◌==◌, ◌&&◌, bytes_eq, if◌then◌else◌}, Option.{option_and_then, option_map_or}}
use Rattle.std.proofs.lemmas.{Bool.Decides.{nat_tests}, Slice.Eq.{bytes_eq-Decides}}
use Rattle.ledger_text.specs.{Text.{RefusesParts as TextsRefuseParts, Collide}, Digests.{digest_of}}
use Rattle.ledger_index.specs.declared.fault.CheckpointFault.{CheckpointFault, TheVariants.{Changed, Broken, OtherChain}}
use Rattle.ledger_index.specs.{Index.{Index, index_fields, index_text, index_in, index_of}, Opening.{Sealed, of_chain}}
use Rattle.ledger_index.specs.Laws.{sealed_as, ReadsBack, OpensItself, RefusesParts, OpensOne}

itself : (xs : List ℕ) → bytes_eq xs xs ≡ true
itself xs = (bytes_eq-Decides xs xs).1 refl

same_number : (n : ℕ) → (n == n) ≡ true
same_number n = grind (arith, nat_tests)

abbrev chosen : Bool → Index → Result Index CheckpointFault
chosen b index = if b then Ok index else Err OtherChain

abbrev found : Sealed → Option Index → Result Index CheckpointFault
found sealed o = option_map_or (of_chain sealed) o (Err Broken)

abbrev unless_changed : Bool → Result Index CheckpointFault → Result Index CheckpointFault
unless_changed b r = if b then r else Err Changed

pub opens_itself : ReadsBack → OpensItself
opens_itself back index small =
    ap (λ (b : Bool). unless_changed b (found (sealed_as index) (index_of (index_text index)))) (itself (digest_of (index_text index)))
    ∙ ap (found (sealed_as index)) (back index small)
    ∙ ap (λ (b : Bool). chosen (b && bytes_eq index.head.last index.head.last) index) (same_number index.head.count)
    ∙ ap (λ (b : Bool). chosen b index) (itself index.head.last)

pub refuses_parts : TextsRefuseParts → RefusesParts
refuses_parts refuses index other sealed front c lost small is =
    by (bytes_eq (digest_of front) sealed.digest) (index_of front) (ap (option_and_then index_in) (refuses (index_fields index) front c lost small.fields is))
  where
    by : (b : Bool) (o : Option Index) → o ≡ None → unless_changed b (found sealed o) ≢ Ok other
    by true None none = λ e. cc (e)
    by true (Some i) none = λ e. cc (none)
    by false o none = λ e. cc (e)

module _ (back : ReadsBack) (index other : Index) (sealed : Sealed) (text : List ℕ) where
  is_other : (b : Bool) → chosen b index ≡ Ok other → other ≡ index
  is_other true e = cc (e)
  is_other false e = absurd (cc (e))

  opens_or : (a : Bool) → bytes_eq (digest_of text) (digest_of (index_text index)) ≡ a → (b : Bool) → bytes_eq text (index_text index) ≡ b
      → index_of (index_text index) ≡ Some index → unless_changed a (found sealed (index_of text)) ≡ Ok other → (other ≡ index) ⊎ Collide digest_of
  opens_or false d b t reads e = absurd (cc (e))
  opens_or true d true t reads e =
      let same : index_of text ≡ Some index = ap index_of ((bytes_eq-Decides text (index_text index)).0 t) ∙ reads in
      inl (is_other ((index.head.count == sealed.count) && bytes_eq index.head.last sealed.last) (sym (ap (found sealed) same) ∙ e))
  opens_or true d false t reads e = inr (record {
    one = text;
    other = index_text index;
    apart = λ is. (let s : bytes_eq text (index_text index) ≡ true = (bytes_eq-Decides text (index_text index)).1 is in cc (s, t));
    same = (bytes_eq-Decides (digest_of text) (digest_of (index_text index))).0 d;
  })

pub opens_one : ReadsBack → OpensOne
opens_one back index other count last text small e =
    opens_or back index other (record { count = count; last = last; digest = digest_of (index_text index) }) text
    (bytes_eq (digest_of text) (digest_of (index_text index))) refl (bytes_eq text (index_text index)) refl (back index small) e
