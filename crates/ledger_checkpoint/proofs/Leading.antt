-- What pieces and changes come to.
use Rattle.std.proofs.Common.{◌≡◌, ◌⊎◌, inl, inr, ℕ, List, [], ◌∷◌, ◌++◌, map, Option, Some, None, refl, sym, ap, ◌∙◌, subst, arith}
use Rattle.std.specs.{Option.{option_and_then}, List.{AllByRecursion, IsDistinct}}
use Rattle.mon_catalogue.specs.{declared.data_set.DataSet.{DataSet}, Sets.{Sets, NamesDiffer}, Stored.{IsStored, ArePrintable}}
use Rattle.ledger_text.specs.{Text.{ReadsBack, Collide}, Digests.{digest_of}, Records.{Said}}
use Rattle.ledger_index.specs.{Index.{Index, Head}, Laws.{OpensOne}}
use Rattle.ledger_sets.specs.Changes.{whole, change_text}
use Rattle.ledger_sets.specs.Applying.{Site, no_site, with_sets, with_jobs, tabled, after_said, after_all, after_change, after_changes}
use Rattle.ledger_sets.specs.Laws.{ChangesLead, TextsLead}
use Rattle.ledger_checkpoint.specs.{Checkpoints.{piece_of, head_for, index_for, entries_from, rest_said, rest_of}, Taking.{AreTexts}}
use Rattle.ledger_checkpoint.specs.Laws.{PickedAreOwn, IsSmallSet, PiecesLead, IsWritable, ComesBack, GoesOn, OpensTheSame}
use Rattle.ledger_checkpoint.proofs.Picked.{all_are_own}

-- ---- changes behind others

and_then : (one two : List (List ℕ)) (site : Site) → after_changes (one ++ two) site ≡ option_and_then (after_changes two) (after_changes one site)
and_then [] two site = refl
and_then (change ∷ one) two site = by (after_change change site) (λ next. and_then one two next)
  where
    by : (o : Option Site) → ((next : Site) → after_changes (one ++ two) next ≡ option_and_then (after_changes two) (after_changes one next))
        → option_and_then (after_changes (one ++ two)) o ≡ option_and_then (after_changes two) (option_and_then (after_changes one) o)
    by None rest = refl
    by (Some next) rest = rest next

pub goes_on : GoesOn
goes_on changes more site came = sym (and_then changes more no_site ∙ ap (option_and_then (after_changes more)) came)

-- ---- pieces

none_differ : NamesDiffer []
unfolding IsDistinct
none_differ = tt

alone : (said : Said) (site : Site) → after_all (said ∷ []) site ≡ after_said said site
alone said site = by (after_said said site)
  where
    by : (o : Option Site) → option_and_then (after_all []) o ≡ o
    by None = refl
    by (Some next) = refl

module _ (texts_lead : TextsLead) where
  piece_is : (named : List ℕ × DataSet) (site : Site) → IsSmallSet named → after_change (piece_of named) site ≡ after_said (whole named) site
  piece_is named site small = texts_lead (whole named ∷ []) site small ∙ alone (whole named) site

  pieces_are : (sets : Sets) (site : Site) → AllByRecursion IsSmallSet sets → after_changes (map piece_of sets) site ≡ after_all (map whole sets) site
  pieces_are [] site small = refl
  pieces_are (named ∷ sets) site small =
      ap (option_and_then (after_changes (map piece_of sets))) (piece_is named site small.0)
      ∙ by (after_said (whole named) site) (λ next. pieces_are sets next small.1)
    where
      by : (o : Option Site) → ((next : Site) → after_changes (map piece_of sets) next ≡ after_all (map whole sets) next)
          → option_and_then (after_changes (map piece_of sets)) o ≡ option_and_then (after_all (map whole sets)) o
      by None rest = refl
      by (Some next) rest = rest next

  pub pieces_lead : ChangesLead → PiecesLead
  pieces_lead changes_lead sets stored printable small =
      pieces_are sets no_site small ∙ changes_lead no_site sets ((none_differ, omega arith), tt) tt stored printable

  rest_is : ReadsBack → (count : ℕ) (last course : List ℕ) (site : Site) → IsWritable count last course site
      → after_changes (rest_of (head_for count last course site) ∷ []) (with_sets no_site site.sets) ≡ Some site
  rest_is back count last course site writable =
      ap (option_and_then (after_changes []))
      (texts_lead (rest_said (head_for count last course site)) (with_sets no_site site.sets) writable.rest
      ∙ ap (λ (o : Option (List (List ℕ))). option_and_then (after_all []) (tabled o (with_jobs (with_sets no_site site.sets) site.jobs)))
      (back (site.accounts ∷ site.users ∷ site.limits ∷ []) writable.tables))

pub comes_back : TextsLead → ReadsBack → PiecesLead → GoesOn → ComesBack
comes_back texts_lead back lead goes count last course site writable =
    sym (goes (map piece_of site.sets) (rest_of (head_for count last course site) ∷ []) (with_sets no_site site.sets)
    (lead site.sets writable.stored writable.printable writable.pieces))
    ∙ rest_is texts_lead back count last course site writable

-- ---- the law

pub opens_the_same : OpensOne → PickedAreOwn → ComesBack → GoesOn → OpensTheSame
opens_the_same one picked_own comes goes changes site count last course text index texts came writable open_is fit =
    first (one (index_for count last course site) index count last text writable.small open_is)
  where
    second : index ≡ index_for count last course site → (texts ≡ map piece_of site.sets) ⊎ Collide digest_of
        → ((more : List (List ℕ)) → after_changes ((texts ++ rest_of index.head ∷ []) ++ more) no_site ≡ after_changes (changes ++ more) no_site) ⊎ Collide digest_of
    second same (inr collide) = inr collide
    second same (inl are) =
        let whole_site : after_changes (texts ++ rest_of index.head ∷ []) no_site ≡ Some site =
        ap (λ (ts : List (List ℕ)). after_changes (ts ++ rest_of index.head ∷ []) no_site) are
        ∙ ap (λ (i : Index). after_changes (map piece_of site.sets ++ rest_of i.head ∷ []) no_site) same
        ∙ comes count last course site writable in
        inl (λ more. sym (goes (texts ++ rest_of index.head ∷ []) more site whole_site) ∙ goes changes more site came)

    first : (index ≡ index_for count last course site) ⊎ Collide digest_of
        → ((more : List (List ℕ)) → after_changes ((texts ++ rest_of index.head ∷ []) ++ more) no_site ≡ after_changes (changes ++ more) no_site) ⊎ Collide digest_of
    first (inr collide) = inr collide
    first (inl same) = second same (all_are_own picked_own 0 site.sets texts (subst (λ (i : Index). AreTexts i.entries texts) same fit))
