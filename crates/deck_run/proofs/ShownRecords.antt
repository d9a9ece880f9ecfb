-- A printout with records is that of a granted card: the other printouts begin differently.
use Rattle.std.proofs.Common.{◌≡◌, ℕ, List, [], ◌∷◌, ◌++◌, Option, Some, None, refl, sym, ap, ◌∙◌, codes, get_or, arith}
use Rattle.std.proofs.lemmas.List.{append_cancel_left}
use Rattle.mon_access.specs.declared.{account.Account.{Account}, access.Decision.{Decision}, access.Decision.TheVariants.{Granted, Denied}}
use Rattle.mon_access.specs.Accounts.{find_account}
use Rattle.mon_catalogue.specs.{declared.data_set.DataSet.{DataSet}, Sets.{Sets, find_set}}
use Rattle.mon_guard.{specs.Deciding.{decision_on, to_read}, specs.inner.Parts.{by_decision}, proofs.Shorthand.{records_of}}
use Rattle.deck_lines.specs.declared.command.Command.{Command}
use Rattle.deck_lines.specs.declared.command.Command.TheVariants as command
use Rattle.mon_command.specs.{Commanded.{Records, answer_text, shown_as}, Commands.{heading}, Printouts.{records_text}}
use Rattle.mon_command.proofs.Shorthand.{served_if_known}
use Rattle.deck_run.specs.Laws.{printout, Meets, MayRead, Shows, ShowsWhereGranted, SaysWhy, DenialsSayWhy}

-- records begin with a blank, or with their number
no_account_text : (records : List (List ℕ)) → codes "REFUSED M2 NO ACCOUNT\n" ≡ records_text records → ⊥
no_account_text [] e = let third : ◌≡◌ {A = ℕ} 70 67 = ap (λ (xs : List ℕ). get_or xs 2 0) e in omega arith
no_account_text (r ∷ rs) e = let first : ◌≡◌ {A = ℕ} 82 32 = ap (λ (xs : List ℕ). get_or xs 0 0) e in omega arith

denial_text : (rest : List ℕ) (records : List (List ℕ)) → codes "DENIED " ++ rest ++ codes "\n" ≡ records_text records → ⊥
denial_text rest [] e = let first : ◌≡◌ {A = ℕ} 68 82 = ap (λ (xs : List ℕ). get_or xs 0 0) e in omega arith
denial_text rest (r ∷ rs) e = let first : ◌≡◌ {A = ℕ} 68 32 = ap (λ (xs : List ℕ). get_or xs 0 0) e in omega arith

-- what is printed below the card's own line, by what was found
abbrev below : Option Account → Option DataSet → List ℕ
below None set = codes "REFUSED M2 NO ACCOUNT\n"
below (Some account) set = answer_text (shown_as Records (records_of account set))

module _ (accounts : List Account) (sets : Sets) (asking name : List ℕ) where
  abbrev card : Command
  card = command.List asking name

  answered_is : (o : Option Account) → (let s = served_if_known o card sets in answer_text s.answer) ≡ below o (find_set name sets)
  answered_is None = refl
  answered_is (Some account) = refl

  printed_is : printout accounts sets card ≡ heading card ++ below (find_account accounts asking) (find_set name sets)
  printed_is = ap (λ t. heading card ++ t) (answered_is (find_account accounts asking))

  found : (account : Account) (set : DataSet) → Meets accounts sets asking name account set
      → printout accounts sets card ≡ heading card ++ answer_text (shown_as Records (by_decision set.acl (decision_on account set to_read) set.records))
  found account set meets =
      printed_is
      ∙ ap (λ o. heading card ++ below o (find_set name sets)) meets.known
      ∙ ap (λ o. heading card ++ below (Some account) o) meets.there

  shown : (account : Account) (set : DataSet) → Meets accounts sets asking name account set → MayRead account set → Shows accounts sets asking name set.records
  shown account set meets may =
      found account set meets ∙ ap (λ d. heading card ++ answer_text (shown_as Records (by_decision set.acl d set.records))) may

  granted : (records : List (List ℕ)) → Shows accounts sets asking name records
      → (account : Account) × (set : DataSet) × Meets accounts sets asking name account set × MayRead account set
  granted records shows =
      by_account (find_account accounts asking) refl (find_set name sets) refl (append_cancel_left (heading card) _ _ (sym printed_is ∙ shows))
    where
      by_found : (account : Account) (set : DataSet) → Meets accounts sets asking name account set → (d : Decision) → decision_on account set to_read ≡ d
          → answer_text (shown_as Records (by_decision set.acl d set.records)) ≡ records_text records
          → (account : Account) × (set : DataSet) × Meets accounts sets asking name account set × MayRead account set
      by_found account set meets Granted is same = (account, set, meets, is)
      by_found account set meets (Denied decider) is same = absurd (denial_text _ records same)

      by_account : (a : Option Account) → find_account accounts asking ≡ a → (s : Option DataSet) → find_set name sets ≡ s
          → below (find_account accounts asking) (find_set name sets) ≡ records_text records
          → (account : Account) × (set : DataSet) × Meets accounts sets asking name account set × MayRead account set
      by_account None a s e same = absurd (no_account_text records (sym (ap (λ o. below o (find_set name sets)) a) ∙ same))
      by_account (Some account) a None e same =
          absurd (denial_text (codes "NO DATA SET") records (sym (ap (λ o. below o (find_set name sets)) a ∙ ap (λ o. below (Some account) o) e) ∙ same))
      by_account (Some account) a (Some set) e same =
          by_found account set (record { known = a; there = e }) (decision_on account set to_read) refl
          (sym (ap (λ o. below o (find_set name sets)) a ∙ ap (λ o. below (Some account) o) e) ∙ same)

  why : SaysWhy accounts sets asking name
  why = record {
    denied = λ account set decider meets no.
        found account set meets ∙ ap (λ d. heading card ++ answer_text (shown_as Records (by_decision set.acl d set.records))) no;
    no_set = λ account known missing.
        printed_is
        ∙ ap (λ o. heading card ++ below o (find_set name sets)) known
        ∙ ap (λ o. heading card ++ below (Some account) o) missing;
    no_account = λ missing. printed_is ∙ ap (λ o. heading card ++ below o (find_set name sets)) missing;
  }

pub shows_where_granted : ShowsWhereGranted
shows_where_granted accounts sets asking name = (shown accounts sets asking name, granted accounts sets asking name)

pub denials_say_why : DenialsSayWhy
denials_say_why accounts sets asking name = why accounts sets asking name
