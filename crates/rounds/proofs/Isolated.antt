-- Texts of an account over data sets that look alike to it, and between them whatever others hand in.
use Rattle.std.proofs.Common.{◌≡◌, ℕ, zero, suc, List, [], ◌∷◌, ◌++◌, Some, refl, sym, ap, ◌∙◌, subst, nat_eq}
use Rattle.std.specs.{List.{AllByRecursion, IsDistinct}, Map.{keys_of}, Cmp.Lexicographic.{pointwise}}
use Rattle.mon_access.specs.{declared.account.Account.{Account}, Accounts.{find_account}}
use Rattle.mon_catalogue.specs.Sets.{Sets, NamesDiffer}
use Rattle.mon_monitor.specs.{SystemStates.{first_system}, Agreeing.{LooksAlike, Both}, Isolation.{IsOwn, Isolated}, Printouts.{Printout, printouts_text}}
use Rattle.deck_syntax.specs.Decks.{Asked, Commands, Enters, Gives, Drains}
use Rattle.deck_driver.specs.RunStates.{events_of}
use Rattle.deck_run.proofs.Isolated.{no_job_at_first}
use Rattle.preflight.specs.Examined.{IsOwn as IsOwnCard}
use Rattle.rounds.specs.Delivery.{text_events}
use Rattle.rounds.specs.Isolation.{TextRun, ran, left_by, Visit, IsOwnText, FindsAlike, answers, IsAnsweredAlike, TextsIsolated, SitesIsolated}
use Rattle.frame_laws.specs.Laws.{NamesStayApart}

own_events : (account : Account) (own : List ℕ) → own ≡ account.name → (asked : List Asked) (k : ℕ) → AllByRecursion (IsOwnCard own) asked
    → AllByRecursion (IsOwn account) (events_of k (asked ++ Drains ∷ []))
own_events account own is [] k h = (tt, tt)
own_events account own is (Commands command ∷ asked) k h = (h.0 ∙ is, own_events account own is asked k h.1)
own_events account own is (Enters job ∷ asked) k h = (h.0 ∙ is, own_events account own is asked (suc k) h.1)
own_events account own is (Gives turn ∷ asked) k h = (tt, own_events account own is asked k h.1)
own_events account own is (Drains ∷ asked) k h = (tt, own_events account own is asked k h.1)

pub texts_isolated : Isolated → TextsIsolated
texts_isolated isolated slots accounts account run sets others known differ alike own =
    let both = isolated account (first_system slots accounts sets) (first_system slots accounts others) (record {
      accounts = refl;
      known = known;
      scheduler = record {
        slots = refl;
        own = λ s slot h. absurd (no_job_at_first slots s slot h);
        names = differ;
        sets = alike;
        ties = λ s slot h. absurd (no_job_at_first slots s slot h);
      };
    }) (text_events run.jobs run.text) (own_events account run.text.own own.own run.text.asked (suc run.jobs) own.handed.are_own) run.marks in
    record { printouts = both.printouts; after = both.after.scheduler.sets }

module _ (apart : NamesStayApart) (slots : ℕ) (accounts : List Account) where
  ran_apart : (run : TextRun) (sets : Sets) → NamesDiffer sets → NamesDiffer (ran slots accounts run sets).after.scheduler.sets
  ran_apart run sets differ = apart slots accounts (text_events run.jobs run.text) run.marks sets differ

  left_apart : (runs : List TextRun) (sets : Sets) → NamesDiffer sets → NamesDiffer (left_by slots accounts runs sets)
  left_apart [] sets differ = differ
  left_apart (run ∷ runs) sets differ = left_apart runs (ran slots accounts run sets).after.scheduler.sets (ran_apart run sets differ)

pub sites_isolated : Isolated → NamesStayApart → SitesIsolated
sites_isolated isolated apart slots accounts account sets others known differ differ' [] alike = refl
sites_isolated isolated apart slots accounts account sets others known differ differ' (visit ∷ visits) alike =
    let mine = left_by slots accounts visit.here sets in
    let theirs = left_by slots accounts visit.there others in
    let mine_differ = left_apart apart slots accounts visit.here sets differ in
    let theirs_differ = left_apart apart slots accounts visit.there others differ' in
    let one = texts_isolated isolated slots accounts account visit.own mine theirs known mine_differ alike.0 alike.1 in
    let p = ran slots accounts visit.own mine in
    let q = ran slots accounts visit.own theirs in
    ap (λ (l : List Printout). printouts_text l ∷ answers slots accounts (λ v. v.here) visits p.after.scheduler.sets) one.printouts
    ∙ ap (λ (l : List (List ℕ)). printouts_text q.printouts ∷ l)
    (sites_isolated isolated apart slots accounts account p.after.scheduler.sets q.after.scheduler.sets known
    (ran_apart apart slots accounts visit.own mine mine_differ) (ran_apart apart slots accounts visit.own theirs theirs_differ) visits alike.2)
