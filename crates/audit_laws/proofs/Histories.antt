-- The entries of a history, and what stands in them.
use Rattle.std.proofs.Common.{◌≡◌, ℕ, Bool, true, false, List, [], ◌∷◌, ◌++◌, map, Option, Some, None, refl, sym, ap, ◌∙◌, subst, inl, inr, cond}
use Rattle.std.{specs.Prelude.{◌==◌, IfSome}, specs.List.{AllByRecursion}, specs.Str.Lines.{lines}, proofs.lemmas.Bool.Decides.{Decides-eqb}}
use Rattle.mon_text.specs.Names.{IsName}
use Rattle.mon_access.specs.declared.account.Account.{Account}
use Rattle.mon_catalogue.specs.Sets.{Sets}
use Rattle.mon_command.specs.Commanded as commands
use Rattle.mon_command.specs.{Commanded.{answered}, Saying.{said_of}}
use Rattle.mon_unit.specs.{Serving.{serve}, Laws.{target_of}}
use Rattle.deck_syntax.specs.{declared.job_deck.JobDeck.{JobDeck}, Laws.{ReadingSpells, GoodBeginnings}, Sections.{deck_of}}
use Rattle.deck_syntax.specs.Decks.{Asked as Card, Ending, Stopped, Refused as DeckRefused}
use Rattle.scheduler.specs.{States.{SlotState}, Loads.{with_ties, first_units}, Exchanged.{Exchanged}}
use Rattle.audit.specs.Laws.{IsNamed}
use Rattle.mon_monitor.specs.{Events.{Event, Serve, Load, Drain}, History.{Entry, Entered, Refused, Asked, Ended, Ordered, is_of, own, cards_in}}
use Rattle.mon_monitor.specs.Headline.{IsJob, Course, job_of, cards_of, Lead}
use Rattle.deck_driver.specs.RunStates.{events_of, played_run_state}
use Rattle.deck_run.specs.{Runs.{run_state_of}, Headline.{Headline, history_of, asked_of}}
use Rattle.audit_laws.specs.{Sound.{ListsAreSpelled, AreWellNamed, IsReasonNamed, IsSaidNamed, IsSound}, Laws.{HistoriesAreSound}}
use Rattle.audit_laws.proofs.{Sets.{answers_named}, Exchanges.{IsFor, cards_tied, follow_named, serve_answers, serve_stays}}
use Rattle.audit_laws.proofs.Decks.{HaveNames, IsNamedJob, AreNamedEvents, known_name, deck_named, events_named, cards_named, job_named}

-- OF JOBS

-- what a job's own entries name
abbrev IsOfNamed : Entry → Type 0
IsOfNamed (Entered deck) = Unit {0}
IsOfNamed (Refused deck refusal) = Unit {0}
IsOfNamed (Asked e) = IsName e.account.name × IsNamed (target_of e.reach.units e.request)
IsOfNamed (Ended end) = IsName end.account
IsOfNamed (Ordered known sets command answer) = Unit {0}

abbrev AreOfNamed : List Entry → Type 0
AreOfNamed entries = AllByRecursion IsOfNamed entries

all_asked : (account : Account) → IsName account.name → (asked : List Exchanged) → AllByRecursion (IsFor account) asked → (last : List Entry) → AreOfNamed last
    → AreOfNamed (map Asked asked ++ last)
all_asked account named [] h last more = more
all_asked account named (e ∷ asked) h last more =
    ((subst (λ (a : Account). IsName a.name) (sym h.0.0) named, h.0.1), all_asked account named asked h.1 last more)

nothing_more : (entries : List Entry) → entries ++ [] ≡ entries
nothing_more [] = refl
nothing_more (entry ∷ entries) = ap (λ (l : List Entry). entry ∷ l) (nothing_more entries)

module _ (accounts : List Account) (names : HaveNames accounts) (deck : JobDeck) (named : IsNamedJob deck) where
  course_named : (c : Course accounts deck) → IsName c.account.name
  course_named c = subst (λ (o : Option Account). IfSome o (λ account. IsName account.name)) c.known (known_name accounts deck.account names)

  course_asked : (c : Course accounts deck) (last : List Entry) → AreOfNamed last → AreOfNamed (map Asked c.asked ++ last)
  course_asked c last more =
      all_asked c.account (course_named c) c.asked
      (follow_named deck.number c.account c.asked (with_ties deck.ties (first_units deck.lines)) c.units c.follow (cards_tied deck.ties deck.lines named.1)) last more

  job_entries : (slots : List (Option SlotState)) (entries : List Entry) → IsJob accounts slots (Some deck) entries → AreOfNamed entries
  job_entries slots entries (inl was) = subst AreOfNamed (sym was.all) (tt, tt)
  job_entries slots entries (inr (inl goes)) =
      subst AreOfNamed (sym goes.all) (tt, subst AreOfNamed (nothing_more (map Asked goes.course.asked)) (course_asked goes.course [] tt))
  job_entries slots entries (inr (inr has)) =
      subst AreOfNamed (sym has.all)
      (tt, course_asked has.course (Ended has.end ∷ []) (subst IsName (sym has.account) (course_named has.course), tt))

own_rest : (n : ℕ) (entry : Entry) (entries : List Entry) → AreOfNamed (own n (entry ∷ entries)) → AreOfNamed (own n entries)
own_rest n entry entries = by (is_of n entry)
  where
    by : (b : Bool) → AreOfNamed (cond b (entry ∷ own n entries) (own n entries)) → AreOfNamed (own n entries)
    by true h = h.1
    by false h = h

own_first : (n : ℕ) (entry : Entry) (entries : List Entry) → is_of n entry ≡ true → AreOfNamed (own n (entry ∷ entries)) → IsOfNamed entry
own_first n entry entries is h = (subst (λ (b : Bool). AreOfNamed (cond b (entry ∷ own n entries) (own n entries))) is h).0

itself : (n : ℕ) → (n == n) ≡ true
itself n = (Decides-eqb n n).1 refl

-- so each job's own entries are, and then all are
all_of : (entries : List Entry) → ((n : ℕ) → AreOfNamed (own n entries)) → AreOfNamed entries
all_of [] h = tt
all_of (Entered deck ∷ entries) h = (tt, all_of entries (λ n. own_rest n (Entered deck) entries (h n)))
all_of (Refused deck refusal ∷ entries) h = (tt, all_of entries (λ n. own_rest n (Refused deck refusal) entries (h n)))
all_of (Asked e ∷ entries) h =
    (own_first e.number (Asked e) entries (itself e.number) (h e.number), all_of entries (λ n. own_rest n (Asked e) entries (h n)))
all_of (Ended end ∷ entries) h =
    (own_first end.number (Ended end) entries (itself end.number) (h end.number), all_of entries (λ n. own_rest n (Ended end) entries (h n)))
all_of (Ordered known sets command answer ∷ entries) h = (tt, all_of entries (λ n. own_rest n (Ordered known sets command answer) entries (h n)))

module _ (accounts : List Account) (names : HaveNames accounts) (events : List Event) (named : AreNamedEvents events) where
  each_job : (slots : List (Option SlotState)) (n : ℕ) (entries : List Entry) → IsJob accounts slots (job_of n events) entries → AreOfNamed entries
  each_job slots n entries = by (job_of n events) (job_named n events named)
    where
      by : (o : Option JobDeck) → IfSome o IsNamedJob → IsJob accounts slots o entries → AreOfNamed entries
      by None h is = subst AreOfNamed (sym is) tt
      by (Some deck) h is = job_entries accounts names deck h slots entries is

-- ONE AFTER ANOTHER

module _ (lists : ListsAreSpelled) (accounts : List Account) where
  -- each entry over data sets that are such, and so are those that it leaves
  all_sound : (entries : List Entry) (sets after : Sets) → AreNamedEvents (cards_in entries) → AreOfNamed entries → AreWellNamed sets → Lead accounts sets entries after
      → AllByRecursion IsSound entries
  all_sound [] sets after cards jobs h lead = tt
  all_sound (Entered deck ∷ entries) sets after cards jobs h lead = (cards.0.0, all_sound entries sets after cards.1 jobs.1 h lead.1)
  all_sound (Refused deck refusal ∷ entries) sets after cards jobs h lead = (cards.0.0, all_sound entries sets after cards.1 jobs.1 h lead.1)
  all_sound (Asked e ∷ entries) sets after cards jobs h lead =
      let here : AreWellNamed e.reach.sets = subst AreWellNamed (sym lead.0.0) h in (
        record {
          account = jobs.0.0;
          target = jobs.0.1;
          sets = here;
          reason = subst IsReasonNamed (sym lead.0.1) (serve_answers e.account e.reach e.request here);
        },
        all_sound entries (serve e.account e.reach e.request).1.sets after cards jobs.1 (serve_stays e.account e.reach e.request here) lead.1,
      )
  all_sound (Ended end ∷ entries) sets after cards jobs h lead = (jobs.0, all_sound entries sets after cards jobs.1 h lead.1)
  all_sound (Ordered known before command answer ∷ entries) sets after cards jobs h lead =
      let here : AreWellNamed before = subst AreWellNamed (sym lead.0.0) h in
      let leaves = answers_named lists accounts before command cards.0 here in (
        (cards.0, (here, subst (λ (a : commands.Answer). IsSaidNamed (said_of a)) (sym lead.0.1) leaves.said)),
        all_sound entries (answered accounts before command).sets after cards.1 jobs.1 leaves.sets lead.1,
      )

-- OF A DECK

abbrev last_events : Ending → List Event
last_events end = elim end [ Stopped ↦ Drain ∷ [] | DeckRefused n code ↦ [] ]

last_named : (end : Ending) → AreNamedEvents (last_events end)
last_named Stopped = (tt, tt)
last_named (DeckRefused n code) = tt

no_cards : (end : Ending) → cards_of (last_events end) ≡ []
no_cards Stopped = refl
no_cards (DeckRefused n code) = refl

no_job : (n : ℕ) (end : Ending) → job_of n (last_events end) ≡ None
no_job n Stopped = refl
no_job n (DeckRefused line code) = refl

first_gone : (n : ℕ) (entry : Entry) (entries : List Entry) → is_of n entry ≡ true → own n (entry ∷ entries) ≡ [] → ⊥
first_gone n entry entries is h =
    let k : entry ∷ own n entries ≡ [] = subst (λ (b : Bool). cond b (entry ∷ own n entries) (own n entries) ≡ []) is h in
    absurd cc

-- of which no card and no job is, there are none
none_sound : (entries : List Entry) → cards_in entries ≡ [] → ((n : ℕ) → own n entries ≡ []) → AllByRecursion IsSound entries
none_sound [] cards jobs = tt
none_sound (Entered deck ∷ entries) cards jobs = let k : Load deck ∷ cards_in entries ≡ [] = cards in absurd cc
none_sound (Refused deck refusal ∷ entries) cards jobs = let k : Load deck ∷ cards_in entries ≡ [] = cards in absurd cc
none_sound (Asked e ∷ entries) cards jobs = absurd (first_gone e.number (Asked e) entries (itself e.number) (jobs e.number))
none_sound (Ended end ∷ entries) cards jobs = absurd (first_gone end.number (Ended end) entries (itself end.number) (jobs end.number))
none_sound (Ordered known sets command answer ∷ entries) cards jobs = let k : Serve command ∷ cards_in entries ≡ [] = cards in absurd cc

module _ (lists : ListsAreSpelled) (spells : ReadingSpells) (begins : GoodBeginnings) (headline : Headline) where
  pub histories_are_sound : HistoriesAreSound
  histories_are_sound options m bytes runs =
      let deck = deck_of (lines bytes) in
      let all = deck_named spells begins (lines bytes) in
      let tells = headline options m bytes runs in
      let events = asked_of options bytes in
      let entries = history_of options m bytes in
      let left = (played_run_state 0 m (run_state_of options bytes)).after.scheduler in
      let named : AreNamedEvents events = events_named 1 deck.cards.asked (last_events deck.cards.ending) all.asked (last_named deck.cards.ending) in
      let cards : AreNamedEvents (cards_in entries) = subst AreNamedEvents (sym tells.cards) (cards_named events named) in
      let jobs : AreOfNamed entries = all_of entries (λ n. each_job deck.accounts all.accounts events named left.slots n (own n entries) (tells.jobs n)) in
      elim all.sets [
        | inl none ↦ (let same : events ≡ last_events deck.cards.ending = ap (λ (asked : List Card). events_of 1 asked ++ last_events deck.cards.ending) none in
            none_sound entries (tells.cards ∙ ap cards_of same ∙ no_cards deck.cards.ending)
            (λ n. subst (λ (o : Option JobDeck). IsJob deck.accounts left.slots o (own n entries)) (ap (job_of n) same ∙ no_job n deck.cards.ending) (tells.jobs n)))
        | inr sets ↦ all_sound lists deck.accounts entries deck.catalogue left.sets cards jobs sets tells.lead
      ]
