-- The audit of a round is that of its texts, one behind the other.
use Rattle.std.proofs.Common.{◌≡◌, ℕ, zero, suc, ◌+◌, Bool, true, false, List, [], ◌∷◌, ◌++◌, length, Option, None, refl, sym, ap, ap₂, ◌∙◌, arith, append_assoc, append-nil, replicate, flat_map}
use Rattle.std.specs.{Prelude.{codes, is_none, if◌then◌else◌, drop, Ok}, List.{list_all}, Str.Lines.{lines}}
use Rattle.mon_access.specs.declared.account.Account.{Account}
use Rattle.mon_catalogue.specs.{Sets.{Sets}, Text.{text_of}}
use Rattle.scheduler.specs.{States.{SlotState, SchedulerState}, Marks.{Marks, mark_of, turn_as, is_done, rounds, turns_left}}
use Rattle.scheduler.specs.AuditLines.{turn_lines, lines_until}
use Rattle.audit.specs.RunEnds.{stopped_line}
use Rattle.mon_monitor.specs.{SystemStates.{SystemState, first_system}, Events.{Event, Drain}, Played.{happened, played}, History.{history, event_entries}}
use Rattle.mon_monitor.specs.{Audit.{audit_of, event_lines}, Laws.{CardByCard, DrainEmpties, AccountsStay, SlotsStay}}
use Rattle.mon_monitor.proofs.Auditing.{audit_append, until_told}
use Rattle.deck_syntax.specs.{Decks.{Deck, Asked, Drains}, Sections.{deck_of}}
use Rattle.deck_driver.specs.{declared.options.Options.{Options}, RunStates.{events_of, opening}, Audits.{told_to}}
use Rattle.deck_run.{specs.Audited.{end_told}, specs.Runs.{counts_of}, specs.Laws.{jobs_in}, proofs.Ordered.{events_both}}
use Rattle.preflight.specs.{declared.submission.Submission.{Submission}, Rounds.{Handed, AreHanded, stream_lines, stream_asks, round_lines, round_deck}}
use Rattle.preflight.specs.Laws.{NeverRefused}
use Rattle.parts_laws.specs.Threads.{threaded}
use Rattle.frame_audit.specs.Texts.{audited_texts}
use Rattle.rounds.specs.{Delivery.{text_events, text_played}, Compositions.{with_fence, front_text, round_text, AreAdmitted, IsGoodRound}, InParts.{numbered}}
use Rattle.rounds.specs.Serving.{round_audit}
use Rattle.rounds.proofs.{Heads.{head_lines, front_lines, head_is, stop_behind, text_both}, Delivering.{no_jobs_more, each_alone}}

-- THE DECK OF A ROUND

all_handed : (submissions : List Submission) (texts : List Handed) → AreAdmitted submissions texts → AreHanded texts
all_handed [] [] are = tt
all_handed [] (text ∷ texts) are = absurd are
all_handed (submission ∷ submissions) [] are = absurd are
all_handed (submission ∷ submissions) (text ∷ texts) (text_is, is, are) = (is, all_handed submissions texts are)

stream_is : (submissions : List Submission) (texts : List Handed) → AreAdmitted submissions texts → flat_map with_fence submissions ≡ text_of (stream_lines texts)
stream_is [] [] are = refl
stream_is [] (text ∷ texts) are = absurd are
stream_is (submission ∷ submissions) [] are = absurd are
stream_is (submission ∷ submissions) (text ∷ texts) (text_is, is, are) =
    ap₂ (λ (t more : List ℕ). (t ++ codes "$DRAIN\n") ++ more) text_is (stream_is submissions texts are)
    ∙ append_assoc (text_of text.lines) (codes "$DRAIN\n") (text_of (stream_lines texts))
    ∙ sym (text_both text.lines (codes "$DRAIN" ∷ stream_lines texts))

module _ (never_refused : NeverRefused) where
  deck_is : (head : List ℕ) (submissions : List Submission) (table : List (List ℕ)) (accounts : List Account) (sets : Sets) (texts : List Handed)
      → IsGoodRound head submissions table accounts sets texts → deck_of (lines (round_text head submissions)) ≡ round_deck accounts sets texts
  deck_is head submissions table accounts sets texts good =
      let handed = all_handed submissions texts good.texts_are in
      let front : front_text head submissions ≡ text_of (front_lines table sets texts) =
      ap₂ (λ (h t : List ℕ). h ++ t) (good.begins.head_is ∙ head_is table sets) (stream_is submissions texts good.texts_are) ∙ sym (text_both (head_lines table sets) (stream_lines texts)) in
      let bytes : round_text head submissions ≡ text_of (round_lines table sets texts) =
      ap (λ (t : List ℕ). t ++ codes "$STOP\n") front ∙ sym (text_both (front_lines table sets texts) (codes "$STOP" ∷ []))
      ∙ ap (λ (ls : List (List ℕ)). text_of ls) (stop_behind table sets texts) in
      let never = never_refused table accounts sets texts good.begins.table_is good.begins.names_differ good.begins.stored good.begins.printable handed in
      ap (λ (t : List ℕ). deck_of (lines t)) bytes ∙ ap deck_of never.2 ∙ never.1

-- EVENTS

-- a drain with all slots empty tells nothing
none_left : (slots : ℕ) → list_all is_none (replicate slots (let none : Option SlotState = None in none)) ≡ true
none_left zero = refl
none_left (suc slots) = none_left slots

stopped_lines : (E : List ℕ) (m : Marks) (w : SchedulerState) → is_done w ≡ true → lines_until is_done E m w ≡ []
stopped_lines [] m w done = refl
stopped_lines (s ∷ E) m w done =
    ap (λ (b : Bool). if b then [] else turn_lines (mark_of m) s w ++ lines_until is_done E (drop 1 m) (turn_as (mark_of m) s w).1) done

nothing_told : (slots : ℕ) (accounts : List Account) (sets : Sets) (m : Marks) → audit_of (Drain ∷ []) m (first_system slots accounts sets) ≡ []
nothing_told slots accounts sets m =
    let w = first_system slots accounts sets in
    let E = rounds (turns_left w.scheduler.slots) (length w.scheduler.slots) in
    audit_append (event_entries Drain m w) (history [] m w)
    ∙ append-nil (event_lines Drain m w)
    ∙ until_told is_done E m w.scheduler
    ∙ stopped_lines E m w.scheduler (none_left slots)

-- some events and then others
pub both_told : (E F : List Event) (m : Marks) (w : SystemState) → audit_of (E ++ F) m w ≡ audit_of E m w ++ audit_of F (played E m w).marks (played E m w).after
both_told [] F m w = refl
both_told (event ∷ E) F m w =
    let here = happened event m w in
    let later = played E here.marks here.after in
    audit_append (event_entries event m w) (history (E ++ F) here.marks here.after)
    ∙ ap (λ (t : List ℕ). event_lines event m w ++ t) (both_told E F here.marks here.after)
    ∙ sym (append_assoc (event_lines event m w) (audit_of E here.marks here.after) (audit_of F later.marks later.after))
    ∙ ap (λ (t : List ℕ). t ++ audit_of F later.marks later.after) (sym (audit_append (event_entries event m w) (history E here.marks here.after)))

module _ (slots : ℕ) (accounts : List Account) where
  -- the audits of texts, one behind the other
  abbrev pub audits : ℕ → ℕ → Marks → Sets → List Handed → List ℕ
  audits n jobs m sets texts = flat_map (λ e. e.1.audit) (threaded (audited_texts slots accounts) (numbered n jobs texts) m sets).printed

  module _ (card_by_card : CardByCard) (drain_empties : DrainEmpties) (accounts_stay : AccountsStay) (slots_stay : SlotsStay) where
    stream_told : (texts : List Handed) (n jobs : ℕ) (m : Marks) (sets : Sets)
        → audit_of (events_of (suc jobs) (stream_asks texts) ++ Drain ∷ []) m (first_system slots accounts sets) ≡ audits n jobs m sets texts
    stream_told [] n jobs m sets = nothing_told slots accounts sets m
    stream_told (text ∷ texts) n jobs m sets =
        let w = first_system slots accounts sets in
        let here = text_played slots accounts jobs m sets text in
        let own = text_events jobs text in
        let after = jobs + jobs_in text.asked in
        let more = events_of (suc after) (stream_asks texts) in
        let events : events_of (suc jobs) (stream_asks (text ∷ texts)) ≡ own ++ more =
        ap (λ (a : List Asked). events_of (suc jobs) a) (sym (append_assoc text.asked (Drains ∷ []) (stream_asks texts)))
        ∙ events_both (text.asked ++ Drains ∷ []) (stream_asks texts) (suc jobs) (suc after) (let none = no_jobs_more text.asked in omega (arith, none)) in
        ap (λ (E : List Event). audit_of (E ++ Drain ∷ []) m w) events
        ∙ ap (λ (E : List Event). audit_of E m w) (append_assoc own more (Drain ∷ []))
        ∙ both_told own (more ++ Drain ∷ []) m w
        ∙ ap (λ (v : SystemState). audit_of own m w ++ audit_of (more ++ Drain ∷ []) here.marks v)
        (each_alone card_by_card drain_empties accounts_stay slots_stay slots accounts jobs m sets text)
        ∙ ap (λ (t : List ℕ). audit_of own m w ++ t) (stream_told texts (suc n) after here.marks here.after.scheduler.sets)

pub round_told : NeverRefused → CardByCard → DrainEmpties → AccountsStay → SlotsStay
    → (options : Options) (m : Marks) (head : List ℕ) (submissions : List Submission) (table : List (List ℕ)) (accounts : List Account) (sets : Sets) (texts : List Handed)
    → options.check ≡ false → IsGoodRound head submissions table accounts sets texts
    → round_audit options m (round_text head submissions) ≡ audits options.slots.number accounts 0 0 m sets texts ++ stopped_line
round_told never_refused card_by_card drain_empties accounts_stay slots_stay options m head submissions table accounts sets texts run good =
    let bytes = round_text head submissions in
    ap (λ (b : Bool). told_to b 0 m (opening options.slots.number (deck_of (lines bytes))) ++ end_told b (Ok (counts_of bytes))) run
    ∙ ap (λ (d : Deck). told_to false 0 m (opening options.slots.number d) ++ stopped_line) (deck_is never_refused head submissions table accounts sets texts good)
    ∙ ap (λ (t : List ℕ). t ++ stopped_line)
    (stream_told options.slots.number accounts card_by_card drain_empties accounts_stay slots_stay texts 0 0 m sets)
