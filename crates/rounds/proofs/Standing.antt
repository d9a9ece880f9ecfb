-- A round on its way: text by text, up to its end.
use Rattle.std.proofs.Common.{◌≡◌, ℕ, ◌+◌, ◌<◌, ◌≤◌, true, false, List, [], ◌∷◌, ◌++◌, length, take, drop, get_or, flat_map, sym, ap, ap₂, ◌∙◌, subst, arith, append_assoc, append-nil, length-append, take_all, take-append-drop}
use Rattle.std.{specs.Prelude.{codes, Result, Ok, Err, IfOk}, proofs.lemmas.List.{drop_more, take_more}, proofs.lemmas.List.Concat.{flat_map-append}}
use Rattle.mon_device.{specs.Putting.{Standing, Puts}, proofs.Putting.{puts_same, puts_then}}
use Rattle.mon_catalogue.specs.Sets.{Sets}
use Rattle.scheduler.specs.Marks.{Marks}
use Rattle.deck_lines.specs.declared.deck_error.DeckError.{DeckError}
use Rattle.deck_syntax.specs.Decks.{Refused}
use Rattle.deck_driver.specs.declared.{fault.RunError.{RunError}, fault.RunError.TheVariants.{DeckRefused}, feed.DeckFeed.{DeckFeed}}
use Rattle.deck_driver.specs.{declared.options.Counts.{Counts}, declared.options.Options.{Options}, Audits.{audit_for}, Abstraction.{told, audit_told, Took}}
use Rattle.deck_driver.specs.{Feeds.{Outcome, Good, Bad, EndsLine, IsReadBack, is_reading}, Printouts.{output_of, ReadsBack}}
use Rattle.deck_run.specs.{Audited.{end_told}, Runs.{deck_ending, counts_of}}
use Rattle.preflight.specs.declared.submission.Submission.{Submission}
use Rattle.rounds.specs.declared.running.{Round.{Round}, RoundError.{RoundError}, Running.{Running}}
use Rattle.rounds.specs.{Compositions.{with_fence, front_text, round_text, ends_of, cut_at}, Laws.{EachItsPart}}
use Rattle.rounds.specs.Serving.{whole, Stands, IsBad, IsBadAtEnd, Finishes, IsServed, HasEnded}
use Rattle.rounds.proofs.Served.{behind_both, nothing_more, ends_more, front_more, ends_bad, ends_good}
use Rattle.rounds.specs.declared.running.RoundError.TheVariants as round_error

-- what was told, and what then was, and the rest
audits_both : (first second more rest : List ℕ) → more ≡ second ++ rest → first ++ more ≡ (first ++ second) ++ rest
audits_both first second more rest is = ap (λ (t : List ℕ). first ++ t) is ∙ sym (append_assoc first second rest)

-- the head was served
pub head_stands : (options : Options) (head : List ℕ) (r r' : Running) (a b c : Standing) → Stands options [] [] r a b → Took r.output.items r.feed head r'.output.items r'.feed b c
    → r'.ends.items ≡ r.ends.items → r'.printed ≡ [] → r'.feed.fed ≡ r.feed.fed + length head → r'.feed.options ≡ r.feed.options → IsReadBack r'.feed.options.check r'.feed.state
    → (EndsLine head → is_reading r'.feed.state ≡ true → r'.feed.line ≡ []) → Stands options head [] r' a c
head_stands options head r r' a b c s took same_ends empty fed options_are back settled = record {
  marks = s.marks ++ took.marks;
  tells = λ rest bytes.
      took.is rest bytes ∙ s.tells (took.marks ++ rest) (head ++ bytes)
      ∙ ap₂ (λ (m : Marks) (t : List ℕ). whole options m (t ++ bytes)) (sym (append_assoc s.marks took.marks rest)) (sym (append-nil head));
  ends = λ rest. same_ends ∙ s.ends (took.marks ++ rest);
  empty = empty;
  fed = omega (arith, fed, s.fed, ap length (append-nil head));
  options_are = options_are ∙ s.options_are;
  back = back;
  audit = s.audit ++ took.audit;
  audits = λ rest bytes.
      ap₂ (λ (m : Marks) (t : List ℕ). audit_for options m (t ++ bytes)) (append_assoc s.marks took.marks rest) (append-nil head)
      ∙ s.audits (took.marks ++ rest) (head ++ bytes)
      ∙ audits_both s.audit took.audit (audit_told (took.marks ++ rest) r.feed (head ++ bytes)) (audit_told rest r'.feed bytes) (took.tells rest bytes);
  audited = puts_then a b c s.audit took.audit s.audited took.audited;
  settled = λ ends. settled (subst EndsLine (append-nil head) ends);
}

-- a text and its fence were served
pub goes_further : (options : Options) (head : List ℕ) (done : List Submission) (one : Submission) (r r' : Running) (a b c : Standing) → Stands options head done r a b
    → Took r.output.items r.feed (with_fence one) r'.output.items r'.feed b c → (is_reading r'.feed.state ≡ true → r'.feed.line ≡ [])
    → r'.ends.items ≡ r.ends.items ++ length r'.output.items ∷ [] → r'.printed ≡ [] → r'.feed.fed ≡ r.feed.fed + length (with_fence one)
    → r'.feed.options ≡ r.feed.options → IsReadBack r'.feed.options.check r'.feed.state → Stands options head (done ++ one ∷ []) r' a c
goes_further options head done one r r' a b c s took settled more_ends empty fed options_are back =
    let front = front_text head done in
    let front' = front_text head (done ++ one ∷ []) in
    let marks = s.marks ++ took.marks in
    let longer : front' ≡ front ++ with_fence one = front_more head done one in
    let tells : (rest : Marks) (bytes : List ℕ) → told rest r'.output.items r'.feed bytes ≡ whole options (marks ++ rest) (front' ++ bytes) =
    λ rest bytes.
    took.is rest bytes ∙ s.tells (took.marks ++ rest) (with_fence one ++ bytes)
    ∙ ap₂ (λ (m : Marks) (t : List ℕ). whole options m t) (sym (append_assoc s.marks took.marks rest))
    (sym (append_assoc front (with_fence one) bytes) ∙ ap (λ (t : List ℕ). t ++ bytes) (sym longer)) in
    let printed : (rest : Marks) → output_of options (marks ++ rest) front' ≡ r'.output.items =
    λ rest.
    ap (λ (t : List ℕ). output_of options (marks ++ rest) t) (sym (append-nil front'))
    ∙ sym (ap (λ (o : Outcome). o.written) (tells rest [])) ∙ nothing_more rest r'.output.items r'.feed settled in record {
      marks = marks;
      tells = tells;
      ends = λ rest.
          more_ends
          ∙ ap₂ (λ (ends t : List ℕ). ends ++ length t ∷ [])
          (s.ends (took.marks ++ rest) ∙ ap (λ (m : Marks). ends_of options m head done) (sym (append_assoc s.marks took.marks rest))) (sym (printed rest))
          ∙ sym (ends_more options (marks ++ rest) head done one);
      empty = empty;
      fed = let long = length-append front (with_fence one) in omega (arith, fed, s.fed, ap length longer, long);
      options_are = options_are ∙ s.options_are;
      back = back;
      audit = s.audit ++ took.audit;
      audits = λ rest bytes.
          ap₂ (λ (m : Marks) (t : List ℕ). audit_for options m t) (append_assoc s.marks took.marks rest)
          (ap (λ (t : List ℕ). t ++ bytes) longer ∙ append_assoc front (with_fence one) bytes)
          ∙ s.audits (took.marks ++ rest) (with_fence one ++ bytes)
          ∙ audits_both s.audit took.audit (audit_told (took.marks ++ rest) r.feed (with_fence one ++ bytes)) (audit_told rest r'.feed bytes) (took.tells rest bytes);
      audited = puts_then a b c s.audit took.audit s.audited took.audited;
      settled = λ ends. settled;
    }

-- the end was served: what comes of the deck, and what is told of it, is what comes of its end
whole_at_end : (options : Options) (head : List ℕ) (done : List Submission) (r : Running) (out : List ℕ) (g : DeckFeed) (marks : Marks) (a b c : Standing) → Stands options head done r a b
    → Took r.output.items r.feed (codes "$STOP\n") out g b c
    → (m : Marks) × (whole options m (round_text head done) ≡ record { written = out ++ (told (marks ++ []) [] g []).written; conclusion = (told (marks ++ []) [] g []).conclusion })
    × (r.ends.items ≡ ends_of options m head done)
    × (audit : List ℕ) × (audit_for options m (round_text head done) ≡ audit ++ audit_told (marks ++ []) g []) × Puts a c audit
whole_at_end options head done r out g marks a b c s took =
    let last = marks ++ [] in (
      s.marks ++ (took.marks ++ last),
      sym (s.tells (took.marks ++ last) (codes "$STOP\n")) ∙ sym (took.is last [])
          ∙ ap (λ (t : List ℕ). told last t g []) (sym (append-nil out)) ∙ behind_both last out [] g [],
      s.ends (took.marks ++ last),
      s.audit ++ took.audit,
      s.audits (took.marks ++ last) (codes "$STOP\n")
          ∙ audits_both s.audit took.audit (audit_told (took.marks ++ last) r.feed (codes "$STOP\n")) (audit_told last g []) (took.tells last []),
      puts_then a b c s.audit took.audit s.audited took.audited,
    )

comes_to_end : (options : Options) (head : List ℕ) (done : List Submission) (r r' : Running) (round : Round) (a b c d : Standing) → Stands options head done r a b
    → Took r.output.items r.feed (codes "$STOP\n") r'.output.items r'.feed b c → IsReadBack r'.feed.options.check r'.feed.state → r'.feed.options ≡ r.feed.options
    → r'.ends.items ≡ r.ends.items → Finishes r' round c d → round.ends.items ≡ r'.ends.items → (m : Marks) × HasEnded options m head done round a d
comes_to_end options head done r r' round a b c d s took back options_are same_ends f ends =
    let at = whole_at_end options head done r r'.output.items r'.feed f.marks a b c s took in
    let all : whole options at.0 (round_text head done) ≡ record { written = r'.output.items ++ f.written; conclusion = Good f.counts f.sets } =
    at.1 ∙ ap (λ (o : Outcome). (let p : Outcome = record { written = r'.output.items ++ o.written; conclusion = o.conclusion } in p)) (f.is []) in (
      at.0,
      record {
        output = f.output ∙ sym (ap (λ (o : Outcome). o.written) all);
        ends = ends ∙ same_ends ∙ at.2;
        reads_back = λ run.
            subst ReadsBack (sym (ends_good options at.0 (round_text head done) f.counts f.sets run (ap (λ (o : Outcome). o.conclusion) all)))
            (f.reads_back back (ap (λ (o : Options). o.check) (options_are ∙ s.options_are) ∙ run));
        audited =
            puts_same a d (at.3 ++ f.audit) (audit_for options at.0 (round_text head done)) (ap (λ (t : List ℕ). at.3 ++ t) (sym (f.audits [])) ∙ sym at.4)
            (puts_then a c d at.3 f.audit at.5 f.audited);
      },
    )

-- the end was served, and the deck is refused there
pub refused_at_end : (options : Options) (head : List ℕ) (done : List Submission) (r r' : Running) (n : ℕ) (code : DeckError) (a b c : Standing) → Stands options head done r a b
    → Took r.output.items r.feed (codes "$STOP\n") r'.output.items r'.feed b c → IsBadAtEnd n code r'.feed → deck_ending (round_text head done) ≡ Refused n code
refused_at_end options head done r r' n code a b c s took bad =
    let at = whole_at_end options head done r r'.output.items r'.feed bad.marks a b c s took in
    ends_bad options at.0 (round_text head done) n code (ap (λ (o : Outcome). o.conclusion) at.1 ∙ bad.is [])

-- what the last call of the feed answers
pub finishes : (r : Running) (round : Round) (printed printed' : List ℕ) (counts : Counts) (a b : Standing) → printed ≡ []
    → ((marks : Marks) × (sets : Sets) × ((rest : Marks) → told (marks ++ rest) printed r.feed [] ≡ record { written = printed'; conclusion = Good counts sets })
    × (audited : List ℕ) × ((rest : Marks) → audit_told (marks ++ rest) r.feed [] ≡ audited) × Puts a b audited
    × (IsReadBack r.feed.options.check r.feed.state → r.feed.options.check ≡ false → ReadsBack sets))
    → round.output.items ≡ r.output.items ++ printed' → Finishes r round a b
finishes r round printed printed' counts a b none ended output = record {
  marks = ended.0;
  written = printed';
  counts = counts;
  sets = ended.1;
  is = λ rest. ap (λ (t : List ℕ). told (ended.0 ++ rest) t r.feed []) (sym none) ∙ ended.2 rest;
  reads_back = ended.6;
  output = output;
  audit = ended.3;
  audits = ended.4;
  audited = ended.5;
}

pub bad_at_end : (f : DeckFeed) (printed printed' : List ℕ) (n : ℕ) (code : DeckError) (a b : Standing) → printed ≡ []
    → ((marks : Marks) × ((rest : Marks) → told (marks ++ rest) printed f [] ≡ record { written = printed'; conclusion = Bad n code })
    × (audited : List ℕ) × ((rest : Marks) → audit_told (marks ++ rest) f [] ≡ audited) × Puts a b audited) → IsBadAtEnd n code f
bad_at_end f printed printed' n code a b none bad = record {
  marks = bad.0;
  is = λ rest. ap (λ (o : Outcome). o.conclusion) (ap (λ (t : List ℕ). told (bad.0 ++ rest) t f []) (sym none) ∙ bad.1 rest);
}

-- the laws of such an output
pub is_served : EachItsPart → (options : Options) (m : Marks) (head : List ℕ) (submissions : List Submission) (round : Round) (a b c : Standing) → HasEnded options m head submissions round a b
    → ((counts : Counts) → Puts b c (end_told options.check (Ok counts))) → IsServed options m head submissions round a c
is_served each_its_part options m head submissions round a b c ended end = record {
  output = ended.output;
  ends = ended.ends;
  parts = λ table accounts sets texts run good.
      ap₂ (λ (ends t : List ℕ). cut_at 0 ends t) ended.ends ended.output ∙ (each_its_part options m head submissions table accounts sets texts run good).parts;
  leaves = λ table accounts sets texts run good. subst ReadsBack (each_its_part options m head submissions table accounts sets texts run good).left (ended.reads_back run);
  audited =
      let bytes = round_text head submissions in
      puts_then a b c (audit_for options m bytes) (end_told options.check (Ok (counts_of bytes))) ended.audited (end (counts_of bytes));
}

-- a round that is answered has ended
pub ends_so : (options : Options) (head : List ℕ) (done : List Submission) (r r' : Running) (result : Result Round RunError) (a b c d : Standing) → Stands options head done r a b
    → Took r.output.items r.feed (codes "$STOP\n") r'.output.items r'.feed b c → IsReadBack r'.feed.options.check r'.feed.state → r'.feed.options ≡ r.feed.options
    → r'.ends.items ≡ r.ends.items → IfOk result (λ round. round.ends.items ≡ r'.ends.items) → IfOk result (λ round. Finishes r' round c d)
    → IfOk result (λ round. (m : Marks) × HasEnded options m head done round a d)
ends_so options head done r r' (Err error) a b c d s took back options_are same_ends ends f = tt
ends_so options head done r r' (Ok round) a b c d s took back options_are same_ends ends f = comes_to_end options head done r r' round a b c d s took back options_are same_ends f ends

-- ---- refusals

-- a round, from one of its texts on
pub from_text : (head : List ℕ) (texts : List Submission) (i : ℕ) (d : Submission) → i < length texts
    → round_text head texts ≡ front_text head (take i texts) ++ (with_fence (get_or texts i d) ++ (flat_map with_fence (drop (i + 1) texts) ++ codes "$STOP\n"))
from_text head texts i d less =
    let front = flat_map with_fence (take i texts) in
    let here = with_fence (get_or texts i d) in
    let rest = flat_map with_fence (drop (i + 1) texts) in
    let parts : flat_map with_fence texts ≡ front ++ (here ++ rest) =
    ap (λ (ts : List Submission). flat_map with_fence ts) (sym (take-append-drop i texts)) ∙ flat_map-append with_fence (take i texts) (drop i texts)
    ∙ ap (λ (ts : List Submission). front ++ flat_map with_fence ts) (drop_more texts i d less) in
    ap (λ (t : List ℕ). (head ++ t) ++ codes "$STOP\n") parts
    ∙ ap (λ (t : List ℕ). t ++ codes "$STOP\n") (sym (append_assoc head front (here ++ rest)))
    ∙ append_assoc (head ++ front) (here ++ rest) (codes "$STOP\n")
    ∙ ap (λ (t : List ℕ). (head ++ front) ++ t) (append_assoc here rest (codes "$STOP\n"))

pub refused_there : (options : Options) (head : List ℕ) (done : List Submission) (r : Running) (piece bytes : List ℕ) (n : ℕ) (code : DeckError) (a b : Standing) → Stands options head done r a b
    → IsBad n code r.output.items r.feed piece → deck_ending (front_text head done ++ (piece ++ bytes)) ≡ Refused n code
refused_there options head done r piece bytes n code a b s bad =
    ends_bad options (s.marks ++ (bad.marks ++ [])) (front_text head done ++ (piece ++ bytes)) n code
    (ap (λ (o : Outcome). o.conclusion) (sym (s.tells (bad.marks ++ []) (piece ++ bytes))) ∙ bad.is [] bytes)

-- within a text
pub refused_in_text : (options : Options) (head : List ℕ) (texts : List Submission) (i : ℕ) (text : Submission) (r : Running) (n : ℕ) (code : DeckError) (a b : Standing) → i < length texts
    → text ≡ get_or texts i text → Stands options head (take i texts) r a b → IsBad n code r.output.items r.feed (with_fence text) → deck_ending (round_text head texts) ≡ Refused n code
refused_in_text options head texts i text r n code a b less is s bad =
    let more = flat_map with_fence (drop (i + 1) texts) ++ codes "$STOP\n" in
    ap deck_ending (from_text head texts i text less ∙ ap (λ (t : Submission). front_text head (take i texts) ++ (with_fence t ++ more)) (sym is))
    ∙ refused_there options head (take i texts) r (with_fence text) more n code a b s bad

-- at its end
pub refused_by_stop : (options : Options) (head : List ℕ) (done : List Submission) (r : Running) (n : ℕ) (code : DeckError) (a b : Standing) → Stands options head done r a b
    → IsBad n code r.output.items r.feed (codes "$STOP\n") → deck_ending (round_text head done) ≡ Refused n code
refused_by_stop options head done r n code a b s bad = refused_there options head done r (codes "$STOP\n") [] n code a b s bad

-- within the head
pub refused_in_head : (head : List ℕ) (texts : List Submission) (n : ℕ) (code : DeckError) → ((bytes : List ℕ) → deck_ending (head ++ bytes) ≡ Refused n code)
    → deck_ending (round_text head texts) ≡ Refused n code
refused_in_head head texts n code refused =
    ap deck_ending (append_assoc head (flat_map with_fence texts) (codes "$STOP\n")) ∙ refused (flat_map with_fence texts ++ codes "$STOP\n")

-- what is told of it
pub told_refused : {T U : Type 0} (error : RunError) (answer : RoundError) (n : ℕ) (code : DeckError) → ((n : ℕ) (code : DeckError) → answer ≡ round_error.Refused n code → error ≡ DeckRefused n code)
    → ◌≡◌ {A = Result T RoundError} (Err answer) (Err (round_error.Refused n code)) → ◌≡◌ {A = Result U RunError} (Err error) (Err (DeckRefused n code))
told_refused error answer n code tells same = let is : answer ≡ round_error.Refused n code = cc in ap Err (tells n code is)

pub told_memory : {T : Type 0} (answer : RoundError) (k text : ℕ) → ((k : ℕ) → answer ≡ round_error.Memory k → k ≡ text) → ◌≡◌ {A = Result T RoundError} (Err answer) (Err (round_error.Memory k)) → k ≡ text
told_memory answer k text tells same = let is : answer ≡ round_error.Memory k = cc in tells k is

-- what a `?` passes up
pub passed_up : {T U E : Type 0} (r : Result T E) (error passed wrong : E) → r ≡ Err passed → passed ≡ error → r ≡ Err wrong → ◌≡◌ {A = Result U E} (Err error) (Err wrong)
passed_up r error passed wrong is from same = let e : error ≡ wrong = cc in ap Err e

-- so much of a round is a part of it
pub text_within : (head : List ℕ) (texts : List Submission) (i : ℕ) (text : Submission) (r : Running) (options : Options) (a b : Standing) → i < length texts → text ≡ get_or texts i text
    → Stands options head (take i texts) r a b → r.feed.fed + length (with_fence text) ≤ length (round_text head texts)
text_within head texts i text r options a b less is s =
    let front = front_text head (take i texts) in
    let here = with_fence (get_or texts i text) in
    let more = flat_map with_fence (drop (i + 1) texts) ++ codes "$STOP\n" in
    omega (
      arith,
      s.fed,
      ap (λ (t : Submission). length (with_fence t)) is,
      ap length (from_text head texts i text less),
      length-append front (here ++ more),
      length-append here more,
    )

pub end_within : (head : List ℕ) (texts : List Submission) (r : Running) (options : Options) (a b : Standing) → Stands options head texts r a b → r.feed.fed + 6 ≤ length (round_text head texts)
end_within head texts r options a b s = omega (arith, s.fed, length-append (front_text head texts) (codes "$STOP\n"))

pub head_within : (head : List ℕ) (texts : List Submission) → length head ≤ length (round_text head texts)
head_within head texts = omega (arith, length-append head (flat_map with_fence texts), length-append (front_text head texts) (codes "$STOP\n"))

fences_many : (texts : List Submission) → length texts ≤ length (flat_map with_fence texts)
fences_many [] = omega arith
fences_many (text ∷ texts) =
    omega (arith, fences_many texts, length-append (with_fence text) (flat_map with_fence texts), length-append text.text.items (codes "$DRAIN\n"))

-- each text has a fence
pub texts_within : (head : List ℕ) (texts : List Submission) → length texts ≤ length (round_text head texts)
texts_within head texts =
    omega (arith, fences_many texts, length-append head (flat_map with_fence texts), length-append (front_text head texts) (codes "$STOP\n"))

-- one text more was served
pub next_stands : (options : Options) (head : List ℕ) (texts : List Submission) (i : ℕ) (text : Submission) (r : Running) (a b : Standing) → i < length texts → text ≡ get_or texts i text
    → Stands options head (take i texts ++ text ∷ []) r a b → Stands options head (take (i + 1) texts) r a b
next_stands options head texts i text r a b less is s =
    subst (λ (ts : List Submission). Stands options head ts r a b)
    (ap (λ (t : Submission). take i texts ++ t ∷ []) is ∙ sym (take_more texts i text less)) s

-- all were
pub all_stand : (options : Options) (head : List ℕ) (texts : List Submission) (i : ℕ) (r : Running) (a b : Standing) → length texts ≤ i
    → Stands options head (take i texts) r a b → Stands options head texts r a b
all_stand options head texts i r a b over s = subst (λ (ts : List Submission). Stands options head ts r a b) (take_all i texts over) s

-- before the first
pub none_stand : (options : Options) (head : List ℕ) (texts : List Submission) (r : Running) (a b : Standing) → Stands options head [] r a b → Stands options head (take 0 texts) r a b
none_stand options head [] r a b s = s
none_stand options head (text ∷ texts) r a b s = s
