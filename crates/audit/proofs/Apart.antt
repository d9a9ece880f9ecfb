-- Words with blanks between them are told apart.
use Rattle.std.proofs.Common.{◌≡◌, ℕ, ◌<◌, ◌^◌, Bool, true, false, ◌&&◌, ◌||◌, List, [], ◌∷◌, ◌++◌, get_or, refl, sym, ap, ◌∙◌, true≢false, append_assoc}
use Rattle.std.specs.{Prelude.{decimal, codes, ◌==◌, if◌then◌else◌, drop, IfSome}, Option.{option_map_or}, List.{list_all}}
use Rattle.std.proofs.lemmas.{Bool.Decides.{Decides-eqb}, Fmt.{decimal_injective}, List.{append_cancel_right}}
use Rattle.mon_text.{specs.Characters.{is_letter, is_digit}, specs.Names.{is_name_character, IsName}, proofs.Counted.{digits_of_decimal}}
use Rattle.mon_catalogue.proofs.Blanks.{both}
use Rattle.mon_acl.specs.declared.entries.Tag.{Tag, TheVariants.{UserObj, User, GroupObj, Group, Mask, Other}}
use Rattle.interaction.specs.declared.answer.Reason.{Reason, TheVariants.{By, NoSet, NotOwner, NoUnit, InStream, SpoolUnit, Mode as WrongMode}}
use Rattle.interaction.specs.declared.answer.Answer.{Answer, TheVariants.{Done, Got, EndOfFile, Denied, Full}}
use Rattle.mon_unit.specs.declared.{tie.Target.{Target}, tie.Target.TheVariants.{Untied, Data, Spool, Set}, note.NoteAct.{NoteAct}}
use Rattle.mon_unit.specs.declared.note.NoteAct.TheVariants.{Read, Write, Endfile, Rewind}
use Rattle.std.proofs.Common.{Option, Some, None}
use Rattle.audit.specs.{declared.request.AuditedRequest.{AuditedRequest}, Words.{target_word, outcome_word}, Requests.{act_word, by_words, request_line}}
use Rattle.audit.specs.Laws.{IsNamed, IsEntryNamed, IsReasonNamed, IsSound, without_text, grantor, SaysTheSame, TellsApart}
use Rattle.mon_command.specs.{Printouts.{word}, Replies.{reason_text}}

-- WORDS

-- it has no blank and no line end
abbrev IsWord : List ℕ → Type 0
IsWord word = list_all is_name_character word ≡ true

-- what follows a word begins with a blank or a line end, or there is nothing
abbrev Follows : List ℕ → Type 0
Follows [] = Unit {0}
Follows (c ∷ rest) = is_name_character c ≡ false

-- so two texts that are the same begin with the same word
split : (u v r s : List ℕ) → IsWord u → IsWord v → Follows r → Follows s → u ++ r ≡ v ++ s → (u ≡ v) × (r ≡ s)
split [] [] r s hu hv fr fs h = (refl, h)
split [] (y ∷ v) [] s hu hv fr fs h = let k : [] ≡ y ∷ (v ++ s) = h in absurd cc
split [] (y ∷ v) (c ∷ r) s hu hv fr fs h =
    let k : c ∷ r ≡ y ∷ (v ++ s) = h in
    let same : y ≡ c = cc in
    absurd (true≢false (sym (both (is_name_character y) (list_all is_name_character v) hv).0 ∙ ap is_name_character same ∙ fr))
split (x ∷ u) [] r [] hu hv fr fs h = let k : x ∷ (u ++ r) ≡ [] = h in absurd cc
split (x ∷ u) [] r (c ∷ s) hu hv fr fs h =
    let k : x ∷ (u ++ r) ≡ c ∷ s = h in
    let same : x ≡ c = cc in
    absurd (true≢false (sym (both (is_name_character x) (list_all is_name_character u) hu).0 ∙ ap is_name_character same ∙ fs))
split (x ∷ u) (y ∷ v) r s hu hv fr fs h =
    let k : x ∷ (u ++ r) ≡ y ∷ (v ++ s) = h in
    let first : x ≡ y = cc in
    let others : u ++ r ≡ v ++ s = cc in
    let rest = split u v r s (both (is_name_character x) (list_all is_name_character u) hu).1 (both (is_name_character y) (list_all is_name_character v) hv).1 fr fs others in
    (ap (λ (l : List ℕ). x ∷ l) rest.0 ∙ ap (λ (c : ℕ). c ∷ v) first, rest.1)

passing : (p q : ℕ → Bool) → ((c : ℕ) → p c ≡ true → q c ≡ true) → (xs : List ℕ) → list_all p xs ≡ true → list_all q xs ≡ true
passing p q more [] h = refl
passing p q more (x ∷ xs) h =
    let two = both (p x) (list_all p xs) h in
    ap (λ (b : Bool). b && list_all q xs) (more x two.0) ∙ passing p q more xs two.1

first_of : (a b c d e : Bool) → a ≡ true → (a || b || c || d || e) ≡ true
first_of true b c d e h = refl
first_of false b c d e h = absurd (true≢false (sym h))

second_of : (a b c d e : Bool) → b ≡ true → (a || b || c || d || e) ≡ true
second_of true b c d e h = refl
second_of false true c d e h = refl
second_of false false c d e h = absurd (true≢false (sym h))

number_is : (n : ℕ) → n < 2 ^ 64 → IsWord (decimal n)
number_is n small = passing is_digit is_name_character (λ c h. second_of (is_letter c) (is_digit c) (c == 46) (c == 95) (c == 45) h) (decimal n) (digits_of_decimal n small).0

name_is : (name : List ℕ) → IsName name → IsWord name
name_is [] h = refl
name_is (c ∷ cs) h =
    let parts = both (is_letter c) (list_all is_name_character cs) (both (is_letter c && list_all is_name_character cs) _ h).0 in
    ap (λ (b : Bool). b && list_all is_name_character cs) (first_of (is_letter c) (is_digit c) (c == 46) (c == 95) (c == 45) parts.0) ∙ parts.1

-- WHAT THE WORDS SAY

act_at : ℕ → NoteAct
act_at c = if c == 65 then Read else if c == 73 then Write else if c == 68 then Endfile else Rewind

act_back : (act : NoteAct) → act_at (get_or (act_word act) 2 0) ≡ act
unfolding act_at
act_back Read = refl
act_back Write = refl
act_back Endfile = refl
act_back Rewind = refl

act_is : (act : NoteAct) → IsWord (act_word act)
act_is Read = refl
act_is Write = refl
act_is Endfile = refl
act_is Rewind = refl

outcome_is : (answer : Answer) → IsWord (outcome_word answer)
outcome_is Done = refl
outcome_is (Got line) = refl
outcome_is EndOfFile = refl
outcome_is (Denied reason) = refl
outcome_is Full = refl

target_is : (target : Target) → IsNamed target → IsWord (target_word target)
target_is Untied h = refl
target_is Data h = refl
target_is Spool h = refl
target_is (Set name) h = name_is name h

dotted : List ℕ → Bool
dotted w = get_or w 0 0 == 46

name_undotted : (name : List ℕ) → IsName name → dotted name ≡ false
unfolding dotted
name_undotted [] h = absurd (true≢false (sym h))
name_undotted (c ∷ cs) h = by (c == 46) refl
  where
    by : (b : Bool) → (c == 46) ≡ b → b ≡ false
    by false e = refl
    by true e =
        let letter = (both (is_letter c) (list_all is_name_character cs) (both (is_letter c && list_all is_name_character cs) _ h).0).0 in
        absurd (true≢false (sym letter ∙ ap is_letter ((Decides-eqb c 46).0 e)))

target_at : List ℕ → Target
target_at w = if dotted w then (if get_or w 1 0 == 78 then Untied else if get_or w 1 0 == 68 then Data else Spool) else Set w

target_back : (target : Target) → IsNamed target → target_at (target_word target) ≡ target
unfolding target_at dotted
target_back Untied h = refl
target_back Data h = refl
target_back Spool h = refl
target_back (Set name) h =
    ap (λ (b : Bool). if b then (if get_or name 1 0 == 78 then Untied else if get_or name 1 0 == 68 then Data else Spool) else Set name) (name_undotted name h)

-- the name characters in front
word_in : List ℕ → List ℕ
word_in [] = []
word_in (c ∷ cs) = if is_name_character c then c ∷ word_in cs else []

word_back : (name : List ℕ) → IsWord name → word_in (name ++ 58 ∷ []) ≡ name
unfolding word_in
word_back [] h = refl
word_back (c ∷ cs) h =
    let parts = both (is_name_character c) (list_all is_name_character cs) h in
    ap (λ (b : Bool). if b then c ∷ word_in (cs ++ 58 ∷ []) else []) parts.0 ∙ ap (λ (l : List ℕ). c ∷ l) (word_back cs parts.1)

-- an entry by what stands behind its type's colon: of this type where no name stands there, else of that one
named_at : Tag → Tag → List ℕ → Reason
named_at plain qualified w = if get_or w 0 0 == 58 then By plain None else By qualified (Some (word_in w))

named_back : (plain qualified : Tag) (name : List ℕ) → IsName name → named_at plain qualified (name ++ 58 ∷ []) ≡ By qualified (Some name)
unfolding named_at
named_back plain qualified [] h = absurd (true≢false (sym h))
named_back plain qualified (c ∷ cs) h =
    ap (λ (b : Bool). if b then By plain None else By qualified (Some (word_in (c ∷ (cs ++ 58 ∷ []))))) (by (c == 58) refl)
    ∙ ap (λ (w : List ℕ). By qualified (Some w)) (word_back (c ∷ cs) (name_is (c ∷ cs) h))
  where
    by : (b : Bool) → (c == 58) ≡ b → (c == 58) ≡ false
    by false e = e
    by true e =
        let letter = (both (is_letter c) (list_all is_name_character cs) (both (is_letter c && list_all is_name_character cs) _ h).0).0 in
        absurd (true≢false (sym letter ∙ ap is_letter ((Decides-eqb c 58).0 e)))

entry_at : List ℕ → Reason
entry_at w =
    if get_or w 3 0 == 117 then named_at UserObj User (drop 8 w)
    else if get_or w 3 0 == 103 then named_at GroupObj Group (drop 9 w)
    else if get_or w 3 0 == 109 then By Mask None
    else By Other None

reason_at : List ℕ → Reason
reason_at w =
    if get_or w 0 0 == 66 then entry_at w
    else if get_or w 0 0 == 73 then InStream
    else if get_or w 0 0 == 83 then SpoolUnit
    else if get_or w 0 0 == 77 then WrongMode
    else if get_or w 3 0 == 68 then NoSet
    else if get_or w 3 0 == 32 then NotOwner
    else NoUnit

reason_back : (reason : Reason) → IsEntryNamed reason → reason_at (reason_text reason) ≡ reason
unfolding reason_at entry_at named_at
reason_back (By UserObj None) h = refl
reason_back (By UserObj (Some name)) h = absurd (true≢false (sym h))
reason_back (By User None) h = absurd (true≢false (sym h))
reason_back (By User (Some name)) h = named_back UserObj User name h
reason_back (By GroupObj None) h = refl
reason_back (By GroupObj (Some name)) h = absurd (true≢false (sym h))
reason_back (By Group None) h = absurd (true≢false (sym h))
reason_back (By Group (Some name)) h = named_back GroupObj Group name h
reason_back (By Mask None) h = refl
reason_back (By Mask (Some name)) h = absurd (true≢false (sym h))
reason_back (By Other None) h = refl
reason_back (By Other (Some name)) h = absurd (true≢false (sym h))
reason_back NoSet h = refl
reason_back NotOwner h = refl
reason_back NoUnit h = refl
reason_back InStream h = refl
reason_back SpoolUnit h = refl
reason_back WrongMode h = refl

-- all that stands behind the outcome: why it is denied, or else the entry that granted it, if one did
abbrev told : Option Reason → Answer → Option Reason
told grant (Denied reason) = Some reason
told grant Done = grant
told grant (Got line) = grant
told grant EndOfFile = grant
told grant Full = grant

told_at : List ℕ → Option Reason
told_at [] = None
told_at (c ∷ w) = Some (reason_at w)

abbrev grant_text : Option Reason → List ℕ
grant_text grant = option_map_or (λ reason. word (reason_text reason)) grant []

grant_back : (grant : Option Reason) → IfSome grant IsEntryNamed → told_at (grant_text grant) ≡ grant
unfolding told_at
grant_back None h = refl
grant_back (Some reason) h = ap (λ (r : Reason). Some r) (reason_back reason h)

told_back : (grant : Option Reason) (answer : Answer) → IfSome grant IsEntryNamed → IsReasonNamed answer → told_at (by_words grant answer) ≡ told grant answer
told_back grant (Denied reason) h named = grant_back (Some reason) named
told_back grant Done h named = grant_back grant h
told_back grant (Got line) h named = grant_back grant h
told_back grant EndOfFile h named = grant_back grant h
told_back grant Full h named = grant_back grant h

outcome_at : List ℕ → Option Reason → Answer
outcome_at w told =
    if get_or w 0 0 == 71 then Got []
    else if get_or w 0 0 == 69 then EndOfFile
    else if get_or w 0 0 == 70 then Full
    else if get_or w 1 0 == 79 then Done
    else option_map_or Denied told Done

outcome_back : (grant : Option Reason) (answer : Answer) → outcome_at (outcome_word answer) (told grant answer) ≡ without_text answer
unfolding outcome_at
outcome_back grant (Denied reason) = refl
outcome_back grant Done = refl
outcome_back grant (Got line) = refl
outcome_back grant EndOfFile = refl
outcome_back grant Full = refl

grantor_at : List ℕ → Option Reason → Option Reason
grantor_at w told = if get_or w 1 0 == 69 then None else told

grantor_back : (grant : Option Reason) (answer : Answer) → grantor_at (outcome_word answer) (told grant answer) ≡ grantor grant answer
unfolding grantor_at
grantor_back grant (Denied reason) = refl
grantor_back grant Done = refl
grantor_back grant (Got line) = refl
grantor_back grant EndOfFile = refl
grantor_back grant Full = refl

-- THE LINE

-- the line, word by word

abbrev line_of : (n c s t u g p o b : List ℕ) → List ℕ
line_of n c s t u g p o b =
    codes "JOB" ++ (32 ∷ n) ++ (32 ∷ c) ++ (codes " ASKED" ++ ((32 ∷ s) ++ (32 ∷ t) ++ (32 ∷ u) ++ (32 ∷ g) ++ (32 ∷ p)) ++ (32 ∷ o) ++ b) ++ codes "\n"

-- from the first word on
abbrev words_of : (n c s t u g p o b : List ℕ) → List ℕ
words_of n c s t u g p o b =
    n ++ (32 ∷ (c ++ (32 ∷ 65 ∷ 83 ∷ 75 ∷ 69 ∷ 68 ∷ 32 ∷ (s ++ (32 ∷ (t ++ (32 ∷ (u ++ (32 ∷ (g ++ (32 ∷ (p ++ (32 ∷ (o ++ (b ++ (10 ∷ []))))))))))))))))

module _ (n c s t u g p o b : List ℕ) where
  -- what is asked, and what came of it
  abbrev what : List ℕ
  what = 32 ∷ 65 ∷ 83 ∷ 75 ∷ 69 ∷ 68 ∷ 32 ∷ (s ++ (32 ∷ (t ++ (32 ∷ (u ++ (32 ∷ (g ++ (32 ∷ (p ++ (32 ∷ (o ++ b)))))))))))

  what_is : codes " ASKED" ++ ((32 ∷ s) ++ (32 ∷ t) ++ (32 ∷ u) ++ (32 ∷ g) ++ (32 ∷ p)) ++ (32 ∷ o) ++ b ≡ what
  what_is = simp append_assoc refl

  ended_is : what ++ (10 ∷ []) ≡ 32 ∷ 65 ∷ 83 ∷ 75 ∷ 69 ∷ 68 ∷ 32 ∷ (s ++ (32 ∷ (t ++ (32 ∷ (u ++ (32 ∷ (g ++ (32 ∷ (p ++ (32 ∷ (o ++ (b ++ (10 ∷ [])))))))))))))
  ended_is = simp append_assoc refl

  flat : line_of n c s t u g p o b ≡ 74 ∷ 79 ∷ 66 ∷ 32 ∷ words_of n c s t u g p o b
  flat =
      ap (λ (w : List ℕ). codes "JOB" ++ (32 ∷ n) ++ (32 ∷ c) ++ w ++ codes "\n") what_is
      ∙ ap (λ (l : List ℕ). 74 ∷ 79 ∷ 66 ∷ 32 ∷ l)
      (append_assoc (n ++ (32 ∷ c)) what (10 ∷ []) ∙ append_assoc n (32 ∷ c) (what ++ (10 ∷ [])) ∙ ap (λ (w : List ℕ). n ++ (32 ∷ (c ++ w))) ended_is)

by_follows : (grant : Option Reason) (answer : Answer) → Follows (by_words grant answer ++ (10 ∷ []))
by_follows grant (Denied reason) = refl
by_follows None Done = refl
by_follows None (Got line) = refl
by_follows None EndOfFile = refl
by_follows None Full = refl
by_follows (Some reason) Done = refl
by_follows (Some reason) (Got line) = refl
by_follows (Some reason) EndOfFile = refl
by_follows (Some reason) Full = refl

module _ (a b : AuditedRequest) (x y : Answer) (sound : IsSound a x) (its : IsSound b y) where
  abbrev first_words : List ℕ
  first_words = words_of (decimal a.number) a.account (decimal a.statement) (act_word a.act) (decimal a.unit) (target_word a.target) (decimal a.place) (outcome_word x) (by_words a.grant x)

  abbrev other_words : List ℕ
  other_words = words_of (decimal b.number) b.account (decimal b.statement) (act_word b.act) (decimal b.unit) (target_word b.target) (decimal b.place) (outcome_word y) (by_words b.grant y)

  same_words : first_words ≡ other_words → SaysTheSame a x b y
  same_words h =
      let r1 = split (decimal a.number) (decimal b.number) _ _ (number_is a.number sound.number) (number_is b.number its.number) refl refl h in
      let e1 = tail r1.1 in
      let r2 = split a.account b.account _ _ (name_is a.account sound.account) (name_is b.account its.account) refl refl e1 in
      let e2 = tail (tail (tail (tail (tail (tail (tail r2.1)))))) in
      let r3 = split (decimal a.statement) (decimal b.statement) _ _ (number_is a.statement sound.statement) (number_is b.statement its.statement) refl refl e2 in
      let r4 = split (act_word a.act) (act_word b.act) _ _ (act_is a.act) (act_is b.act) refl refl (tail r3.1) in
      let r5 = split (decimal a.unit) (decimal b.unit) _ _ (number_is a.unit sound.unit) (number_is b.unit its.unit) refl refl (tail r4.1) in
      let r6 = split (target_word a.target) (target_word b.target) _ _ (target_is a.target sound.target) (target_is b.target its.target) refl refl (tail r5.1) in
      let r7 = split (decimal a.place) (decimal b.place) _ _ (number_is a.place sound.place) (number_is b.place its.place) refl refl (tail r6.1) in
      let r8 = split (outcome_word x) (outcome_word y) _ _ (outcome_is x) (outcome_is y) (by_follows a.grant x) (by_follows b.grant y) (tail r7.1) in
      let same : told a.grant x ≡ told b.grant y =
      sym (told_back a.grant x sound.grant sound.reason) ∙ ap told_at (append_cancel_right (by_words a.grant x) (by_words b.grant y) (10 ∷ []) r8.1) ∙ told_back b.grant y its.grant its.reason in
      record {
        number = decimal_injective a.number b.number sound.number its.number r1.0;
        account = r2.0;
        statement = decimal_injective a.statement b.statement sound.statement its.statement r3.0;
        act = sym (act_back a.act) ∙ ap (λ (w : List ℕ). act_at (get_or w 2 0)) r4.0 ∙ act_back b.act;
        unit = decimal_injective a.unit b.unit sound.unit its.unit r5.0;
        target = sym (target_back a.target sound.target) ∙ ap target_at r6.0 ∙ target_back b.target its.target;
        place = decimal_injective a.place b.place sound.place its.place r7.0;
        outcome =
            sym (outcome_back a.grant x) ∙ ap (λ (w : List ℕ). outcome_at w (told a.grant x)) r8.0 ∙ ap (outcome_at (outcome_word y)) same
            ∙ outcome_back b.grant y;
        by =
            sym (grantor_back a.grant x) ∙ ap (λ (w : List ℕ). grantor_at w (told a.grant x)) r8.0 ∙ ap (grantor_at (outcome_word y)) same
            ∙ grantor_back b.grant y;
      }
    where
      tail : {c d : ℕ} {xs ys : List ℕ} → c ∷ xs ≡ d ∷ ys → xs ≡ ys
      tail k = cc (k)

  told_apart : request_line a x ≡ request_line b y → SaysTheSame a x b y
  told_apart h = same_words (fourth (sym (flat _ _ _ _ _ _ _ _ _) ∙ h ∙ flat _ _ _ _ _ _ _ _ _))
    where
      fourth : 74 ∷ 79 ∷ 66 ∷ 32 ∷ first_words ≡ 74 ∷ 79 ∷ 66 ∷ 32 ∷ other_words → first_words ≡ other_words
      fourth k = cc (k)

pub tells_apart : TellsApart
tells_apart a b x y sound its h = told_apart a b x y sound its h
