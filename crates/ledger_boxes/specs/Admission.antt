-- What becomes of a claimed file (own): its text is taken, or its user is told why not: what was found in its place, else the first
-- line that is wrong, else the limit that the account would break.
use Rattle.std.specs.Prelude.{◌≡◌, ◌↔◌, ◌≤◌, ℕ, Bool, true, not, ◌&&◌, ◌==◌, nat_lt, List, [], ◌∷◌, ◌++◌, length, Option, Some, None, is_none, if◌then◌else◌}
use Rattle.std.specs.Option.{option_map_or}
use Rattle.std.specs.Str.Lines.{lines}
use Rattle.deck_syntax.specs.Decks.{Asked}
use Rattle.preflight.specs.declared.quota.HandedIn.{HandedIn}
use Rattle.preflight.specs.declared.tally.Tally.{Tally}
use Rattle.preflight.specs.Allowances.{with_text}
use Rattle.preflight.specs.Examined.{IsSubmission, Verdict, Admits, Refuses as RefusesLine, IsVerdict}
use Rattle.preflight.specs.Tallies.{tally_of}
use Rattle.site_plan.specs.declared.reason.Reason.{Reason}
use Rattle.site_plan.specs.declared.reason.Reason.TheVariants as reason
use Rattle.site_plan.specs.Tables.{ended_lines}
use Rattle.site_plan.specs.Weighing.{weighed}
use Rattle.site_plan.specs.Replies.{reply_text}
use Rattle.ledger_text.specs.Records as said
use Rattle.ledger_boxes.specs.declared.look.Look.{Look}
use Rattle.ledger_boxes.specs.declared.admission.Owner.{Owner}
use Rattle.ledger_boxes.specs.declared.admission.Decision as code
use Rattle.ledger_boxes.specs.declared.admission.Decision.TheVariants as made
use Rattle.ledger_boxes.specs.Sights.{Sight, Looked, Held, is_file}

-- what is decided: a text is taken, which asks for so much; or its user is told this
pub data Decided : Type 0 where
  Takes : List ℕ → Tally → Decided
  Refuses : List ℕ → Decided

abbrev pub seen_decision : code.Decision → Decided
seen_decision (made.Takes text tally) = Takes text.items tally
seen_decision (made.Refuses reply) = Refuses reply.items

-- a file of this user alone, under no other name
abbrev pub is_own : ℕ → Look → Bool
is_own uid look = is_file look.kind && (look.owner == uid) && (look.links == 1)

-- why what stands there is not read
abbrev pub why_unread : Owner → Option Look → Option Reason
why_unread owner None = Some reason.NotOwn
why_unread owner (Some look) =
    if not (is_own owner.uid look) then Some reason.NotOwn
    else if nat_lt owner.quota.bytes look.size then Some reason.TooLong
    else None

-- the text as the ledger has it: the account, and behind it each line, ended by a line feed
abbrev pub text_for : List ℕ → List (List ℕ) → List ℕ
text_for account ls = account ++ 10 ∷ ended_lines ls

abbrev pub refused : Owner → List ℕ → List ℕ → Reason → Decided
refused owner name bytes why = Refuses (reply_text name owner.account why bytes)

-- of a text that its account may hand in
abbrev pub weighed_text : Owner → List ℕ → List ℕ → Tally → Decided
weighed_text owner name bytes tally =
    option_map_or (refused owner name bytes) (weighed owner.quota owner.handed tally) (Takes (text_for owner.account (lines bytes)) tally)

-- of one of which this is said
abbrev pub decided_by : Owner → List ℕ → List ℕ → Verdict → Decided
decided_by owner name bytes (RefusesLine n why) = refused owner name bytes (reason.Line (record { line = n; why = why }))
decided_by owner name bytes (Admits asked) = weighed_text owner name bytes (tally_of asked (length (ended_lines (lines bytes))))

-- of what was read
abbrev pub decided_on : Owner → List ℕ → Option (List ℕ) → Verdict → Decided
decided_on owner name None verdict = refused owner name [] reason.NotReadable
decided_on owner name (Some bytes) verdict =
    if nat_lt owner.quota.bytes (length bytes) then refused owner name [] reason.TooLong
    else decided_by owner name bytes verdict

-- of what stood there, and what was read of it
abbrev pub decision : Owner → List ℕ → Option Look → Option (List ℕ) → Verdict → Decided
decision owner name look bytes verdict = option_map_or (refused owner name []) (why_unread owner look) (decided_on owner name bytes verdict)

-- this is said of what was read, if it was
abbrev pub IsSaidOf : Owner → Option (List ℕ) → Verdict → Type 0
IsSaidOf owner None verdict = Unit {0}
IsSaidOf owner (Some bytes) verdict = IsVerdict owner.account (lines bytes) verdict

pub record IsDecidedOn (owner : Owner) (name : List ℕ) (bytes : Option (List ℕ)) (decided : Decided) : Type 0 where
  pub verdict : Verdict
  pub is_said : IsSaidOf owner bytes verdict
  pub is : decided ≡ decided_on owner name bytes verdict

-- what was seen for that
abbrev pub sights_of : Owner → ℕ → Option Look → Option (List ℕ) → List Sight
sights_of owner number look bytes = Looked number look ∷ (if is_none (why_unread owner look) then Held number bytes ∷ [] else [])

-- it is decided by what was seen
pub record DecidesBy {B : Type 0} (seen : B → List Sight) (owner : Owner) (name : List ℕ) (number : ℕ) (decided : Decided) (old new : B) : Type 0 where
  pub look : Option Look
  pub bytes : Option (List ℕ)
  pub verdict : Verdict
  pub is_said : IsSaidOf owner bytes verdict
  pub saw : seen new ≡ seen old ++ sights_of owner number look bytes
  pub is : decided ≡ decision owner name look bytes verdict

-- ---- what follows

-- the record
abbrev pub said_of : ℕ → ℕ → List ℕ → List ℕ → Decided → said.Said
said_of number uid account name (Takes text tally) = said.Took number account uid name text
said_of number uid account name (Refuses reply) = said.Refused number account uid name reply

-- what the account has handed in
abbrev pub handed_behind : HandedIn → Decided → HandedIn
handed_behind handed (Takes text tally) = with_text handed tally
handed_behind handed (Refuses reply) = handed

-- ---- a law

-- a regular file of the user alone, within the limit, whose lines are whole cards of their account, with which it breaks no limit
pub record IsTaken (owner : Owner) (look : Option Look) (bytes : Option (List ℕ)) (text : List ℕ) (tally : Tally) : Type 0 where
  pub file : Look
  pub is_there : look ≡ Some file
  pub own : is_own owner.uid file ≡ true
  pub small : file.size ≤ owner.quota.bytes
  pub content : List ℕ
  pub is_read : bytes ≡ Some content
  pub short : length content ≤ owner.quota.bytes
  pub asked : List Asked
  pub are_cards : IsSubmission owner.account (lines content) asked
  pub tally_is : tally ≡ tally_of asked (length (ended_lines (lines content)))
  pub is_light : weighed owner.quota owner.handed tally ≡ None
  pub text_is : text ≡ text_for owner.account (lines content)

-- it is taken exactly where it is such a file
abbrev pub TakesExactly : Type 0
TakesExactly = (owner : Owner) (name : List ℕ) (look : Option Look) (bytes : Option (List ℕ)) (verdict : Verdict) (text : List ℕ) (tally : Tally)
    → IsSaidOf owner bytes verdict → (decision owner name look bytes verdict ≡ Takes text tally) ↔ IsTaken owner look bytes text tally
