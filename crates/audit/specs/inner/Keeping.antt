-- Words of a request's line that are kept: they are those of the next line of the same act on the same unit.
use Rattle.std.specs.Prelude.{◌≡◌, ℕ, Bool, true, false, List, Box, Option, None, Some, option_map, IfSome}
use Rattle.std.specs.declared.alloc.Global.{Global}
use Rattle.std.specs.Option.{option_and_then}
use Rattle.mon_access.specs.declared.account.Account.{Account}
use Rattle.mon_catalogue.specs.declared.mode.Mode.{Mode}
use Rattle.mon_catalogue.specs.declared.mode.Mode.TheVariants.{Seq, Append}
use Rattle.mon_catalogue.specs.declared.data_set.DataSet.{DataSet}
use Rattle.mon_catalogue.specs.Sets.{Sets, find_set}
use Rattle.interaction.specs.declared.request.Act.{Act}
use Rattle.interaction.specs.declared.request.Act.TheVariants as asks
use Rattle.mon_unit.specs.declared.note.NoteAct.{NoteAct}
use Rattle.mon_unit.specs.declared.note.NoteAct.TheVariants.{Read, Write, Endfile, Rewind}
use Rattle.mon_unit.specs.declared.tie.Target.{Target}
use Rattle.mon_unit.specs.declared.tie.Target.TheVariants.{Untied, Data, Spool, Set}
use Rattle.mon_unit.specs.Tying.{tie_at}
use Rattle.mon_unit.specs.Serving.{Reach}
use Rattle.audit.specs.declared.request.AuditedRequest.{AuditedRequest}
use Rattle.audit.specs.declared.cached_line.CachedLine.{CachedLine}
use Rattle.audit.specs.declared.audit_cache.AuditCache.{AuditCache}
use Rattle.audit.specs.Requests.{grant}
use Rattle.audit.specs.inner.Parts.{grant_words}
use Rattle.audit.specs.inner.KeptWords.{text_of, head_words, target_words}

-- the data set that is read or written
abbrev pub named : Target → Option (List ℕ)
named Untied = None
named Data = None
named Spool = None
named (Set name) = Some name

abbrev pub is_append : Mode → Bool
is_append Seq = false
is_append Append = true

-- what is written is added to a data set of mode APPEND
abbrev pub appends : NoteAct → Option DataSet → Bool
appends Write (Some set) = is_append set.mode
appends Write None = false
appends Read set = false
appends Endfile set = false
appends Rewind set = false

-- the words that are kept are those of what was asked
pub record HasWords (asked : AuditedRequest) (k : CachedLine) : Type 0 where
  pub unit : k.unit ≡ asked.unit
  pub head : text_of k.head ≡ head_words asked.number asked.account
  pub target : text_of k.target ≡ target_words asked.act asked.unit asked.target
  pub grant : text_of k.grant ≡ grant_words asked.grant

-- the set that a unit's reads and writes look at
abbrev pub looked : Reach → ℕ → Option DataSet
looked reach u = option_and_then (λ name. find_set name reach.sets) (named (tie_at reach.units u).target)

-- they are those of any line of that act on that unit, as the units and the data sets stand
pub record LineFits (n : ℕ) (account : Account) (reach : Reach) (act : NoteAct) (u : ℕ) (k : CachedLine) : Type 0 where
  pub head : text_of k.head ≡ head_words n account.name
  pub target : text_of k.target ≡ target_words act u (tie_at reach.units u).target
  pub grant : text_of k.grant ≡ grant_words (option_and_then (grant account act) (looked reach u))
  pub moves : appends act (looked reach u) ≡ false

abbrev pub held : Option (Box CachedLine Global) → Option CachedLine
held kept = option_map (λ line. line.value) kept

abbrev pub KeptFits : ℕ → Account → Reach → AuditCache → Type 0
KeptFits n account reach kept =
    IfSome (held kept.read) (λ k. LineFits n account reach Read k.unit k) × IfSome (held kept.write) (λ k. LineFits n account reach Write k.unit k)

-- what is kept of an act, which is of its unit
abbrev pub IsLineOf : AuditCache → Act → CachedLine → Type 0
IsLineOf kept (asks.Read u) k = (held kept.read ≡ Some k) × (k.unit ≡ u)
IsLineOf kept (asks.Write u line) k = (held kept.write ≡ Some k) × (k.unit ≡ u)
IsLineOf kept (asks.Endfile u) k = ⊥
IsLineOf kept (asks.Rewind u) k = ⊥

-- what is kept of a line, if anything is, over the data sets as the request has left them
abbrev pub IsNew : AuditedRequest → Sets → Option CachedLine → Type 0
IsNew asked sets kept =
    IfSome kept (λ k. HasWords asked k × (appends asked.act (option_and_then (λ name. find_set name sets) (named asked.target)) ≡ false))

abbrev pub KeepsBy : NoteAct → AuditedRequest → Sets → AuditCache → AuditCache → Type 0
KeepsBy Read asked sets old new = IsNew asked sets (held new.read) × (new.write ≡ old.write)
KeepsBy Write asked sets old new = (new.read ≡ old.read) × IsNew asked sets (held new.write)
KeepsBy Endfile asked sets old new = (new.read ≡ old.read) × (new.write ≡ old.write)
KeepsBy Rewind asked sets old new = (new.read ≡ old.read) × (new.write ≡ old.write)

abbrev pub Keeps : AuditedRequest → Sets → AuditCache → AuditCache → Type 0
Keeps asked sets old new = KeepsBy asked.act asked sets old new
