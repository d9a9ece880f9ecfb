-- What a commit records (own), and the fields that a record is made of: its kind, its time, and what is said, a word or a body each.
use Rattle.std.specs.Prelude.{ℕ, List, [], ◌∷◌, codes, decimal, nat_eq, ◌≡◌, ◌<◌, ◌^◌, Option, None, Some, option_map, if◌then◌else◌}
use Rattle.std.specs.List.{AllByRecursion}
use Rattle.std.specs.Cmp.Lexicographic.{pointwise}
use Rattle.std.specs.Option.{option_and_then}
use Rattle.mon_text.specs.Counts.{is_count, value_of}
use Rattle.ledger_text.specs.declared.record.Entry.{Entry}
use Rattle.ledger_text.specs.declared.record.Record.{Record}
use Rattle.ledger_text.specs.declared.record.Record.TheVariants as code

-- what a record says
pub data Said : Type 0 where
  Took : ℕ → List ℕ → ℕ → List ℕ → List ℕ → Said
  Refused : ℕ → List ℕ → ℕ → List ℕ → List ℕ → Said
  Ran : ℕ → List ℕ → Said
  Audit : ℕ → List ℕ → Said
  Keep : ℕ → List ℕ → ℕ → List ℕ → Said
  Set : ℕ → List ℕ → List ℕ → List ℕ → Said
  Gone : ℕ → List ℕ → Said
  Dropped : ℕ → List ℕ → List ℕ → Said
  Gave : ℕ → ℕ → Said
  Tables : List ℕ → Said
  Checked : ℕ → List ℕ → Said
  Edit : List ℕ → List ℕ → Said

-- what a record of the code says
abbrev pub seen : Record → Said
seen (code.Took file text) = Took file.number file.account.now file.uid file.name.now text.now
seen (code.Refused file reply) = Refused file.number file.account.now file.uid file.name.now reply.now
seen (code.Ran number printout) = Ran number printout.now
seen (code.Audit number lines) = Audit number lines.now
seen (code.Keep number set first records) = Keep number set.now first records.now
seen (code.Set number set head records) = Set number set.now head.now records.now
seen (code.Gone number set) = Gone number set.now
seen (code.Dropped number reason reply) = Dropped number reason.now reply.now
seen (code.Gave first last) = Gave first last
seen (code.Tables tables) = Tables tables.now
seen (code.Checked count digest) = Checked count digest.now
seen (code.Edit who act) = Edit who.now act.now

-- and when: in seconds since the beginning of 1970, UTC
abbrev pub seen_at : Entry → ℕ × Said
seen_at entry = (entry.time, seen entry.record)

-- the fields of what was said at this time
abbrev pub fields_of : ℕ → Said → List (List ℕ)
fields_of time (Took number account uid name text) = codes "TOOK" ∷ decimal time ∷ decimal number ∷ account ∷ decimal uid ∷ name ∷ text ∷ []
fields_of time (Refused number account uid name reply) = codes "REFUSED" ∷ decimal time ∷ decimal number ∷ account ∷ decimal uid ∷ name ∷ reply ∷ []
fields_of time (Ran number printout) = codes "RAN" ∷ decimal time ∷ decimal number ∷ printout ∷ []
fields_of time (Audit number lines) = codes "AUDIT" ∷ decimal time ∷ decimal number ∷ lines ∷ []
fields_of time (Keep number set first records) = codes "KEEP" ∷ decimal time ∷ decimal number ∷ set ∷ decimal first ∷ records ∷ []
fields_of time (Set number set head records) = codes "SET" ∷ decimal time ∷ decimal number ∷ set ∷ head ∷ records ∷ []
fields_of time (Gone number set) = codes "GONE" ∷ decimal time ∷ decimal number ∷ set ∷ []
fields_of time (Dropped number reason reply) = codes "DROPPED" ∷ decimal time ∷ decimal number ∷ reason ∷ reply ∷ []
fields_of time (Gave first last) = codes "GAVE" ∷ decimal time ∷ decimal first ∷ decimal last ∷ []
fields_of time (Tables tables) = codes "TABLES" ∷ decimal time ∷ tables ∷ []
fields_of time (Checked count digest) = codes "CHECKED" ∷ decimal time ∷ decimal count ∷ digest ∷ []
fields_of time (Edit who act) = codes "EDIT" ∷ decimal time ∷ who ∷ act ∷ []

-- ---- reading

-- a number of at most 19 digits
abbrev pub count_of : List ℕ → Option ℕ
count_of word = if is_count word then Some (value_of word) else None

-- of a kind and a body
abbrev pub tables_of : List ℕ → List ℕ → Option Said
tables_of kind body = if pointwise nat_eq kind (codes "TABLES") then Some (Tables body) else None

-- of a kind, a number and a body
abbrev pub short_of : List ℕ → ℕ → List ℕ → Option Said
short_of kind number body =
    if pointwise nat_eq kind (codes "RAN") then Some (Ran number body)
    else if pointwise nat_eq kind (codes "AUDIT") then Some (Audit number body)
    else if pointwise nat_eq kind (codes "GONE") then Some (Gone number body)
    else if pointwise nat_eq kind (codes "CHECKED") then Some (Checked number body)
    else if pointwise nat_eq kind (codes "GAVE") then option_map (Gave number) (count_of body)
    else None

-- of a kind, a word, which is a number but in what the operator did, and a body
abbrev pub pair_of : List ℕ → List ℕ → List ℕ → Option Said
pair_of kind word body =
    if pointwise nat_eq kind (codes "EDIT") then Some (Edit word body)
    else option_and_then (λ n. short_of kind n body) (count_of word)

-- of a kind, a number, a word and a body
abbrev pub long_of : List ℕ → ℕ → List ℕ → List ℕ → Option Said
long_of kind number word body =
    if pointwise nat_eq kind (codes "DROPPED") then Some (Dropped number word body) else None

-- of a kind, a number, a set, what is said of it, and records
abbrev pub set_of : List ℕ → ℕ → List ℕ → List ℕ → List ℕ → Option Said
set_of kind number set word records =
    if pointwise nat_eq kind (codes "SET") then Some (Set number set word records)
    else if pointwise nat_eq kind (codes "KEEP") then option_map (λ first. Keep number set first records) (count_of word)
    else None

-- of a kind, and of a claimed file with a body
abbrev pub file_with : List ℕ → ℕ → List ℕ → List ℕ → List ℕ → ℕ → Option Said
file_with kind number account name body uid =
    if pointwise nat_eq kind (codes "TOOK") then Some (Took number account uid name body)
    else if pointwise nat_eq kind (codes "REFUSED") then Some (Refused number account uid name body)
    else None

abbrev pub file_of : List ℕ → ℕ → List ℕ → List ℕ → List ℕ → List ℕ → Option Said
file_of kind number account uid name body = option_and_then (file_with kind number account name body) (count_of uid)

-- of a kind, and what stands behind its time
abbrev pub rest_of : List ℕ → List (List ℕ) → Option Said
rest_of kind (body ∷ []) = tables_of kind body
rest_of kind (word ∷ body ∷ []) = pair_of kind word body
rest_of kind (number ∷ word ∷ body ∷ []) = option_and_then (λ n. long_of kind n word body) (count_of number)
rest_of kind (number ∷ set ∷ word ∷ body ∷ []) = option_and_then (λ n. set_of kind n set word body) (count_of number)
rest_of kind (number ∷ account ∷ uid ∷ name ∷ body ∷ []) = option_and_then (λ n. file_of kind n account uid name body) (count_of number)
rest_of kind fields = None

-- what fields say, and when, if they are those of a record
abbrev pub timed : Option Said → ℕ → Option (ℕ × Said)
timed said time = option_map (λ s. (time, s)) said

abbrev pub said_of : List (List ℕ) → Option (ℕ × Said)
said_of (kind ∷ time ∷ rest) = option_and_then (timed (rest_of kind rest)) (count_of time)
said_of fields = None

-- ---- a law

-- the numbers that it says
abbrev pub numbers_of : Said → List ℕ
numbers_of (Took number account uid name text) = number ∷ uid ∷ []
numbers_of (Refused number account uid name reply) = number ∷ uid ∷ []
numbers_of (Ran number printout) = number ∷ []
numbers_of (Audit number lines) = number ∷ []
numbers_of (Keep number set first records) = number ∷ first ∷ []
numbers_of (Set number set head records) = number ∷ []
numbers_of (Gone number set) = number ∷ []
numbers_of (Dropped number reason reply) = number ∷ []
numbers_of (Gave first last) = first ∷ last ∷ []
numbers_of (Tables tables) = []
numbers_of (Checked count digest) = count ∷ []
numbers_of (Edit who act) = []

-- what a record says is read of its fields, with its time
abbrev pub ReadsRecords : Type 0
ReadsRecords = (time : ℕ) (said : Said) → time < 2 ^ 63 → AllByRecursion (λ n. n < 2 ^ 63) (numbers_of said)
    → said_of (fields_of time said) ≡ Some (time, said)
