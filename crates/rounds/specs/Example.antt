-- Two sites that differ, at which an account finds the same: BOB keeps other records in a data set that ANN may write and not read, and
-- hands in a text in the one of them alone.
use Rattle.std.specs.Prelude.{◌≢◌, ℕ, List, [], ◌∷◌, codes}
use Rattle.mon_access.specs.declared.account.Account.{Account}
use Rattle.mon_catalogue.specs.Sets.{Sets}
use Rattle.deck_lines.specs.declared.command.Command.TheVariants.{Catalog}
use Rattle.deck_syntax.specs.Decks.{Commands}
use Rattle.mon_monitor.specs.Example.{ann, bobs}
use Rattle.rounds.specs.Isolation.{TextRun, Visit, FindsAlike}

abbrev pub bob : Account
bob = record { name = codes "BOB"; primary = codes "DESK"; groups = [] }

abbrev pub pay : List (List ℕ) → Sets
pay records = (codes "PAY", bobs records) ∷ []

-- a `$CATALOG` card by itself
abbrev pub lists_names : ℕ → List ℕ → List ℕ → TextRun
lists_names jobs own line = record { jobs = jobs; text = record { own = own; lines = line ∷ []; asked = Commands (Catalog own) ∷ [] }; marks = [] }

abbrev pub visit : Visit
visit = record {
  here = [];
  there = lists_names 0 (codes "BOB") (codes "$CATALOG BOB") ∷ [];
  own = lists_names 0 (codes "ANN") (codes "$CATALOG ANN");
}

abbrev pub TheyFindAlike : Type 0
TheyFindAlike = FindsAlike 2 (ann ∷ bob ∷ []) ann (visit ∷ []) (pay (codes "BOB 900" ∷ codes "SUE 800" ∷ [])) (pay (codes "BOB 700" ∷ []))
    × (pay (codes "BOB 900" ∷ codes "SUE 800" ∷ []) ≢ pay (codes "BOB 700" ∷ []))
