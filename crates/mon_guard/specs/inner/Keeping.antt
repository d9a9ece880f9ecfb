-- How rows are used and added: for the code.
use Rattle.std.specs.Prelude.{◌≡◌, ℕ, List, [], ◌∷◌, ◌++◌, ◌⊎◌, Contains}
use Rattle.mon_access.specs.declared.account.Account.{Account}
use Rattle.mon_access.specs.declared.compiled.CompiledAcl.{CompiledAcl}
use Rattle.mon_catalogue.specs.declared.data_set.DataSet.{DataSet}
use Rattle.mon_guard.specs.declared.cache.CachedDecision.{CachedDecision}
use Rattle.mon_guard.specs.Cache.{ready_on}

-- some row says this of the account on the set of the name
abbrev pub Says : List CachedDecision → Account → List ℕ → CompiledAcl → Type 0
Says rows account name ready = Contains rows (record { account = account; set = name; ready = ready })

-- the rows of this name say what the access check decides on this set
abbrev pub FitOn : List ℕ → DataSet → List CachedDecision → Type 0
FitOn name set rows = (row : CachedDecision) → Contains rows row → row.set ≡ name → row.ready ≡ ready_on row.account set

-- the row of an account on the set of a name
abbrev pub row_on : Account → List ℕ → DataSet → CachedDecision
row_on account name set = record { account = account; set = name; ready = ready_on account set }

-- the rows stay, or there is one more behind them: that of the account on the set
abbrev pub MayKeep : Account → List ℕ → DataSet → List CachedDecision → List CachedDecision → Type 0
MayKeep account name set old new = (new ≡ old) ⊎ (new ≡ old ++ row_on account name set ∷ [])
