-- Under which name a claimed file stands (own): its number, the account in whose box it was, and its name there, with colons between.
use Rattle.std.specs.Prelude.{◌≡◌, ◌≢◌, ◌<◌, ◌^◌, ℕ, ◌+◌, ◌==◌, List, [], ◌∷◌, ◌++◌, take, drop, Option, None, Some, option_map, decimal, if◌then◌else◌}
use Rattle.std.specs.Option.{option_and_then}
use Rattle.std.specs.List.{AllByRecursion}
use Rattle.ledger_text.specs.Records.{count_of}
use Rattle.ledger_names.specs.declared.naming.Claim as code

abbrev pub claimed_name : ℕ → List ℕ → List ℕ → List ℕ
claimed_name number account name = decimal number ++ 58 ∷ (account ++ 58 ∷ name)

-- ---- reading

-- what a name says
pub record Claim : Type 0 where
  pub number : ℕ
  pub account : List ℕ
  pub name : List ℕ

abbrev pub seen_claim : code.Claim → Claim
seen_claim claim = record { number = claim.number; account = claim.account.now; name = claim.name.now }

-- where the first colon stands, counted from a number on
abbrev pub colon : ℕ → List ℕ → Option ℕ
colon n [] = None
colon n (c ∷ cs) = if c == 58 then Some n else colon (n + 1) cs

abbrev pub parts_at : List ℕ → Option ℕ → Option (List ℕ × List ℕ)
parts_at text None = None
parts_at text (Some i) = Some (take i text, drop (i + 1) text)

-- what stands before the first colon, and what behind it
abbrev pub split : List ℕ → Option (List ℕ × List ℕ)
split text = parts_at text (colon 0 text)

abbrev pub claim_with : List ℕ → List ℕ → ℕ → Claim
claim_with account name number = record { number = number; account = account; name = name }

abbrev pub claim_in : List ℕ → List ℕ → List ℕ → Option Claim
claim_in digits account name = option_map (claim_with account name) (count_of digits)

abbrev pub claim_behind : List ℕ → List ℕ × List ℕ → Option Claim
claim_behind digits parts = claim_in digits parts.0 parts.1

abbrev pub claim_of_parts : List ℕ × List ℕ → Option Claim
claim_of_parts parts = option_and_then (claim_behind parts.0) (split parts.1)

abbrev pub claim_of : List ℕ → Option Claim
claim_of text = option_and_then claim_of_parts (split text)

-- ---- a law

-- a name says what it was made of, where the account has no colon; accounts have none
abbrev pub ReadsNames : Type 0
ReadsNames = (number : ℕ) (account name : List ℕ) → number < 2 ^ 63 → AllByRecursion (λ c. c ≢ 58) account
    → claim_of (claimed_name number account name) ≡ Some (record { number = number; account = account; name = name })
