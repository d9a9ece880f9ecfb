-- Places and keys are the same where they are equal.
use Rattle.std.specs.Prelude.{◌≡◌, ℕ, nat_eq, Bool, true, false, ◌&&◌, List}
use Rattle.std.proofs.Common.{refl, sym, ap, ◌∙◌, true≢false}
use Rattle.std.specs.Bool.{Decides}
use Rattle.std.specs.Cmp.{IsEquivalence, decided, unsigned_Decides, signed_Decides}
use Rattle.std.specs.Cmp.Lexicographic.{bytes_decides}
use Rattle.sno_value.specs.declared.key.Key.{Key}
use Rattle.sno_value.specs.declared.key.Key.TheVariants.{Text, Integer, Table}
use Rattle.sno_value.specs.declared.key.Place.{Place}
use Rattle.sno_value.specs.Keys.{same_key, same_place}

pub key_decides : (k l : Key) → Decides (same_key k l) (k ≡ l)
key_decides (Text s) (Text t) = (λ h. ap Text ((bytes_decides s t).0 h), λ e. (bytes_decides s t).1 cc)
key_decides (Integer m) (Integer n) = (λ h. ap Integer ((signed_Decides m n).0 h), λ e. (signed_Decides m n).1 cc)
key_decides (Table m) (Table n) = (λ h. ap Table ((unsigned_Decides m n).0 h), λ e. (unsigned_Decides m n).1 cc)
key_decides (Text s) (Integer n) = (λ h. cc, λ e. cc)
key_decides (Text s) (Table n) = (λ h. cc, λ e. cc)
key_decides (Integer m) (Text t) = (λ h. cc, λ e. cc)
key_decides (Integer m) (Table n) = (λ h. cc, λ e. cc)
key_decides (Table m) (Text t) = (λ h. cc, λ e. cc)
key_decides (Table m) (Integer n) = (λ h. cc, λ e. cc)

pub both : (a b : Bool) → (a && b) ≡ true → (a ≡ true) × (b ≡ true)
both true b h = (refl, h)
both false b h = absurd (true≢false (sym h))

of_both : (a b : Bool) → a ≡ true → b ≡ true → (a && b) ≡ true
of_both true b h k = k
of_both false b h k = h

abbrev made : ℕ → Key → Place
made t k = record { table = t; key = k }

pub place_decides : (p q : Place) → Decides (same_place p q) (p ≡ q)
place_decides p q = (
  λ h.
      let d = both (nat_eq p.table q.table) (same_key p.key q.key) h in
      ap (λ (t : ℕ). made t p.key) ((unsigned_Decides p.table q.table).0 d.0) ∙ ap (λ (k : Key). made q.table k) ((key_decides p.key q.key).0 d.1),
  λ e. of_both (nat_eq p.table q.table) (same_key p.key q.key)
      ((unsigned_Decides p.table q.table).1 (ap (λ (r : Place). r.table) e)) ((key_decides p.key q.key).1 (ap (λ (r : Place). r.key) e)),
)

pub same_key_equiv : IsEquivalence same_key
same_key_equiv = decided same_key key_decides

pub same_place_equiv : IsEquivalence same_place
same_place_equiv = decided same_place place_decides
