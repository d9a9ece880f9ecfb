-- What changes the sets of a catalogue: one is taken out, or is changed in its place (own). The sets keep their order.
use Rattle.std.specs.Prelude.{ℕ, nat_eq, List, [], ◌∷◌, if◌then◌else◌}
use Rattle.std.specs.Cmp.Lexicographic.{pointwise}
use Rattle.std.specs.Map.{remove_entry}
use Rattle.mon_acl.specs.declared.entries.Entry.{Entry}
use Rattle.mon_catalogue.specs.declared.data_set.DataSet.{DataSet}
use Rattle.mon_catalogue.specs.Sets.{Sets}

-- all but the set of this name
abbrev pub without_set : List ℕ → Sets → Sets
without_set name sets = remove_entry (pointwise nat_eq name) sets

-- the set of this name is changed so
abbrev pub with_changed : List ℕ → (DataSet → DataSet) → Sets → Sets
with_changed name change [] = []
with_changed name change (named ∷ sets) =
    if pointwise nat_eq name named.0 then (named.0, change named.1) ∷ sets else named ∷ with_changed name change sets

-- the set of this name has this list
abbrev pub with_acl : List ℕ → List Entry → Sets → Sets
with_acl name acl sets = with_changed name (λ set. record set { acl = acl }) sets
