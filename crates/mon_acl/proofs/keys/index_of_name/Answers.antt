use Rattle.std.proofs.Common.{ℕ, List, ◌≤◌, ◌<◌, ◌+◌, ◌*◌, ◌∙◌, ap, sym, subst, length}
use Rattle.mon_acl.{specs.Entries.{rank}, proofs.Keyed.{name_fits, few_keys, found_by_name}}
use Rattle.mon_acl.proofs.keys.index_of_name.Goals as goal

pub key_of-key-requires : goal.key_of-key-requires
key_of-key-requires c = subst (λ (head : ℕ). head < 2305843009213693952) (sym c.head.ensures) (name_fits c.args.name.now c.as_bytes-text.ensures.name)

pub index_of_key-requires-clause-few : goal.index_of_key-requires-clause-few
index_of_key-requires-clause-few c = few_keys c.args.keys.now c.args.entries.now c.requires.keys c.requires.list.valid

pub returns-then-text-le-MOST_IN_KEY : goal.returns-then-text-le-MOST_IN_KEY
returns-then-text-le-MOST_IN_KEY c =
    found_by_name c.args.keys.now c.args.entries.now c.args.tag c.args.name.now c.key_of-key.result c.requires.keys
    (c.key_of-key.ensures ∙ ap (λ (head : ℕ). head * 8 + rank c.args.tag) c.head.ensures) c.requires.list.valid c.as_bytes-text.ensures.name
    (subst (λ (text : List ℕ). length text ≤ 7) c.as_bytes-text.ensures.value c.if-text-le-MOST_IN_KEY.true) c.index_of_key.result c.index_of_key.ensures
