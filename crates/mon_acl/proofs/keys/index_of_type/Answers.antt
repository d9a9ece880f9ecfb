use Rattle.mon_acl.proofs.Keyed.{few_keys, found_by_type}
use Rattle.mon_acl.proofs.keys.index_of_type.Goals as goal

pub index_of_key-requires-clause-few : goal.index_of_key-requires-clause-few
index_of_key-requires-clause-few c = few_keys c.args.keys.now c.args.entries.now c.requires.keys c.requires.list.valid

pub returns : goal.returns
returns c =
    found_by_type c.args.keys.now c.args.entries.now c.args.tag c.key_of.result c.requires.keys c.key_of.ensures c.requires.list.valid c.index_of_key.result c.index_of_key.ensures
