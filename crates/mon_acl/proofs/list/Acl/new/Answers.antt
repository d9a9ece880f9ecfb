use Rattle.std.proofs.Common.{List, ◌∙◌, ap, sym, subst}
use Rattle.std.specs.Prelude.{All}
use Rattle.mon_acl.{specs.declared.entries.Entry.{Entry}, specs.Entries.{IsEntry}, specs.inner.Keys.{keys_of}, proofs.Keyed.{few_keys}}
use Rattle.mon_acl.proofs.list.Acl.new.Goals as goal

pub keys_of-requires : goal.keys_of-requires
keys_of-requires c = subst (λ (es : List Entry). All IsEntry es) (sym (c.as_slice.ensures ∙ c.shrink_to_fit.ensures.items)) c.requires.valid.entries

pub chains_of-chains-requires : goal.chains_of-chains-requires
chains_of-chains-requires c =
    few_keys c.as_slice-2.result.now c.args.entries.items
    (c.as_slice-2.ensures ∙ c.in_ok-keys.ensures.keys ∙ ap keys_of (c.as_slice.ensures ∙ c.shrink_to_fit.ensures.items)) c.requires.valid
