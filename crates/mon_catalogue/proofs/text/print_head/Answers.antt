use Rattle.mon_catalogue.proofs.Putting.{head_put}
use Rattle.mon_catalogue.proofs.text.print_head.Goals as goal

pub returns : goal.returns
returns g c =
    head_put _ _ _ _ _ _ _ _ c.args.name.now c.args.set.now _ _ _ _ _
    (record {
      name_is = c.as_bytes.ensures.value;
      owner_is = c.as_bytes-2.ensures.value;
      group_is = c.as_bytes-3.ensures.value;
      mode_is = c.word.ensures;
      count_is = c.len.ensures.value;
    })
    c.put.ensures c.put-2.ensures c.print_word.ensures c.print_word-2.ensures c.print_word-3.ensures c.print_number.ensures c.put-3.ensures
