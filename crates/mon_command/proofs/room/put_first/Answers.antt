use Rattle.std.proofs.Common.{rules, ◌≡◌, ◌∙◌, ◌≤◌, ◌++◌, length, take}
use Rattle.mon_command.proofs.Pieces.{cut_to}
use Rattle.mon_command.proofs.room.put_first.Goals as goal

pub returns : goal.returns
returns c =
    let few : c.args.count ≤ 48 = search rules in
    let is : c.len-before.result ≡ length c.args.out.now.items = search rules in
    let appended : c.extend_from_slice-2.new.self.items ≡ c.args.out.now.items ++ take 48 c.args.room.now = search rules in
    c.truncate.ensures.items ∙ cut_to c.args.count 48 c.len-before.result c.args.out.now.items c.args.room.now c.extend_from_slice-2.new.self.items few is appended
